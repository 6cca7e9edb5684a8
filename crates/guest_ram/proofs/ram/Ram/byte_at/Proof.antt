-- `byte_at` loads one byte of the block, which a `&` to the memory shows.
use Rattle.guest_ram.proofs.Steps.{ℕ, List, [], ◌∷◌, refl, sym, ap, w8, proved, ftrue, flft, named, vint, fact, tables, ‵, raw, ◌⊛◌, at_ret}
use Rattle.guest_ram.proofs.Steps.{◌$◌, ◌∵◌, !, qed, done, move, keep, drop, use1, split, join, fsplit, fjoin, fpick, feq_i, feq_l, rewrite}
use Rattle.guest_ram.proofs.Steps.{suffices, frame, enter, of_opd, bin, load, look, stop, fld, first, blocks, exec, returns, alloc_all}
use Rattle.guest_ram.proofs.Steps.{pass_all, free_all, look_at, get, through, sets, env, u8, yes, uint_vals, uint_Tells, plain, nothing}
use Rattle.guest_ram.proofs.Steps.{heard, Stays, walk_of, says, stay_dropped, Goes-dropped, ends_at}
use Rattle.guest_ram.proofs.{ram.Ram.byte_at.Statement.{statement}, ram.Ram.TheLaws.{the_row_laws}, Insides.{byte_lent}}
use Rattle.std.proofs.{Common.{subst, length, get_or, ◌<◌, ◌+◌, ◌^◌, w32, w64}, Words.{pointer_in, pointer_out}, VecSteps.Shapes.{after}}
use mir.Val.{Val, vptr}
use base.Fml.{fhide, Lft}
use types.ByLocal.{sets_last}
use types.Kit.{flt_l, flt_i}
use denote.Opens.{shr_dup, unhide, hide}
use denote.Ref.{ShrRef, shr_vals, shr_Tells}
use denote.Memory.{cell_at, hidden_shr}
use denote.Builtin.{usize}
use denote.Triple.Walked.{stay_none_ref, Goes-none_ref}
use Rattle.guest_ram.specs.{contracts.ram.Ram.{the_row as R}, declared.ram.Ram.TheInside.{Inside}}
use denote.RattleType.{RattleType, RowLaws}
use denote.Struct.Struct.{Struct, Struct-row_laws}
use seplogic.Ra.Ura.{Ura}
use base.Logic.{ent, sep}
use types.Logic.{Logic, sem}
use denote.Plain.{uint_row_laws}
use denote.Copied.{uint_Copied}
use denote.RawPtr.{RawPtr, ptr_row_laws, block_of, count_of, InBlock}
use denote.Steps.{looks, shuts}
use denote.Struct.Owning.{shape, to}
use denote.Struct.Lending.{lent_out, in_block_says}
use Rattle.guest_ram.specs.contracts.ram.Ram.byte_at as f
use Rattle.guest_ram.proofs.ram.Ram.byte_at.Code as code
use Rattle.guest_ram.specs.contracts.ram.Ram.TheInside as IN
use Rattle.std.specs.contracts.alloc.Global as GC
use Rattle.std.proofs.alloc.Global.TheLaws as G

laws : RowLaws R
laws = (the_row_laws).shr_laws

Wlaws : RowLaws (Struct (shape IN.the_type))
Wlaws = Struct-row_laws (shape IN.the_type) (ptr_row_laws, (uint_row_laws w32, ((G.the_field_shared).shr_laws, tt)))

abbrev Words : RattleType
Words = Struct (shape IN.the_type)

abbrev fields : Inside → Words.Denot
fields d = to IN.the_type d

abbrev stayed : Stays f.ended.signature.params f.ended.kept
stayed = (stay_none_ref (0 ∷ []) tt (plain (λ _. R)) yes, (stay_dropped (plain (λ _. usize)) yes, tt))

shows_ptr : {M : Type 1} {𝓤 : Ura M} (𝓛 : Logic 𝓤) (κ : Lft) (b o : ℕ) (d : Inside) → ent 𝓤 (sem 𝓛 (hidden_shr Words κ (fields d) b o))
    (sep 𝓤 (sem 𝓛 (hidden_shr RawPtr κ d.block b (o + 0))) (sem 𝓛 (hidden_shr Words κ (fields d) b o)))
shows_ptr 𝓛 κ b o d = qed 𝓛 (‵ (hidden_shr Words κ (fields d) b o) ∷ []) ∵ shr_dup ! Words Wlaws (fields d) b o κ $ unhide ! $ fsplit ! $
    fsplit ! $ hide ! $ keep ! (0 ∷ 3 ∷ []) $ done !

pub byte_at_spec : {M : Type 1} → statement M
byte_at_spec 𝓤 𝓛 𝓜 𝓡 wired =
    let c = f.clauses 𝓛 𝓜.mem 𝓡.returns in let W = walk_of 𝓛 f.ended stayed c in let 𝓣 = tables 𝓤 𝓛.H 𝓜 𝓡 𝓡.env in
    proved 𝓛 f.ended stayed c 𝓜 𝓡 (
      Goes-none_ref 𝓛 1 (0 ∷ []) tt (plain (λ _. R)) yes,
      (Goes-dropped 𝓛 1 (plain (λ _. usize)) yes (λ κs x w. refl), tt),
    )
    f.Key.name code.function (code.unfolded 𝓤 𝓛.H 𝓜 𝓡 wired)
    (λ κs. (shr_vals, (uint_vals w64, tt))) (λ κs. (shr_Tells (named 0) κs.0 R, (uint_Tells w64, tt))) (λ κs qs bounds a _ are.
    let κ = κs.0 in let b = a.0.ref_ptr.0 in let o = a.0.ref_ptr.1 in let h : List ℕ = a.0.now in let i : ℕ = a.1.0 in
    let vs = shr_vals a.0 in
    let y : W.Ghost = ((κs, qs, bounds, a, (vs, (uint_vals w64 i, tt))), tt) in
    qed 𝓛 (((‵ (flft κs.0 qs.0) ⊛ ‵ ftrue) ⊛ ‵ ((ShrRef (named 0) κs.0 R).own_val a.0 vs) ⊛ ‵ ((usize).own_val i (uint_vals w64 i))
    ⊛ ‵ ftrue) ∷ raw (fact 𝓤 (i < length h)) ∷ []) ∵
    split ! $ split ! $ move ! (3 ∷ []) $ heard ! _ (λ inside. move ! (2 ∷ []) $ split ! $ keep ! (0 ∷ 2 ∷ []) $
    enter ! _ _ _ _ _ $ alloc_all ! (λ l. pass_all ! refl ((tt, tt), ((tt, record { fits = are.1.0.1 }), tt)) $
    fsplit ! $ drop ! $ shr_dup ! R laws h b o κ $ unhide ! $ fpick ! (λ x. fsplit ! $ hide ! $
    use1 𝓛 (‵ (hidden_shr Words κ (fields x.0) b o) ⊛ ‵ (fhide (IN.the_lent x.0 x.0.block κ)))
    (lent_out 𝓛 IN.struct (IN.the_codes (GC.the_row).coded) IN.the_heap IN.the_lent κ x.0 b o) $ split ! $
    -- [what a `&` to the fields shows; what one to the bytes does; nothing; self; the token; ..]
    let xs : List ℕ = x.0.bytes in let B = block_of x.0.block in let O = count_of x.0.block in
    let low : i < length xs = subst (λ (k : List ℕ). i < length k) (sym x.1.0) inside in
    move ! (1 ∷ []) $ unhide ! $ fsplit ! $ use1 𝓛 (raw (fact 𝓤 (InBlock x.0.block))) (in_block_says 𝓛 x.0.block) $
    heard ! (InBlock x.0.block) (λ inb. fsplit ! $ drop ! $
    use1 𝓛 (‵ (hidden_shr u8 κ (get_or xs i 0) B (i + O))) (byte_lent 𝓛 κ B O xs i low) $
    -- [the byte's; the fields'; nothing; self; the token; ..]
    move ! (1 ∷ 4 ∷ []) $ first ! $ blocks ! $
    pointer_in ! tt x.0.block inb b (o + 0) (shows_ptr 𝓛 κ b o x.0) (λ q0.
    sets ! (of_opd ! (load ! (through ! refl (fld ! refl (stop !))) (look ! 1 refl))) refl (tt, tt) $
    pointer_out ! tt x.0.block inb b (o + 0) $
    -- [the token; the fields'; the byte's; ..]
    sets ! (bin ! (get ! refl) (get ! refl) tt) refl (tt, tt) $
    move ! (2 ∷ 0 ∷ []) $
    looks ! tt u8 (uint_Copied 𝓛 w8).opens (get_or xs i 0) B (i + O) (λ q1 ws. move ! (1 ∷ []) $ fsplit ! $ feq_l ! (λ e. flt_l ! (λ fn.
    rewrite ! 0 (λ (us : List Val). ‵ (cell_at q1 (u8).mir us B (i + O))) e refl $
    sets_last ! (of_opd ! (load ! (through ! refl (stop !)) (look ! 0 refl))) refl (tt, record { fits = fn }) $
    exec ! 𝓣.C 𝓣.Λ (env code.Mir.locals l) (after 1 (code.function).body) (at_ret _ (W.post y)) $
    sets ! (of_opd ! (get ! refl)) refl (tt, record { fits = fn }) $
    flt_i ! (get_or xs i 0) (2 ^ 8) fn $ feq_i ! (List Val) (vint w8 (get_or xs i 0) ∷ []) (vint w8 (get_or xs i 0) ∷ []) refl $ fjoin ! $
    move ! (1 ∷ []) $
    shuts ! tt u8 q1 (get_or xs i 0) (vint w8 (get_or xs i 0) ∷ []) B (i + O) $
    returns ! (look_at ! 0 refl) $ free_all ! refl $
    keep ! (0 ∷ 4 ∷ []) $
    suffices ! _ (ends_at 𝓛 f.ended stayed c y (vint w8 (get_or xs i 0)) (get_or xs i 0) (tt, (tt, tt)) (tt, (tt, tt))) $
    says ! (ap (λ (k : List ℕ). get_or k i 0) x.1.0) $
    nothing ! $ move ! (1 ∷ 0 ∷ []) $ join ! $ frame ! $ feq_i ! (List Val) (vptr b o ∷ []) (vptr b o ∷ []) refl $ fjoin ! $ nothing ! $
    nothing ! $ fjoin ! $ move ! (1 ∷ 0 ∷ []) $ fjoin ! $
    flt_i ! (get_or xs i 0) (2 ^ 8) fn $ feq_i ! (List Val) (vint w8 (get_or xs i 0) ∷ []) (vint w8 (get_or xs i 0) ∷ []) refl $ fjoin ! $
    move ! (1 ∷ 0 ∷ []) $ done !)))))))))
