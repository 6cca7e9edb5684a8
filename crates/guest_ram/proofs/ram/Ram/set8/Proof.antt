-- `set8` takes the cell of one byte out of the block, writes it and puts it back.
use Rattle.guest_ram.proofs.Steps.{ℕ, List, [], ◌∷◌, refl, sym, ap, ◌∙◌, w8, proved, full_share, id⊢, ftrue, fat, flft, named, vunit, vint}
use Rattle.guest_ram.proofs.Steps.{fact, tables, ‵, raw, ◌⊛◌, at_ret, ◌$◌, ◌∵◌, !, qed, done, move, keep, use1, use2, split, join, fsplit}
use Rattle.guest_ram.proofs.Steps.{fsplit3, fjoin, fpick, fpack, feq_i, rewrite, suffices, frame, group, enter, of_opd, un, bin, unit_lit}
use Rattle.guest_ram.proofs.Steps.{load, store, stop, fld, assigns_last, first, blocks, exec, returns, alloc_all, pass_all, free_all}
use Rattle.guest_ram.proofs.Steps.{look_at, get, through, sets, env, u8, yes, shows, uint_vals, uint_Tells, Ptr, lies_at, in_a_block}
use Rattle.guest_ram.proofs.Steps.{MutRef, mut_vals, mut_Tells, plain, nothing, opens, closes, heard, peeks, Stays, walk_of, stay_ref}
use Rattle.guest_ram.proofs.{Steps.{stay_dropped, Goes-ref, Goes-dropped, ends_at}, Insides.{rest, byte_out, byte_in, Held, with_byte}}
use Rattle.guest_ram.proofs.{Insides.{held_set}, WalkSteps.{says2}, ram.Ram.set8.Statement.{statement}, ram.Ram.TheInside.TheLaws.{lowers}}
use Rattle.std.proofs.{Common.{subst, length, get_or, set, length-set, ◌<◌, ◌+◌, ◌*◌, ◌^◌, w32, arith}, VecSteps.Shapes.{after}}
use mir.Syntax.{ty_int}
use mir.Val.{Val}
use base.Fml.{fsep}
use types.Part.{whole, sub, look_in}
use denote.Memory.{cell_at, part_at}
use denote.Array.{Array}
use denote.Builtin.{u32}
use Rattle.guest_ram.specs.{contracts.ram.Ram.{the_row as R}, contracts.ram.Ram.TheInside.{the_row as F}}
use Rattle.guest_ram.specs.declared.ram.Ram.TheInside.{Inside}
use Rattle.guest_ram.specs.contracts.ram.Ram.set8 as f
use Rattle.guest_ram.proofs.ram.Ram.set8.Code as code

abbrev stayed : Stays f.ended.signature.params f.ended.kept
stayed = (stay_ref (0 ∷ []) tt (plain (λ _. R)), (stay_dropped (plain (λ _. u32)) yes, (stay_dropped (plain (λ _. u8)) yes, tt)))

pub set8_spec : {M : Type 1} → statement M
set8_spec 𝓤 𝓛 𝓜 𝓡 wired =
    let c = f.clauses 𝓛 𝓜.mem 𝓡.returns in let W = walk_of 𝓛 f.ended stayed c in let 𝓣 = tables 𝓤 𝓛.H 𝓜 𝓡 𝓡.env in
    proved 𝓛 f.ended stayed c 𝓜 𝓡 (
      Goes-ref 𝓛 1 0 tt (plain (λ _. R)),
      (Goes-dropped 𝓛 1 (plain (λ _. u32)) yes (λ κs x w. refl), (Goes-dropped 𝓛 1 (plain (λ _. u8)) yes (λ κs x w. refl), tt)),
    )
    f.Key.name code.function (code.unfolded 𝓤 𝓛.H 𝓜 𝓡 wired)
    (λ κs. (mut_vals, (uint_vals w32, (uint_vals w8, tt)))) (λ κs. (mut_Tells (named 0) κs.0 R, (uint_Tells w32, (uint_Tells w8, tt))))
    (λ κs qs bounds a _ are.
    let b = a.0.ref_ptr.0 in let o = a.0.ref_ptr.1 in let h : List ℕ = a.0.now in let i : ℕ = a.1.0 in let v : ℕ = a.1.1.0 in
    let vs = mut_vals a.0 in
    let y : W.Ghost = ((κs, qs, bounds, a, (vs, (uint_vals w32 i, (uint_vals w8 v, tt)))), tt) in
    qed 𝓛 (((‵ (flft κs.0 qs.0) ⊛ ‵ ftrue) ⊛ ‵ ((MutRef (named 0) κs.0 R).own_val a.0 vs) ⊛ ‵ ((u32).own_val i (uint_vals w32 i))
    ⊛ ‵ ((u8).own_val v (uint_vals w8 v)) ⊛ ‵ ftrue) ∷ raw (fact 𝓤 (i < length h)) ∷ []) ∵
    split ! $ split ! $ move ! (3 ∷ []) $ heard ! _ (λ inside. move ! (2 ∷ []) $ split ! $ keep ! (0 ∷ 2 ∷ []) $
    enter ! _ _ _ _ _ $
    alloc_all ! (λ l. pass_all ! refl ((tt, tt), ((tt, record { fits = are.1.0.1 }), ((tt, record { fits = are.1.1.0.1 }), tt))) $
    fsplit3 ! $ move ! (1 ∷ 2 ∷ 3 ∷ []) $ opens ! tt R b o (λ us.
    move ! (1 ∷ []) $ fpick ! (λ x. fsplit ! $ peeks ! F _ (shows 𝓛 F) x.0 us (λ is. fsplit ! $ move ! (1 ∷ []) $ fsplit ! $
    let xs : List ℕ = x.0.bytes in let n = 4096 * x.0.frames in
    let low : i < length xs = subst (λ (k : List ℕ). i < length k) (sym x.1.0) inside in
    in_a_block ! x.0.block (λ p. lies_at (Array u8 n) full_share p xs) (id⊢ 𝓤 _) (λ b' o' e.
    use1 𝓛 (‵ (fat full_share (ty_int w8) b' (i + o') (vint w8 (get_or xs i 0))) ⊛ ‵ (rest 𝓛 n xs b' o' i))
    (byte_out 𝓛 n xs b' o' i x.0.long low) $ split ! $
    let word = lowers.val_is x.0 us is ∙ ap (λ (p : Ptr). lowers.lowered (record x.0 { block = p }) ∷ []) e in
    let Cell = λ (ws : List Val). ‵ (cell_at full_share (F).mir ws b o) in
    rewrite ! 5 Cell word refl $
    -- [the byte; the others; the token; what the fields own; nothing; the struct's cell; the open borrow, in three entries]
    first ! $ blocks ! $
    sets ! (of_opd ! (load ! (through ! refl (fld ! refl (stop !))) (look_in ! 5 (sub ! 0 refl (whole !))))) refl (tt, tt) $
    let wide : i < 2 ^ 64 = omega arith in
    sets ! (un ! (get ! refl) (record { fits = wide })) refl (tt, record { fits = wide }) $
    sets ! (bin ! (get ! refl) (get ! refl) tt) refl (tt, tt) $
    assigns_last ! (of_opd ! (get ! refl)) (through ! refl (stop !)) (store ! 0 refl (tt, record { fits = are.1.1.0.1 })) $
    exec ! 𝓣.C 𝓣.Λ (env code.Mir.locals l) (after 1 (code.function).body) (at_ret _ (W.post y)) $
    sets ! (of_opd ! (unit_lit !)) refl (tt, tt) $
    let ys : List ℕ = set xs i v in
    let x' : Inside = with_byte x.0 i v are.1.1.0.1 in
    let new : List ℕ = set h i v in
    use2 𝓛 (‵ (part_at (Array u8 n) full_share ys b' o')) (byte_in 𝓛 n xs b' o' i v x.0.long low) $
    rewrite ! 0 (λ (p : Ptr). ‵ (lies_at (Array u8 n) full_share p ys)) (sym e) refl $ rewrite ! 4 Cell (sym word) refl $
    fjoin ! $ move ! (1 ∷ []) $ fjoin ! $ fjoin ! $
    fpack ! (Held new) (λ z. fsep ((F).own_val z.0 us) ftrue) (x', held_set h x.0 i v x.1) $
    move ! (1 ∷ []) $ closes ! tt R new us b o $
    -- [two parts of self; the token; self's first part]
    returns ! (look_at ! 0 refl) $ free_all ! refl $ move ! (3 ∷ []) $
    suffices ! _ (ends_at 𝓛 f.ended stayed c y vunit tt (new, (tt, (tt, tt))) (tt, (tt, (tt, tt)))) $ says2 ! refl (length-set h i v) $
    group ! 3 $ nothing ! $ nothing ! $ join ! $ nothing ! $ join ! $ move ! (1 ∷ 0 ∷ []) $ join ! $
    nothing ! $ move ! (2 ∷ 0 ∷ []) $ join ! $ frame ! $ frame ! $
    feq_i ! _ (vunit ∷ []) _ refl $ done !)))))))
