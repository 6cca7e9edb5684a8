-- `zeroed` asks for one block, writes it and makes the memory of it.
use Rattle.guest_ram.proofs.Steps.{◌≡◌, ℕ, ◌≤◌, List, [], ◌∷◌, refl, sym, ap, ◌∙◌, lit<, arith, proved, full_share, id⊢, named, Val, vint}
use Rattle.guest_ram.proofs.Steps.{fact, tables, ‵, raw, ◌⊛◌, later, some, at_ret, ◌$◌, ◌∵◌, !, qed, done, move, drop, keep, use1, use2}
use Rattle.guest_ram.proofs.Steps.{split, join, fsplit, fjoin, fpick, fpack, feq_i, feq_l, pick, await, suffices, frame, enter, of_opd, un}
use Rattle.guest_ram.proofs.Steps.{bin, lit, load, look, stop, fld, no_more, and_then, first, blocks, exec, returns, alloc_all, pass_all}
use Rattle.guest_ram.proofs.Steps.{free_all, look_at, get, through, sets, lands_as, env, u8, unit, yes, uint_vals, uint_Tells, Ptr}
use Rattle.guest_ram.proofs.Steps.{block_ptr, lies_at, in_a_block, plain, nothing, owned, heard, only, calls_at, triple_of, Stays, walk_of}
use Rattle.guest_ram.proofs.{Steps.{says, stay_dropped, Goes-dropped, ends_at, framed}, ListedLaws.{length-zeros}, ByteLists.{fit-zeros}}
use Rattle.guest_ram.proofs.{WalkSteps.{big_lit}, Insides.{Held, Words, fields_made}, ram.Ram.TheInside.TheLaws.{lowers}}
use Rattle.guest_ram.proofs.ram.zeroed.Statement.{statement}
use Rattle.std.proofs.{Common.{◌*◌, ◌<◌, ◌^◌, ◌++◌, length, w32, w64, subst, T, Bool, true, false, Ok, Err, IfOk}, VecSteps.Shapes.{after}}
use Rattle.std.proofs.{VecSteps.Shapes.{head, arm_body}, alloc.Calls.{Al, Answer, Answer-typed, Answered, answer_val, answers, got, token}}
use Rattle.std.proofs.{RcSteps.{first_Good, Good}, ResultValues.{ok_of, err_of}, Handle.{sees, seen}}
use Rattle.std.proofs.impls.GlobalAllocator.allocate.Met.{met}
use Rattle.std.specs.{Allocator.{block_if_ok}, contracts.impls.GlobalAllocator.TheImpl.{ghosts, dict}}
use seplogic.Ra.Ura.{Ura}
use mir.Syntax.{Body, Ty, ty_unit}
use mir.Val.{vptr, vcons, vnil, vstruct, of_list, has_ty, WT}
use base.Logic.{SProp, emp, ent, guard, never, fst∗}
use base.Fml.{Lft, Share, ftrue, fsep, flft}
use contract.Monad.{Fun, fact_i}
use prog.Capped.{capped_is}
use prog.Memory.{Memory, size, align, capped}
use prog.Routine.{Routine}
use prog.Wp.{Env, Wp, at_return, after_seq}
use types.Kit.{Post as After, ⋆, any_q, by, use0, flt_i, show, check}
use types.Logic.{Logic, sem}
use types.Part.{whole, agg}
use types.Match.{live, vrt, in_variant}
use types.Run.{switches_on}
use types.ByLocal.{get_in, get_tag, sets_last, lands_last}
use denote.Array.{Array}
use denote.Builtin.{RefOf, u32}
use denote.Opens.{shr_dup}
use denote.RattleType.{RattleType, RowLaws}
use denote.Ref.{ShrRef, shr_vals, shr_Tells}
use denote.RawPtr.{room_for, null_ptr, ptr_val}
use denote.Laws.{Is}
use denote.Param.{layout}
use denote.Struct.Struct.{Struct, Struct-Makes}
use denote.Struct.Owning.{to}
use denote.Triple.Call.{calls_at_last}
use Rattle.guest_ram.specs.{Listed.{zeros}, Owned.{bytes_type}, contracts.ram.Ram.{the_row as R}}
use Rattle.guest_ram.specs.{contracts.ram.Ram.TheInside.{the_row as F}, declared.ram.Ram.TheInside.{Inside}}
use Rattle.guest_ram.specs.contracts.ram.Ram.TheInside as IN
use denote.Struct.Declared as Declared
use Rattle.std.specs.contracts.prelude.Result as RS
use Rattle.std.specs.contracts.alloc.AllocError as AE
use Rattle.std.specs.contracts.alloc.Global as GC
use Rattle.std.proofs.alloc.Global.TheLaws as GL
use Rattle.std.specs.contracts.impls.GlobalAllocator.allocate as g
use Rattle.guest_ram.specs.contracts.ram.put_zeros as put
use Rattle.guest_ram.proofs.ram.put_zeros.Met as put_met
use Rattle.guest_ram.specs.contracts.ram.zeroed as f
use Rattle.guest_ram.proofs.ram.zeroed.Code as code

abbrev Handle : RattleType
Handle = GC.the_row

handle_laws : RowLaws Handle
handle_laws = (GL.the_row_laws).shr_laws

abbrev stayed : Stays f.ended.signature.params f.ended.kept
stayed = (stay_dropped (RefOf (0 ∷ []) tt (plain (λ _. Handle)) (λ _. tt)) yes, (stay_dropped (plain (λ _. u32)) yes, tt))

abbrev Out : RattleType
Out = RS.the_row R AE.the_row

-- the allocator, as its callers have it
abbrev Z : Al
Z = record { row = Handle; laws = GL.the_row_laws; g = ghosts; d = dict; drops = dict }

module _ {M : Type 1} {𝓤 : Ura M} (𝓛 : Logic 𝓤) (at_mem : Memory → SProp 𝓤) (run : Routine → Fun 𝓤) (a : Handle.Denot) (τ : Ty)
    (v : Val) where
  -- the two answers: a block, or none
  answered : (u : Answer.Denot) →
      ent 𝓤 (⋆ 𝓛 (‵ (Answer.own_val u (v ∷ [])) ∷ ‵ (block_if_ok (token Z a) τ u) ∷ [])) (Answered Z 𝓛 at_mem run a τ v)
  answered (Ok p) =
      qed 𝓛 (‵ (Answer.own_val (Ok p) (v ∷ [])) ∷ ‵ (fsep (room_for τ p) (token Z a τ p)) ∷ []) ∵
      fpick ! (λ us. fsplit ! $ feq_l ! (λ e. fpick ! (λ vss. fsplit ! $ feq_l ! (λ e'. fsplit ! $ feq_l ! (λ e''. drop ! $
      in_a_block ! p (λ z. fsep (room_for τ z) (token Z a τ z)) (fst∗ 𝓤 (never 𝓤) (sem 𝓛 (token Z a τ null_ptr))) (λ b o at.
      show ! (λ (c : Bool × (ℕ × ℕ)). guard 𝓤 (v ≡ answer_val c.0 c.1.0 c.1.1) (sem 𝓛 (got (token Z a) τ c.0 c.1.0 c.1.1))) (true, (b, o)) $
      check ! (ap only e ∙ ap (λ (ws : List Val). live 0 (of_list ws))
      (e' ∙ ap (λ (ws : List Val). ws ++ []) (e'' ∙ ap (λ (z : Ptr). ptr_val z ∷ []) at))) $ done !))))))
  answered (Err n) =
      qed 𝓛 (‵ (Answer.own_val (Err n) (v ∷ [])) ∷ ‵ ftrue ∷ []) ∵
      fpick ! (λ us. fsplit ! $
      feq_l ! (λ e. fpick ! (λ vss. fsplit ! $ feq_l ! (λ e'. fsplit ! $ fpick ! (λ none. fsplit ! $ feq_l ! (λ e''. keep ! [] $
      show ! (λ (c : Bool × (ℕ × ℕ)). guard 𝓤 (v ≡ answer_val c.0 c.1.0 c.1.1) (sem 𝓛 (got (token Z a) τ c.0 c.1.0 c.1.1)))
      (false, (0, 0)) $
      check ! (ap only e ∙ ap (λ (ws : List Val). live 1 (of_list ws)) (e' ∙ ap (λ (ws : List Val). ws ++ []) e'')) $ done !))))))

pub zeroed_spec : {M : Type 1} → statement M
zeroed_spec 𝓤 𝓛 𝓜 𝓡 wired =
    let H = 𝓛.H in let fn = code.function in
    let c = f.clauses 𝓛 𝓜.mem 𝓡.returns in let W = walk_of 𝓛 f.ended stayed c in let 𝓣 = tables 𝓤 H 𝓜 𝓡 𝓡.env in
    proved 𝓛 f.ended stayed c 𝓜 𝓡 (
      Goes-dropped 𝓛 1 (RefOf (0 ∷ []) tt (plain (λ _. Handle)) (λ _. tt)) yes (λ κs x w. refl),
      (Goes-dropped 𝓛 1 (plain (λ _. u32)) yes (λ κs x w. refl), tt),
    )
    f.Key.name fn (code.unfolded 𝓤 H 𝓜 𝓡 wired) (λ κs. (shr_vals, (uint_vals w32, tt)))
    (λ κs. (shr_Tells (named 0) κs.0 Handle, (uint_Tells w32, tt))) (λ κs qs bounds a _ are.
    let κ : Lft = κs.0 in let q : Share = qs.0 in let r = a.0 in let at = r.ref_ptr in let m : ℕ = a.1.0 in let n : ℕ = 4096 * m in
    let z : W.Ghost = ((κs, qs, bounds, a, (shr_vals r, (uint_vals w32 m, tt))), tt) in
    let Post : Val → SProp 𝓤 = W.post z in
    let exits : (x : Out.Denot) (v : Val) → IfOk x (λ ram. ram ≡ zeros n) →
    ent 𝓤 (⋆ 𝓛 (‵ (Out.own_val x (v ∷ [])) ∷ ‵ (flft κ q) ∷ [])) (Post v) = λ x v told.
    qed 𝓛 (‵ (Out.own_val x (v ∷ [])) ∷ ‵ (flft κ q) ∷ []) ∵ suffices ! _ (ends_at 𝓛 f.ended stayed c z v x (tt, (tt, tt)) (tt, (tt, tt))) $
    says ! told $
    nothing ! $ move ! (2 ∷ 0 ∷ []) $ join ! $ frame ! $ nothing ! $ nothing ! $ fjoin ! $ nothing ! $ fjoin ! $ done ! in
    qed 𝓛 (((‵ (flft κ q) ⊛ ‵ ftrue) ⊛ ‵ ((ShrRef (named 0) κ Handle).own_val r (shr_vals r)) ⊛ ‵ ((u32).own_val m (uint_vals w32 m))
    ⊛ ‵ ftrue) ∷ raw (fact 𝓤 (m ≤ 65536)) ∷ []) ∵
    split ! $ split ! $ move ! (3 ∷ []) $
    heard ! _ (λ few. move ! (2 ∷ []) $ split ! $ fsplit ! $ drop ! $ shr_dup ! Handle handle_laws r.now at.0 at.1 κ $
    keep ! (0 ∷ 1 ∷ 3 ∷ []) $
    let τ = bytes_type n in
    let small : m < 2 ^ 32 = omega arith in let wide : m < 2 ^ 64 = omega arith in let long : n < 2 ^ 64 = omega arith in
    enter ! 𝓣.C 𝓣.Λ fn (vptr at.0 at.1 ∷ vint w32 m ∷ []) Post $
    alloc_all ! (λ l. pass_all ! refl ((tt, tt), ((tt, record { fits = small }), tt)) $
    let En : Env 𝓤 H = env fn.locals l in
    sets ! (un ! (big_lit ! (record { fits = lit< tt })) (record { fits = lit< tt })) refl (tt, record { fits = lit< tt }) $
    sets ! (un ! (get ! refl) (record { fits = wide })) refl (tt, record { fits = wide }) $
    sets ! (bin ! (get ! refl) (get ! refl) (record { fits = long })) refl (tt, record { fits = long }) $
    let G = triple_of 𝓛 g.signature (g.spec 𝓛 𝓜.mem 𝓡.returns) in
    let y : G.Ghost = (((κ, tt), (q, tt), tt, (r, (n, (1, tt))), (vptr at.0 at.1 ∷ [], (vint w64 n ∷ [], (vint w64 1 ∷ [], tt)))), τ) in
    let Said : Type 0 = (capped (size τ) ≡ n) × (capped (align τ) ≡ 1) in
    let said : Said = (capped_is (n * 1) (omega arith) ∙ omega arith, refl) in
    use0 𝓛 (raw (fact 𝓤 Said)) (fact_i 𝓤 Said (emp 𝓤) said) $
    nothing ! $ flt_i ! 1 (2 ^ 64) (lit< tt) $ feq_i ! (List Val) (vint w64 1 ∷ []) (vint w64 1 ∷ []) refl $ fjoin ! $ fjoin ! $
    flt_i ! n (2 ^ 64) long $ feq_i ! (List Val) (vint w64 n ∷ []) (vint w64 n ∷ []) refl $ fjoin ! $ fjoin ! $
    move ! (2 ∷ []) $ feq_i ! (List Val) (vptr at.0 at.1 ∷ []) (vptr at.0 at.1 ∷ []) refl $ fjoin ! $ move ! (0 ∷ 1 ∷ []) $ fjoin ! $
    nothing ! $ move ! (4 ∷ 0 ∷ []) $ join ! $ join ! $ use2 𝓛 (raw (G.pre y)) (id⊢ 𝓤 _) $
    calls_at ! (framed 𝓤 H 𝓜 𝓣) G (met 𝓤 𝓛 𝓜 𝓡 (code.calls-std::impls::GlobalAllocator::allocate 𝓡.env wired)) y
    (and_then ! (get ! refl) (and_then ! (get ! refl) (and_then ! (lit ! tt) (no_more !)))) (λ v.
    use1 𝓛 (later (some (λ (u : Answer.Denot). ((‵ (flft κ q) ⊛ ‵ ftrue) ⊛ ‵ (Answer.own_val u (v ∷ []))) ⊛ some (λ (ws : Unit {0} × (Unit
    {0} × (Unit {0} × Unit {0}))). ‵ (fsep ftrue (fsep ftrue (fsep ftrue ftrue))) ⊛ ‵ (block_if_ok (token Z r.now) τ u))))) (id⊢ 𝓤 _) $
    await ! tt $ pick ! (λ u. split ! $ split ! $ split ! $ move ! (1 ∷ []) $ drop ! $ move ! (2 ∷ []) $ pick ! (λ ws. split ! $ drop ! $
    -- [what the answer owns; the token; the answer; the allocator; ..]
    move ! (2 ∷ 0 ∷ []) $ use2 𝓛 (raw (Answered Z 𝓛 𝓜.mem 𝓡.returns r.now τ v)) (answered 𝓛 𝓜.mem 𝓡.returns r.now τ v u) $
    let both : Body = head (after 4 fn.body) in
    let Then : After 𝓤 H = any_q (after_seq 𝓤 H (Wp 𝓤 H 𝓣.C 𝓣.Λ En (after 5 fn.body) (at_return 𝓤 H En Post)) (at_return 𝓤 H En Post)) in
    answers Z ! 𝓜.mem 𝓡.returns r.now τ v
    (λ b o e.
    lands_as ! e refl (Answer-typed true b o) $ first ! $ switches_on ! (get_tag ! (vrt ! refl (fld ! refl (stop !))) (whole !)) $
    exec ! 𝓣.C 𝓣.Λ En (arm_body 0 both) Then $
    sets ! (of_opd ! (get_in ! (vrt ! refl (fld ! refl (stop !))) (in_variant ! 0 0 refl refl (whole !)))) refl (tt, tt) $
    -- [the room; the right to free it; the token; the allocator; ..]
    let P = triple_of 𝓛 put.signature (put.spec 𝓛 𝓜.mem 𝓡.returns) in
    let w : P.Ghost = ((tt, tt, tt, (block_ptr b o, (n, tt)), (vptr b o ∷ [], (vint w64 n ∷ [], tt))), tt) in
    first ! $ blocks ! $
    nothing ! $ flt_i ! n (2 ^ 64) long $ feq_i ! (List Val) (vint w64 n ∷ []) (vint w64 n ∷ []) refl $ fjoin ! $ fjoin ! $
    feq_i ! (List Val) (vptr b o ∷ []) (vptr b o ∷ []) refl $ fjoin ! $ nothing ! $ join ! $ use2 𝓛 (raw (P.pre w)) (id⊢ 𝓤 _) $
    calls_at_last ! (framed 𝓤 H 𝓜 𝓣) P (put_met.met 𝓤 𝓛 𝓜 𝓡 (code.calls-guest_ram::ram::put_zeros 𝓡.env wired)) w
    (and_then ! (get ! refl) (and_then ! (get ! refl) (no_more !))) (λ v'.
    use1 𝓛 (later (some (λ (i : Unit {0}). (‵ ftrue ⊛ ‵ (unit.own_val i (v' ∷ []))) ⊛ some (λ (ks : Unit {0} × (Unit {0} × Unit {0})).
    ‵ (fsep ftrue (fsep ftrue ftrue)) ⊛ ‵ (lies_at (Array u8 n) full_share (block_ptr b o) (zeros n)))))) (id⊢ 𝓤 _) $
    await ! tt $ pick ! (λ i. split ! $ split ! $ drop ! $ feq_l ! (λ is_unit. pick ! (λ ks. split ! $ drop ! $
    lands_last ! refl (subst (λ (x : Val). T (has_ty ty_unit x) × WT x) (sym (ap only is_unit)) (tt, tt)) $
    exec ! 𝓣.C 𝓣.Λ En (after 2 (arm_body 0 both)) Then $
    -- [the bytes; the right to free them; the token; the allocator; ..]
    move ! (3 ∷ 2 ∷ []) $ sees ! tt r.now at.0 at.1 (λ s.
    sets ! (of_opd ! (load ! (through ! refl (stop !)) (look ! 0 refl))) refl (tt, ((tt, tt), tt)) $
    seen ! tt s r.now at.0 at.1 $
    let d : Inside =
    record { block = block_ptr b o; frames = m; alloc = r.now; bytes = zeros n; long = length-zeros n; few = few; fit = fit-zeros n } in
    let made : Val = lowers.lowered d in
    let typed : Good (layout R) made = (tt, (tt, (record { fits = small }, (((tt, tt), tt), tt)))) in
    let ok = first_Good (layout R) made typed in
    sets ! (agg ! (and_then ! (get ! refl) (and_then ! (get ! refl) (and_then ! (get ! refl) (no_more !))))) refl typed $
    sets_last ! (agg ! (and_then ! (lit ! tt) (and_then ! (get ! refl) (no_more !)))) refl ok $
    exec ! 𝓣.C 𝓣.Λ En (after 5 fn.body) (at_ret En Post) $ sets ! (of_opd ! (get ! refl)) refl ok $
    returns ! (look_at ! 0 refl) $ free_all ! refl $
    move ! (2 ∷ 3 ∷ []) $ fjoin ! $ use0 𝓛 (‵ (Words.own_val (to IN.the_type d) (made ∷ []))) (fields_made 𝓛 d small) $ fjoin ! $
    nothing ! $ move ! (1 ∷ 0 ∷ []) $ fjoin ! $
    let room : length (zeros n) ≤ 65536 * 4096 = omega (arith, length-zeros n) in
    fpack ! (Held (zeros n)) (λ x. fsep ((F).own_val x.0 (made ∷ [])) ftrue) (d, (refl, room)) $
    use1 𝓛 (‵ (Out.own_val (Ok (zeros n)) (live 0 (vcons made vnil) ∷ []))) (ok_of 𝓛 R AE.the_row (zeros n) made) $
    keep ! (0 ∷ 1 ∷ []) $ by ! (exits (Ok (zeros n)) (live 0 (vcons made vnil)) refl)))))))
    (λ e.
    let Refusal : RattleType = Struct (Declared.shape AE.the_type) in
    let none : Val = live 1 (vcons (vstruct vnil) vnil) in
    lands_as ! e refl (Answer-typed false 0 0) $ first ! $ switches_on ! (get_tag ! (vrt ! refl (fld ! refl (stop !))) (whole !)) $
    exec ! 𝓣.C 𝓣.Λ En (arm_body 1 both) Then $
    sets ! (of_opd ! (get_in ! (vrt ! refl (fld ! refl (stop !))) (in_variant ! 1 0 refl refl (whole !)))) refl (tt, tt) $
    sets_last ! (agg ! (and_then ! (lit ! tt) (and_then ! (get ! refl) (no_more !)))) refl (tt, (record { fits = lit< tt }, (tt, tt))) $
    exec ! 𝓣.C 𝓣.Λ En (after 5 fn.body) (at_ret En Post) $ sets ! (of_opd ! (get ! refl)) refl (tt, (record { fits = lit< tt }, (tt, tt))) $
    returns ! (look_at ! 0 refl) $ free_all ! refl $
    owned ! Refusal (Is Refusal) (Struct-Makes 𝓛 (Declared.shape AE.the_type) tt) tt (vstruct vnil ∷ []) (tt, (refl, tt)) $
    use1 𝓛 (‵ (Out.own_val (Err (record {})) (none ∷ []))) (err_of 𝓛 R AE.the_row (record {}) (vstruct vnil)) $
    keep ! (0 ∷ 1 ∷ []) $ by ! (exits (Err (record {})) none tt))))))))
