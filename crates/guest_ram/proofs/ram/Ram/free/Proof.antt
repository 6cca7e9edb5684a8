-- `free` gives the block and the right to free it back to the allocator.
use Rattle.guest_ram.proofs.Steps.{◌≡◌, ℕ, List, [], ◌∷◌, refl, sym, ap, ◌∙◌, lit<, w8, arith, full_share, id⊢, ty_int, Val, vunit, vint}
use Rattle.guest_ram.proofs.Steps.{tables, ‵, raw, ◌⊛◌, later, some, prop, ◌$◌, ◌∵◌, !, qed, move, drop, keep, use1, use2, split, join}
use Rattle.guest_ram.proofs.Steps.{fsplit, fsplit3, fjoin, feq_i, feq_l, pick, await, rewrite, regoal, enter, of_opd, un, bin, lit}
use Rattle.guest_ram.proofs.Steps.{unit_lit, stop, fld, no_more, and_then, first, blocks, exec, returns, alloc_all, pass_all, free_all}
use Rattle.guest_ram.proofs.Steps.{look_at, get, sets, env, u8, unit, shows, Ptr, block_ptr, lies_at, in_a_block, plain, nothing, peeks}
use Rattle.guest_ram.proofs.{Steps.{only, triple_of, Stays, walk_of, stay_dropped, Goes-dropped, framed}, WalkSteps.{big_lit}}
use Rattle.guest_ram.proofs.{ram.Ram.TheInside.TheLaws.{lowers}, ram.Ram.free.Statement.{statement}}
use Rattle.std.proofs.{Common.{◌*◌, ◌<◌, ◌^◌, ◌++◌, w64, subst, T}, raw_atomic.Walks.{proved_at, leaves}, VecSteps.Shapes.{after}}
use Rattle.std.proofs.{alloc.Calls.{Goes-blank}, impls.GlobalAllocator.deallocate.Met.{met}}
use mir.Syntax.{ty_array, ty_unit}
use mir.Val.{vptr, has_ty, WT}
use base.Logic.{SProp, emp}
use base.Fml.{Lft, Share, ftrue, fsep, flft, froom}
use borrow.Rule.Array.Init.{part_room}
use contract.Monad.{fact, fact_i}
use prog.Capped.{capped_is}
use prog.Memory.{size, align, capped}
use prog.Wp.{Env, WpFn}
use types.Kit.{by, fpick, at_ret, use0, flt_i}
use types.Part.{whole, sub}
use types.ByLocal.{get_in, lands_last}
use denote.Array.{Array}
use denote.Builtin.{RefOf}
use denote.RattleType.{owns}
use denote.Signature.{types_at}
use denote.Triple.Call.{calls_at_last}
use denote.Triple.Entry.{alive}
use Rattle.std.specs.contracts.impls.GlobalAllocator.TheImpl.{ghosts}
use Rattle.guest_ram.specs.{Owned.{bytes_type}, contracts.ram.Ram.{the_row as R}, contracts.ram.Ram.TheInside.{the_row as F}}
use Rattle.guest_ram.specs.declared.ram.Ram.TheInside.{Inside}
use Rattle.std.specs.contracts.alloc.Global as GC
use Rattle.std.specs.contracts.impls.GlobalAllocator.deallocate as g
use Rattle.guest_ram.specs.contracts.ram.Ram.free as f
use Rattle.guest_ram.proofs.ram.Ram.free.Code as code

abbrev stayed : Stays f.ended.signature.params f.ended.kept
stayed = (
  stay_dropped (plain (λ _. R)) f.ended.kept.0,
  (stay_dropped (RefOf (0 ∷ []) tt (plain (λ _. GC.the_row)) (λ _. tt)) f.ended.kept.1.0, tt),
)

pub free_spec : {M : Type 1} → statement M
free_spec 𝓤 𝓛 𝓜 𝓡 wired =
    let H = 𝓛.H in let fn = code.function in
    let c = f.clauses 𝓛 𝓜.mem 𝓡.returns in let W = walk_of 𝓛 f.ended stayed c in let 𝓣 = tables 𝓤 H 𝓜 𝓡 𝓡.env in
    proved_at 𝓛 f.ended stayed c 𝓜 𝓡 (
      Goes-blank 𝓛 1 (plain (λ _. R)) f.ended.kept.0 (λ κs x w. tt),
      (Goes-dropped 𝓛 1 (RefOf (0 ∷ []) tt (plain (λ _. GC.the_row)) (λ _. tt)) f.ended.kept.1.0 (λ κs x w. refl), tt),
    )
    f.Key.name fn (code.unfolded 𝓤 H 𝓜 𝓡 wired) (λ z are.
    let Post : Val → SProp 𝓤 = W.post z in
    let a = z.0.3 in let vss = z.0.4 in let κ : Lft = z.0.0.0 in let q : Share = z.0.1.0 in let r = a.1.0 in let at = r.ref_ptr in
    qed 𝓛 ((raw (alive 𝓛 f.ended.signature z.0.0 z.0.1) ⊛ ‵ (owns (types_at f.ended.signature.params z.0.0) a vss)) ∷ ‵ ftrue ∷ []) ∵
    split ! $ move ! (1 ∷ []) $ fsplit3 ! $
    fpick ! (λ x. fsplit ! $ peeks ! F _ (shows 𝓛 F) x.0 vss.0 (λ is. fsplit ! $ move ! (1 ∷ []) $ fsplit ! $
    let xs : List ℕ = x.0.bytes in let n = 4096 * x.0.frames in
    -- [the bytes; the right to free them; the fields'; nothing; the allocator's reference; nothing; the token; nothing]
    in_a_block ! x.0.block (λ p. lies_at (Array u8 n) full_share p xs) (id⊢ 𝓤 _) (λ b o e.
    use1 𝓛 (‵ (froom (ty_array (ty_int w8) n) b o)) (part_room 𝓛 (Array u8 n) xs b o) $
    move ! (1 ∷ []) $ rewrite ! 0 (λ (p : Ptr). ‵ (ghosts.dealloc_token x.0.alloc (bytes_type n) p)) e refl $
    move ! (1 ∷ 0 ∷ 4 ∷ 6 ∷ []) $ move ! (2 ∷ []) $ fsplit ! $ drop ! $
    let d : Inside = record x.0 { block = block_ptr b o } in
    let word : vss.0 ≡ lowers.lowered d ∷ [] = lowers.val_is x.0 vss.0 is
    ∙ ap (λ (p : Ptr). lowers.lowered (record x.0 { block = p }) ∷ []) e in
    let fits : x.0.frames < 2 ^ 32 = omega (arith, x.0.few) in let wide : x.0.frames < 2 ^ 64 = omega arith in
    let long : n < 2 ^ 64 = omega (arith, x.0.few) in
    let En₀ = f.ended in
    regoal ! (λ (us : List Val). prop (WpFn 𝓤 H 𝓣.C 𝓣.Λ fn us Post)) (λ i. word i ++ (are.1.0.0 i ++ [])) refl $
    enter ! 𝓣.C 𝓣.Λ fn (lowers.lowered d ∷ vptr at.0 at.1 ∷ []) Post $
    alloc_all ! (λ l. pass_all ! refl ((tt, (tt, (record { fits = fits }, (((tt, tt), tt), tt)))), ((tt, tt), tt)) $
    let En : Env 𝓤 H = env fn.locals l in
    -- [the allocator; the room; the right; the token; ..]
    sets ! (of_opd ! (get_in ! (fld ! refl (stop !)) (sub ! 0 refl (whole !)))) refl (tt, tt) $
    sets ! (of_opd ! (get_in ! (fld ! refl (stop !)) (sub ! 1 refl (whole !)))) refl (tt, record { fits = fits }) $
    first ! $ blocks ! $
    sets ! (un ! (big_lit ! (record { fits = lit< tt })) (record { fits = lit< tt })) refl (tt, record { fits = lit< tt }) $
    sets ! (un ! (get ! refl) (record { fits = wide })) refl (tt, record { fits = wide }) $
    sets ! (bin ! (get ! refl) (get ! refl) (record { fits = long })) refl (tt, record { fits = long }) $
    let G = triple_of 𝓛 g.signature (g.spec 𝓛 𝓜.mem 𝓡.returns) in
    let y : G.Ghost = (
      (
        (κ, tt),
        (q, tt),
        tt,
        (r, (block_ptr b o, (n, (1, tt)))),
        (vptr at.0 at.1 ∷ [], (vptr b o ∷ [], (vint w64 n ∷ [], (vint w64 1 ∷ [], tt)))),
      ),
      bytes_type n,
    ) in
    let Said : Type 0 = (capped (size (bytes_type n)) ≡ n) × (capped (align (bytes_type n)) ≡ 1) in
    let said : Said = (capped_is (n * 1) (omega arith) ∙ omega arith, refl) in
    move ! (1 ∷ 2 ∷ []) $ fjoin ! $ use0 𝓛 (raw (fact 𝓤 Said)) (fact_i 𝓤 Said (emp 𝓤) said) $ join ! $
    nothing ! $ flt_i ! 1 (2 ^ 64) (lit< tt) $ feq_i ! (List Val) (vint w64 1 ∷ []) (vint w64 1 ∷ []) refl $ fjoin ! $ fjoin ! $
    flt_i ! n (2 ^ 64) long $ feq_i ! (List Val) (vint w64 n ∷ []) (vint w64 n ∷ []) refl $ fjoin ! $ fjoin ! $
    feq_i ! (List Val) (vptr b o ∷ []) (vptr b o ∷ []) refl $ fjoin ! $ move ! (2 ∷ []) $
    feq_i ! (List Val) (vptr at.0 at.1 ∷ []) (vptr at.0 at.1 ∷ []) refl $ fjoin ! $ move ! (0 ∷ 1 ∷ []) $ fjoin ! $
    move ! (2 ∷ 0 ∷ []) $ join ! $ use2 𝓛 (raw (G.pre y)) (id⊢ 𝓤 _) $
    calls_at_last ! (framed 𝓤 H 𝓜 𝓣) G (met 𝓤 𝓛 𝓜 𝓡 (code.calls-std::impls::GlobalAllocator::deallocate 𝓡.env wired)) y
    (and_then ! (get ! refl) (and_then ! (get ! refl) (and_then ! (get ! refl) (and_then ! (lit ! tt) (no_more !))))) (λ v.
    use1 𝓛 (later (some (λ (u : Unit {0}). ((‵ (flft κ q) ⊛ ‵ ftrue) ⊛ ‵ (unit.own_val u (v ∷ []))) ⊛ some (λ (ws : Unit {0} × (Unit {0}
    × (Unit {0} × (Unit {0} × Unit {0})))). ‵ (fsep ftrue (fsep ftrue (fsep ftrue (fsep ftrue ftrue)))) ⊛ ‵ ftrue)))) (id⊢ 𝓤 _) $
    await ! tt $ pick ! (λ u. split ! $ split ! $ move ! (1 ∷ []) $ feq_l ! (λ is_unit.
    lands_last ! refl (subst (λ (w : Val). T (has_ty ty_unit w) × WT w) (sym (ap only is_unit)) (tt, tt)) $
    exec ! 𝓣.C 𝓣.Λ En (after 3 fn.body) (at_ret En Post) $
    sets ! (of_opd ! (unit_lit !)) refl (tt, tt) $ returns ! (look_at ! 0 refl) $ free_all ! refl $
    feq_i ! (List Val) (vunit ∷ []) (vunit ∷ []) refl $ nothing ! $ nothing ! $ nothing ! $ fjoin ! $ nothing ! $ fjoin ! $
    keep ! (3 ∷ 0 ∷ 2 ∷ 1 ∷ []) $
    by ! (leaves 𝓛 f.ended stayed c z vunit tt (tt, (tt, tt)) (tt, (tt, tt)))))))))))
