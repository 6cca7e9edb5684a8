-- `fill` writes n bytes through one pointer, from the first on, and keeps whatever else it has.
use Rattle.guest_ram.proofs.Steps.{◌≡◌, ℕ, List, [], ◌∷◌, refl, sym, ap, ◌∙◌, w8, proved, full_share, id⊢, ftrue, fat, flft, named, vunit}
use Rattle.guest_ram.proofs.Steps.{vint, fact, tables, ‵, raw, ◌⊛◌, at_ret, ◌$◌, ◌∵◌, !, qed, done, move, keep, use1, use2, split, join}
use Rattle.guest_ram.proofs.Steps.{fsplit, fsplit3, fjoin, fpick, fpack, feq_i, rewrite, suffices, frame, group, enter, of_opd, un, bin}
use Rattle.guest_ram.proofs.Steps.{unit_lit, lit, lit<, load, store, stop, fld, assigns_last, first, blocks, exec, returns, alloc_all}
use Rattle.guest_ram.proofs.Steps.{pass_all, free_all, look_at, get, through, sets, env, u8, yes, shows, uint_vals, uint_Tells, Ptr}
use Rattle.guest_ram.proofs.Steps.{lies_at, in_a_block, MutRef, mut_vals, mut_Tells, plain, nothing, opens, closes, heard, peeks, Stays}
use Rattle.guest_ram.proofs.{Steps.{walk_of, stay_ref, stay_dropped, Goes-ref, Goes-dropped, ends_at}, PutLaws.{length-put, copies_more}}
use Rattle.guest_ram.proofs.{PutLaws.{no_copies}, Insides.{rest, byte_out, byte_in, Held, Words, with_copies, held_copies}}
use Rattle.guest_ram.proofs.{WalkSteps.{says2}, ram.Ram.fill.Statement.{statement}, ram.Ram.TheInside.TheLaws.{lowers}}
use Rattle.std.proofs.Common.{subst, length, get_or, set, ◌<◌, ◌≤◌, ◌+◌, ◌*◌, ◌^◌, w32, w64, arith, ◌-◌, nltb→le, ltb→lt}
use Rattle.std.proofs.VecSteps.Shapes.{after, head}
use seplogic.Ra.Ura.{Ura}
use lib.WfN.{lt-wf_rel}
use base.Logic.{SProp}
use base.Fml.{fobor, fobs, fauth, fsep}
use contract.Running.{tables_of}
use prog.Wp.{Env, Out, Wp, Tables, at_return, after_seq, after_block, after_turn}
use types.Kit.{Item, Sq, any_q, runs}
use types.Logic.{Logic}
use types.Run.{branches, skips, jumps, loops, again, Below}
use types.SemTy.{Body as Within}
use types.ByLocal.{sets_last, forget_but, holding}
use Rattle.guest_ram.specs.{Bytes.{put}, Listed.{copies}, Owned.{bytes_type}, contracts.ram.Ram.{the_row as R}}
use Rattle.guest_ram.specs.{contracts.ram.Ram.TheInside.{the_row as F}, declared.ram.Ram.TheInside.{Inside}}
use Rattle.std.specs.contracts.impls.GlobalAllocator.TheImpl.{ghosts}
use mir.Syntax.{Body, ty_int}
use mir.Val.{Val, vptr}
use types.Part.{whole, sub, look_in}
use denote.Memory.{cell_at, part_at, mem}
use denote.Ref.{mut_at}
use denote.Struct.Owning.{to}
use denote.Array.{Array}
use denote.Builtin.{u32}
use mathlib.Core.WellFounded.InvImage
use Rattle.guest_ram.specs.contracts.ram.Ram.TheInside as IN
use Rattle.guest_ram.specs.contracts.ram.Ram.fill as f
use Rattle.guest_ram.proofs.ram.Ram.fill.Code as code

abbrev stayed : Stays f.ended.signature.params f.ended.kept
stayed = (
  stay_ref (0 ∷ []) tt (plain (λ _. R)),
  (stay_dropped (plain (λ _. u32)) yes, (stay_dropped (plain (λ _. u32)) yes, (stay_dropped (plain (λ _. u8)) yes, tt))),
)

abbrev turn : Body
turn = head (head (head (after 4 (code.function).body)))

-- the loop: the bytes are those of i copies, and whatever else is kept
module _ {M : Type 1} {𝓤 : Ura M} (𝓛 : Logic 𝓤) (𝓣 : Tables 𝓤 𝓛.H) (Post : Val → SProp 𝓤) (Keep : Item 𝓤) (n : ℕ) (xs : List ℕ)
    (b o at k v : ℕ)
    (long : length xs ≡ n) (room : at + k ≤ length xs) (kf : k < 2 ^ 64) (vf : v < 2 ^ 8) (l : ℕ → ℕ) where
  open 𝓛 use {H}

  abbrev En : Env 𝓤 H
  En = env (code.function).locals l

  -- how many are put
  abbrev Filled : Type 0
  Filled = (i : ℕ) × (i ≤ k)

  abbrev Nearer : Filled → Filled → Type 0
  Nearer t u = k - t.0 < k - u.0

  abbrev now : ℕ → List ℕ
  now i = put xs at (copies i v)

  abbrev Now : Filled → List (Item 𝓤)
  Now t = ‵ (part_at (Array u8 n) full_share (now t.0) b o) ∷ Keep ∷
      holding 𝓛 En ((4, vint w8 v) ∷ (5, vint w64 k) ∷ (6, vptr b (at + o)) ∷ (7, vint w64 t.0) ∷ [])

  module _ (ends : (t : Filled) → t.0 ≡ k → Sq 𝓛 (Now t) (runs 𝓣.C 𝓣.Λ En (after 5 (code.function).body) (at_ret En Post))) where
    abbrev Turned : Filled → Out → SProp 𝓤
    Turned t = after_turn 𝓤 H (Below 𝓛 Nearer Now t)
        (after_block 𝓤 H (after_seq 𝓤 H (Wp 𝓤 H 𝓣.C 𝓣.Λ En (after 5 (code.function).body) (at_return 𝓤 H En Post)) (at_return 𝓤 H En Post)))

    turns : (t : Filled) → Sq 𝓛 (Now t) (runs 𝓣.C 𝓣.Λ En turn (any_q (Turned t)))
    unfolding after_turn
    turns t =
        let i : ℕ = t.0 in let le = t.1 in let all : length (now i) ≡ n = length-put xs at (copies i v) ∙ long in
        sets ! (bin ! (get ! refl) (get ! refl) tt) refl (tt, tt) $ first ! $ branches ! (get ! refl)
        (λ less. let h : i < k = ltb→lt i k less in let low : at + i < length (now i) = omega (arith, length-put xs at (copies i v)) in
        let there : at + i + o ≡ i + (at + o) = omega arith in let fj : i + 1 < 2 ^ 64 = omega arith in
        skips ! $ exec ! 𝓣.C 𝓣.Λ En (after 2 turn) (any_q (Turned t)) $
        first ! $ blocks ! $
        sets ! (bin ! (get ! refl) (get ! refl) tt) refl (tt, tt) $
        use1 𝓛 (‵ (fat full_share (ty_int w8) b (at + i + o) (vint w8 (get_or (now i) (at + i) 0))) ⊛ ‵ (rest 𝓛 n (now i) b o (at + i)))
        (byte_out 𝓛 n (now i) b o (at + i) all low) $ split ! $
        rewrite ! 0 (λ (j : ℕ). ‵ (fat full_share (ty_int w8) b j (vint w8 (get_or (now i) (at + i) 0)))) there refl $
        assigns_last ! (of_opd ! (get ! refl)) (through ! refl (stop !)) (store ! 0 refl (tt, record { fits = vf })) $
        rewrite ! 0 (λ (j : ℕ). ‵ (fat full_share (ty_int w8) b j (vint w8 v))) (sym there) refl $
        exec ! 𝓣.C 𝓣.Λ En (after 3 turn) (any_q (Turned t)) $
        use2 𝓛 (‵ (part_at (Array u8 n) full_share (set (now i) (at + i) v) b o)) (byte_in 𝓛 n (now i) b o (at + i) v all low) $
        rewrite ! 0 (λ (ys : List ℕ). ‵ (part_at (Array u8 n) full_share ys b o)) (copies_more xs at i v) refl $
        sets_last ! (bin ! (get ! refl) (lit ! tt) (record { fits = fj })) refl (tt, record { fits = fj }) $
        forget_but ! En (4 ∷ 5 ∷ 6 ∷ 7 ∷ []) refl $
        again ! Nearer Now t (i + 1, omega arith) (omega arith))
        (λ over. let ge = nltb→le i k over in let done_all : i ≡ k = omega arith in
        jumps ! $ exec ! 𝓣.C 𝓣.Λ En (after 5 (code.function).body) (at_ret En Post) $
        forget_but ! En (4 ∷ 5 ∷ 6 ∷ 7 ∷ []) refl $ ends t done_all)

pub fill_spec : {M : Type 1} → statement M
unfolding tables_of
fill_spec 𝓤 𝓛 𝓜 𝓡 wired =
    let c = f.clauses 𝓛 𝓜.mem 𝓡.returns in let W = walk_of 𝓛 f.ended stayed c in let 𝓣 = tables 𝓤 𝓛.H 𝓜 𝓡 𝓡.env in
    let 𝓣m : Tables 𝓤 𝓛.H = tables_of 𝓤 𝓛.H 𝓜 𝓣 in
    proved 𝓛 f.ended stayed c 𝓜 𝓡 (
      Goes-ref 𝓛 1 0 tt (plain (λ _. R)),
      (
        Goes-dropped 𝓛 1 (plain (λ _. u32)) yes (λ κs x w. refl),
        (Goes-dropped 𝓛 1 (plain (λ _. u32)) yes (λ κs x w. refl), (Goes-dropped 𝓛 1 (plain (λ _. u8)) yes (λ κs x w. refl), tt)),
      ),
    )
    f.Key.name code.function (code.unfolded 𝓤 𝓛.H 𝓜 𝓡 wired)
    (λ κs. (mut_vals, (uint_vals w32, (uint_vals w32, (uint_vals w8, tt)))))
    (λ κs. (mut_Tells (named 0) κs.0 R, (uint_Tells w32, (uint_Tells w32, (uint_Tells w8, tt))))) (λ κs qs bounds a _ are.
    let b = a.0.ref_ptr.0 in let o = a.0.ref_ptr.1 in let h : List ℕ = a.0.now in let i : ℕ = a.1.0 in let k : ℕ = a.1.1.0 in
    let v : ℕ = a.1.1.1.0 in let vs = mut_vals a.0 in
    let y : W.Ghost = ((κs, qs, bounds, a, (vs, (uint_vals w32 i, (uint_vals w32 k, (uint_vals w8 v, tt))))), tt) in
    qed 𝓛 (((‵ (flft κs.0 qs.0) ⊛ ‵ ftrue) ⊛ ‵ ((MutRef (named 0) κs.0 R).own_val a.0 vs) ⊛ ‵ ((u32).own_val i (uint_vals w32 i))
    ⊛ ‵ ((u32).own_val k (uint_vals w32 k)) ⊛ ‵ ((u8).own_val v (uint_vals w8 v)) ⊛ ‵ ftrue) ∷ raw (fact 𝓤 (i + k ≤ length h)) ∷ []) ∵
    split ! $ split ! $ move ! (3 ∷ []) $ heard ! _ (λ inside. move ! (2 ∷ []) $ split ! $ keep ! (0 ∷ 2 ∷ []) $
    enter ! _ _ _ _ _ $ alloc_all ! (λ l. pass_all ! refl (
      (tt, tt),
      ((tt, record { fits = are.1.0.1 }), ((tt, record { fits = are.1.1.0.1 }), ((tt, record { fits = are.1.1.1.0.1 }), tt))),
    ) $
    fsplit3 ! $ move ! (1 ∷ 2 ∷ 3 ∷ []) $ opens ! tt R b o (λ us.
    move ! (1 ∷ []) $ fpick ! (λ x. fsplit ! $ peeks ! F _ (shows 𝓛 F) x.0 us (λ is. fsplit ! $ move ! (1 ∷ []) $ fsplit ! $
    let xs : List ℕ = x.0.bytes in let n = 4096 * x.0.frames in
    in_a_block ! x.0.block (λ p. lies_at (Array u8 n) full_share p xs) (id⊢ 𝓤 _) (λ b' o' e.
    let word = lowers.val_is x.0 us is ∙ ap (λ (p : Ptr). lowers.lowered (record x.0 { block = p }) ∷ []) e in
    let Cell = λ (ws : List Val). ‵ (cell_at full_share (F).mir ws b o) in
    rewrite ! 4 Cell word refl $
    -- [the bytes; the token; what the fields own; nothing; the struct's cell; the open borrow, in three entries]
    let wk : k < 2 ^ 64 = omega arith in let wi : i < 2 ^ 64 = omega arith in
    sets ! (un ! (get ! refl) (record { fits = wk })) refl (tt, record { fits = wk }) $
    first ! $ blocks ! $
    sets ! (of_opd ! (load ! (through ! refl (fld ! refl (stop !))) (look_in ! 4 (sub ! 0 refl (whole !))))) refl (tt, tt) $
    sets ! (un ! (get ! refl) (record { fits = wi })) refl (tt, record { fits = wi }) $
    sets_last ! (bin ! (get ! refl) (get ! refl) tt) refl (tt, tt) $
    exec ! 𝓣.C 𝓣.Λ (env code.Mir.locals l) (after 2 (code.function).body) (at_ret (env (code.function).locals l) (W.post y)) $
    sets ! (of_opd ! (get ! refl)) refl (tt, tt) $
    sets ! (of_opd ! (lit ! tt)) refl (tt, record { fits = lit< tt }) $
    move ! (4 ∷ []) $ rewrite ! 0 Cell (sym word) refl $ move ! (2 ∷ 3 ∷ 4 ∷ 0 ∷ 5 ∷ 6 ∷ 7 ∷ 8 ∷ []) $ group ! 8 $ move ! (1 ∷ []) $
    rewrite ! 0 (λ (zs : List ℕ). ‵ (part_at (Array u8 n) full_share zs b' o')) (sym (no_copies xs i v)) refl $
    forget_but ! (env code.Mir.locals l) (4 ∷ 5 ∷ 6 ∷ 7 ∷ []) refl $
    let γ = a.0.ghost_name in
    let Keep : Item 𝓤 = ‵ (ghosts.dealloc_token x.0.alloc (bytes_type n) x.0.block) ⊛ ‵ (Words.own_val (to IN.the_type x.0) us)
    ⊛ ‵ ftrue ⊛ ‵ (cell_at full_share (F).mir us b o) ⊛ ‵ (fobor κs.0 qs.0 (Within (mem R) b o γ)) ⊛ ‵ (fobs γ (R.coded.code h))
    ⊛ ‵ (fauth γ (R.coded.code h)) ⊛ ‵ (mut_at a.0 vs) in
    let Post = W.post y in
    let room : i + k ≤ length xs = subst (λ (zs : List ℕ). i + k ≤ length zs) (sym x.1.0) inside in
    let x' : Inside = with_copies x.0 i k v are.1.1.1.0.1 in
    let new : List ℕ = put h i (copies k v) in
    let ends : (t : Filled 𝓛 𝓣m Post Keep n xs b' o' i k v x.0.long room wk are.1.1.1.0.1 l) → t.0 ≡ k →
    Sq 𝓛 (Now 𝓛 𝓣m Post Keep n xs b' o' i k v x.0.long room wk are.1.1.1.0.1 l t) (runs 𝓣m.C 𝓣m.Λ (env (code.function).locals l)
    (after 5 (code.function).body) (at_ret (env (code.function).locals l) Post)) = λ t all.
    rewrite ! 0 (λ (j : ℕ). ‵ (part_at (Array u8 n) full_share (put xs i (copies j v)) b' o')) all refl $
    rewrite ! 0 (λ (p : Ptr). ‵ (lies_at (Array u8 n) full_share p x'.bytes)) (sym e) refl $
    sets ! (of_opd ! (unit_lit !)) refl (tt, tt) $
    move ! (1 ∷ []) $ split ! $ move ! (2 ∷ 0 ∷ []) $ fjoin ! $ move ! (1 ∷ []) $ split ! $ move ! (0 ∷ 2 ∷ []) $ fjoin ! $
    move ! (1 ∷ []) $ split ! $ move ! (2 ∷ 0 ∷ []) $ fjoin ! $
    fpack ! (Held new) (λ z. fsep ((F).own_val z.0 us) ftrue) (x', held_copies h x.0 i k v x.1) $
    move ! (1 ∷ []) $ split ! $ move ! (1 ∷ []) $ split ! $ move ! (1 ∷ []) $ split ! $ move ! (1 ∷ []) $ split ! $
    move ! (4 ∷ 5 ∷ 3 ∷ 2 ∷ 0 ∷ 1 ∷ []) $ closes ! tt R new us b o $
    -- [two parts of self; the token; self's first part]
    returns ! (look_at ! 0 refl) $ free_all ! refl $ move ! (3 ∷ []) $
    suffices ! _ (ends_at 𝓛 f.ended stayed c y vunit tt (new, (tt, (tt, (tt, tt)))) (tt, (tt, (tt, (tt, tt))))) $
    says2 ! refl (length-put h i (copies k v)) $
    group ! 3 $ nothing ! $ nothing ! $ join ! $ nothing ! $ join ! $ nothing ! $ join ! $ move ! (1 ∷ 0 ∷ []) $ join ! $
    nothing ! $ move ! (2 ∷ 0 ∷ []) $ join ! $ frame ! $ frame ! $
    feq_i ! _ (vunit ∷ []) _ refl $ done ! in
    first ! $ blocks ! $ loops ! 𝓣m (Nearer 𝓛 𝓣m Post Keep n xs b' o' i k v x.0.long room wk are.1.1.1.0.1 l) (InvImage.wf
    (λ (t : (j : ℕ) × (j ≤ k)). k - t.0) lt-wf_rel.wf) (Now 𝓛 𝓣m Post Keep n xs b' o' i k v x.0.long room wk are.1.1.1.0.1 l)
    (turns 𝓛 𝓣m Post Keep n xs b' o' i k v x.0.long room wk are.1.1.1.0.1 l ends) (0, omega arith))))))))
