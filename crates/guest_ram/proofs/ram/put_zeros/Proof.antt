-- `put_zeros` writes the bytes one by one, from the first on.
use Rattle.guest_ram.proofs.Steps.{◌≡◌, ℕ, ◌≤◌, List, [], ◌∷◌, refl, sym, ap, ◌∙◌, lit<, nltb→le, w8, arith, proved, ◌⊛◌, full_share, id⊢}
use Rattle.guest_ram.proofs.Steps.{ty_int, Val, vunit, vint, tables, ‵, raw, prop, Sq, ◌$◌, ◌∵◌, !, qed, done, move, drop, keep, use1, use2}
use Rattle.guest_ram.proofs.Steps.{split, join, feq_i, rewrite, regoal, suffices, group, enter, of_opd, lit, unit_lit, bin, stop, assigns}
use Rattle.guest_ram.proofs.Steps.{first, blocks, branches, skips, exec, returns, alloc_all, pass_all, free_all, look_at, get, through}
use Rattle.guest_ram.proofs.Steps.{sets, env, u8, yes, uint_in, uint_vals, uint_Tells, Ptr, RawPtr, block_ptr, in_a_block, rawptr_vals}
use Rattle.guest_ram.proofs.Steps.{rawptr_Tells, plain, nothing, on_entry, Stays, walk_of, stay_dropped, Goes-dropped, ends_at}
use Rattle.guest_ram.proofs.{Insides.{row_more, row_whole}, ram.put_zeros.Statement.{statement}}
use Rattle.std.proofs.{Common.{◌+◌, ◌-◌, ◌<◌, ◌^◌, suc, replicate, ◌++◌, add_comm, add-zero, w64, ltb→lt}, lemmas.List.{length-replicate}}
use Rattle.std.proofs.{lemmas.List.{replicate-append-replicate}, VecSteps.Shapes.{after, head}}
use lib.WfN.{lt-wf_rel}
use seplogic.Ra.Ura.{Ura}
use mir.Syntax.{Body, ty_array}
use mir.Val.{vptr}
use base.Logic.{SProp, ent}
use base.Fml.{froom}
use prog.Wp.{Env, Out, Wp, WpFn, Tables, at_return, after_seq, after_block, after_turn}
use types.Kit.{Item, any_q, at_ret, runs, by}
use types.Logic.{Logic, sem}
use types.Run.{init, jumps, loops, again, Below}
use types.ByLocal.{sets_last, holding, forget_but}
use denote.Array.{Array}
use denote.Builtin.{usize}
use denote.Index.{row}
use denote.Memory.{part_at}
use denote.RawPtr.{lies_at, room_for}
use contract.Running.{tables_of}
use Rattle.guest_ram.specs.{Listed.{zeros}, Owned.{bytes_type}}
use mathlib.Core.WellFounded.InvImage
use Rattle.guest_ram.specs.contracts.ram.put_zeros as f
use Rattle.guest_ram.proofs.ram.put_zeros.Code as code

abbrev stayed : Stays f.ended.signature.params f.ended.kept
stayed = (stay_dropped (plain (λ _. RawPtr)) yes, (stay_dropped (plain (λ _. usize)) yes, tt))

abbrev turn : Body
turn = head (head (head (after 1 (code.function).body)))

module _ {M : Type 1} {𝓤 : Ura M} (𝓛 : Logic 𝓤) where
  -- one more 0
  more : (i b o : ℕ) → ent 𝓤 (types.Kit.⋆ 𝓛 (‵ (row u8 full_share (replicate i 0) b o) ∷ ‵ (part_at u8 full_share 0 b (i + o)) ∷ []))
      (sem 𝓛 (row u8 full_share (replicate (i + 1) 0) b o))
  more i b o = qed 𝓛 (‵ (row u8 full_share (replicate i 0) b o) ∷ ‵ (part_at u8 full_share 0 b (i + o)) ∷ []) ∵
      rewrite ! 1 (λ (k : ℕ). ‵ (part_at u8 full_share 0 b k)) (add_comm i o ∙ ap (λ (k : ℕ). o + k) (sym (length-replicate i 0))) refl $
      use2 𝓛 (‵ (row u8 full_share (replicate i 0 ++ 0 ∷ []) b o)) (row_more 𝓛 (replicate i 0) 0 b o) $
      rewrite ! 0 (λ (xs : List ℕ). ‵ (row u8 full_share xs b o)) (replicate-append-replicate i 1 0) refl $ done !

  all_zero : (n b o : ℕ) →
      ent 𝓤 (sem 𝓛 (row u8 full_share (replicate n 0) b o)) (sem 𝓛 (lies_at (Array u8 n) full_share (block_ptr b o) (zeros n)))
  unfolding zeros
  all_zero n b o = row_whole 𝓛 n (replicate n 0) b o (length-replicate n 0)

  module _ (𝓣 : Tables 𝓤 𝓛.H) (Post : Val → SProp 𝓤) (b o n : ℕ) (fn : n < 2 ^ 64)
      (exits : ent 𝓤 (sem 𝓛 (lies_at (Array u8 n) full_share (block_ptr b o) (zeros n))) (Post vunit)) where
    open 𝓛 use {H}

    -- how many are written
    abbrev Written : Type 0
    Written = (i : ℕ) × (i ≤ n)

    abbrev Nearer : Written → Written → Type 0
    Nearer t u = n - t.0 < n - u.0

    module _ (l : ℕ → ℕ) where
      abbrev En : Env 𝓤 H
      En = env (code.function).locals l

      abbrev Now : Written → List (Item 𝓤)
      Now t = ‵ (row u8 full_share (replicate t.0 0) b o) ∷ ‵ (froom (ty_array (ty_int w8) (n - t.0)) b (o + t.0)) ∷
          holding 𝓛 En ((1, vptr b o) ∷ (2, vint w64 n) ∷ (3, vint w64 t.0) ∷ [])

      abbrev Turned : Written → Out → SProp 𝓤
      Turned t = after_turn 𝓤 H (Below 𝓛 Nearer Now t) (after_block 𝓤 H
          (after_seq 𝓤 H (Wp 𝓤 H 𝓣.C 𝓣.Λ En (after 2 (code.function).body) (at_return 𝓤 H En Post)) (at_return 𝓤 H En Post)))

      turns : (t : Written) → Sq 𝓛 (Now t) (runs 𝓣.C 𝓣.Λ En turn (any_q (Turned t)))
      unfolding after_turn
      turns t =
          let i : ℕ = t.0 in let le = t.1 in
          sets ! (bin ! (get ! refl) (get ! refl) tt) refl (tt, tt) $ first ! $ branches ! (get ! refl)
          (λ less. let h : i < n = ltb→lt i n less in
          let left : n - i ≡ suc (n - (i + 1)) = omega arith in let on : o + i + 1 ≡ o + (i + 1) = omega arith in
          let fj : i + 1 < 2 ^ 64 = omega arith in
          skips ! $ exec ! 𝓣.C 𝓣.Λ En (after 2 turn) (any_q (Turned t)) $
          sets ! (bin ! (get ! refl) (get ! refl) tt) refl (tt, tt) $
          move ! (1 ∷ []) $ rewrite ! 0 (λ (k : ℕ). ‵ (froom (ty_array (ty_int w8) k) b (o + i))) left refl $
          use1 𝓛 (‵ (froom (ty_int w8) b (o + i)) ⊛ ‵ (froom (ty_array (ty_int w8) (n - (i + 1))) b (o + i + 1)))
          (𝓛.laws.room_uncons (ty_int w8) (n - (i + 1)) b (o + i)) $ split ! $
          rewrite ! 0 (λ (k : ℕ). ‵ (froom (ty_int w8) b k)) (add_comm o i) refl $
          rewrite ! 1 (λ (k : ℕ). ‵ (froom (ty_array (ty_int w8) (n - (i + 1))) b k)) on refl $
          assigns ! (of_opd ! (lit ! tt)) (through ! refl (stop !)) (init ! 0 refl (tt, record { fits = lit< tt })) $
          use1 𝓛 (‵ (part_at u8 full_share 0 b (i + o))) (uint_in 𝓛 full_share w8 0 b (i + o)) $
          sets_last ! (bin ! (get ! refl) (lit ! tt) (record { fits = fj })) refl (tt, record { fits = fj }) $
          move ! (2 ∷ 0 ∷ []) $ use2 𝓛 (‵ (row u8 full_share (replicate (i + 1) 0) b o)) (more i b o) $
          forget_but ! En (1 ∷ 2 ∷ 3 ∷ []) refl $
          again ! Nearer Now t (i + 1, omega arith) (omega arith))
          (λ over. let ge = nltb→le i n over in let all : i ≡ n = omega arith in
          jumps ! $ exec ! 𝓣.C 𝓣.Λ En (after 2 (code.function).body) (at_ret En Post) $
          rewrite ! 0 (λ (k : ℕ). ‵ (row u8 full_share (replicate k 0) b o)) all refl $
          sets ! (of_opd ! (unit_lit !)) refl (tt, tt) $ returns ! (look_at ! 0 refl) $ free_all ! refl $ keep ! (0 ∷ []) $
          use1 𝓛 (‵ (lies_at (Array u8 n) full_share (block_ptr b o) (zeros n))) (all_zero n b o) $ by ! exits)

pub put_zeros_spec : {M : Type 1} → statement M
unfolding tables_of
put_zeros_spec 𝓤 𝓛 𝓜 𝓡 wired =
    let c = f.clauses 𝓛 𝓜.mem 𝓡.returns in let W = walk_of 𝓛 f.ended stayed c in let 𝓣 = tables 𝓤 𝓛.H 𝓜 𝓡 𝓡.env in
    let 𝓣m : Tables 𝓤 𝓛.H = tables_of 𝓤 𝓛.H 𝓜 𝓣 in
    proved 𝓛 f.ended stayed c 𝓜 𝓡 (
      Goes-dropped 𝓛 0 (plain (λ _. RawPtr)) yes (λ κs x w. refl),
      (Goes-dropped 𝓛 0 (plain (λ _. usize)) yes (λ κs x w. refl), tt),
    )
    f.Key.name code.function (code.unfolded 𝓤 𝓛.H 𝓜 𝓡 wired)
    (λ κs. (rawptr_vals, (uint_vals w64, tt))) (λ κs. (rawptr_Tells, (uint_Tells w64, tt))) (λ κs qs bounds a g are.
    let n : ℕ = a.1.0 in
    let y : Ptr → W.Ghost = λ p. ((κs, qs, bounds, (p, (n, tt)), (rawptr_vals p, (uint_vals w64 n, tt))), g) in
    qed 𝓛 (raw (on_entry 𝓛 f.signature κs qs a (y a.0).0.4) ∷ ‵ (room_for (bytes_type n) a.0) ∷ []) ∵ drop ! $
    in_a_block ! a.0 (λ p. room_for (bytes_type n) p) (id⊢ 𝓤 _) (λ b o e.
    regoal ! (λ p. prop (WpFn 𝓤 𝓛.H 𝓣.C 𝓣.Λ code.function (rawptr_vals p ++ (uint_vals w64 n ++ [])) (W.post (y p)))) e refl $
    enter ! _ _ _ _ _ $ alloc_all ! (λ l. pass_all ! refl ((tt, tt), ((tt, record { fits = are.1.0.1 }), tt)) $
    sets ! (of_opd ! (lit ! tt)) refl (tt, record { fits = lit< tt }) $
    let exits : ent 𝓤 (sem 𝓛 (lies_at (Array u8 n) full_share (block_ptr b o) (zeros n))) (W.post (y (block_ptr b o)) vunit) =
    qed 𝓛 (‵ (lies_at (Array u8 n) full_share (block_ptr b o) (zeros n)) ∷ []) ∵
    suffices ! _ (ends_at 𝓛 f.ended stayed c (y (block_ptr b o)) vunit tt (tt, (tt, tt)) (tt, (tt, tt))) $
    feq_i ! _ (vunit ∷ []) _ refl $ nothing ! $ nothing ! $ join ! $ nothing ! $ join ! $ nothing ! $ group ! 3 $ done ! in
    let none : n ≡ n - 0 = omega arith in
    rewrite ! 0 (λ (k : ℕ). ‵ (froom (ty_array (ty_int w8) k) b o)) none refl $
    rewrite ! 0 (λ (k : ℕ). ‵ (froom (ty_array (ty_int w8) (n - 0)) b k)) (sym (add-zero o)) refl $ nothing ! $
    first ! $ blocks ! $ loops ! 𝓣m (Nearer 𝓛 𝓣m (W.post (y (block_ptr b o))) b o n are.1.0.1 exits)
    (InvImage.wf (λ (t : (i : ℕ) × (i ≤ n)). n - t.0) lt-wf_rel.wf) (Now 𝓛 𝓣m (W.post (y (block_ptr b o))) b o n are.1.0.1 exits l)
    (turns 𝓛 𝓣m (W.post (y (block_ptr b o))) b o n are.1.0.1 exits l) (0, omega arith))))
