-- The accesses of what an instruction puts and pushes: the numbers have no part in them; touches of a list of accesses, one after another.
use Rattle.std.proofs.Common.{◌≡◌, ℕ, Bool, true, List, [], ◌∷◌, ◌++◌, refl, suc, ◌+◌, ◌<◌, ◌≤◌, None, Some, ap, ◌∙◌, drop, drop-cons}
use Rattle.std.proofs.{Common.{length, arith}, lemmas.List.{drop_all}}
use Rattle.client_world.specs.{declared.registers.Regs.{Regs}, World.{World}, declared.watchpoints.Touch.{Touch}}
use Rattle.guest_space.specs.{declared.pending.Write.{Write}, Pending.{byte_count}}
use Rattle.insn_forms.specs.{declared.insn.Operand.{Operand}, declared.insn.Operand.TheVariants.{Empty, Reg, Seg, Mem, Imm, Far}}
use Rattle.insn_plan.specs.{declared.accesses.Access.{Access}, Accesses.{and_writes, and_put, and_push, esp_down, touch_of_access}}
use Rattle.insn_plan.specs.{Accesses.{touches_after}, Act.{Pending}, Operands.{put_operand}, Stack.{with_pushed_number}}
use Rattle.std.specs.Prelude.{slice_index_or}

-- the access of a write
abbrev access_of : Write → Access
access_of x = record { seg = x.seg; off = x.off; count = byte_count x.width; write = true }

one_more : (done : List Access) (xs : List Write) (x : Write) → and_writes done (xs ++ x ∷ []) ≡ and_writes done xs ++ access_of x ∷ []
one_more done [] x = refl
one_more done (y ∷ ys) x = one_more (done ++ access_of y ∷ []) ys x

pub put_accesses : (done : List Access) (r : Regs) (addr32 : Bool) (width : ℕ) (operand : Operand) (v : ℕ) (p : Pending) →
    and_writes done (put_operand r addr32 width operand v p).writes ≡ and_put r addr32 width operand (and_writes done p.writes)
unfolding put_operand and_put
put_accesses done r addr32 width Empty v p = refl
put_accesses done r addr32 width (Reg own number) v p = refl
put_accesses done r addr32 width (Seg seg) v p = refl
put_accesses done r addr32 width (Mem f) v p = one_more done p.writes _
put_accesses done r addr32 width (Imm x) v p = refl
put_accesses done r addr32 width (Far pointer) v p = refl

pub pushed_accesses : (done : List Access) (w : World) (width v : ℕ) (p : Pending) →
    and_writes done (with_pushed_number w width v p).writes ≡ and_push w width p.regs.esp (and_writes done p.writes)
unfolding with_pushed_number
pushed_accesses done w width v p = one_more done p.writes _

pub pushed_esp : (w : World) (width v : ℕ) (p : Pending) → (with_pushed_number w width v p).regs.esp ≡ esp_down w width p.regs.esp
unfolding with_pushed_number
pushed_esp w width v p = refl

touches_none : (w : World) (done : List Touch) (a : Access) (rest : List Access) → touch_of_access w a ≡ None →
    touches_after w done (a ∷ rest) ≡ None
unfolding touches_after
touches_none w done a rest e = rw (touches_after, e) refl

touches_some : (w : World) (done : List Touch) (a : Access) (rest : List Access) (touch : Touch) → touch_of_access w a ≡ Some touch →
    touches_after w done (a ∷ rest) ≡ touches_after w (done ++ touch ∷ []) rest
unfolding touches_after
touches_some w done a rest touch e = rw (touches_after, e) refl

touches_end : (w : World) (done : List Touch) → touches_after w done [] ≡ Some done
unfolding touches_after
touches_end w done = refl

-- from a place in the list on
left_from : (xs : List Access) (i : ℕ) (d : Access) → i < length xs → drop i xs ≡ slice_index_or xs i d ∷ drop (i + 1) xs
left_from xs i d within =
    let next : suc i ≡ i + 1 = omega arith in
    drop-cons xs i d within ∙ ap (λ (n : ℕ). slice_index_or xs i d ∷ drop n xs) next

pub left_none : (w : World) (done : List Touch) (xs : List Access) (i : ℕ) (d : Access) → i < length xs →
    touch_of_access w (slice_index_or xs i d) ≡ None → touches_after w done (drop i xs) ≡ None
left_none w done xs i d within e =
    ap (touches_after w done) (left_from xs i d within) ∙ touches_none w done (slice_index_or xs i d) (drop (i + 1) xs) e

pub left_some : (w : World) (done : List Touch) (xs : List Access) (i : ℕ) (d : Access) (touch : Touch) → i < length xs →
    touch_of_access w (slice_index_or xs i d) ≡ Some touch →
    touches_after w done (drop i xs) ≡ touches_after w (done ++ touch ∷ []) (drop (i + 1) xs)
left_some w done xs i d touch within e =
    ap (touches_after w done) (left_from xs i d within) ∙ touches_some w done (slice_index_or xs i d) (drop (i + 1) xs) touch e

pub left_end : (w : World) (done : List Touch) (xs : List Access) (i : ℕ) → length xs ≤ i → touches_after w done (drop i xs) ≡ Some done
left_end w done xs i within = ap (touches_after w done) (drop_all i xs within) ∙ touches_end w done
