-- Rows of states, and the order of numbers of turns.
use Rattle.std.proofs.Common.{arith, ◌≡◌, ◌<◌, ◌≤◌, ◌+◌, ℕ, zero, suc, List, length, refl, sym, subst, inl, inr, add-one, slice_index}
use Rattle.std.proofs.{Common.{slice_index_or, slice_set, get_or-set_same, get_or-set_other}, Math.Nat.{eq-or-lt_of_le}}
use Rattle.std.specs.Prelude.{◌⊎◌}
use Rattle.dpmi_calls.specs.{States.{AreInOrder}, declared.state.State.{State}}

-- one more row is put
pub one_more_state : (P : ℕ → State → Type 0) (rows : List State) (i : ℕ) (s : State) → i < length rows → P i s →
    ((k : ℕ) (other : State) → k < i → P k (slice_index_or rows k other)) →
    (k : ℕ) (other : State) → k < i + 1 → P k (slice_index_or (slice_set rows i s) k other)
one_more_state P rows i s room new old k other lt = by (eq-or-lt_of_le (omega (arith, lt)))
  where
    by : (k ≡ i) ⊎ (k < i) → P k (slice_index_or (slice_set rows i s) k other)
    by (inl same) =
        subst (λ n. P n (slice_index_or (slice_set rows i s) n other)) (sym same)
        (subst (λ (r : State). P i r) (sym (get_or-set_same rows i s other room)) new)
    by (inr less) =
        subst (λ (r : State). P k r) (sym (get_or-set_other rows i k s other (omega (arith, less)))) (old k other less)

-- where numbers of turns are in order, the next one isn't below how many were made
pub later : (turns : List ℕ) (i made : ℕ) → (i ≡ 0 → made ≡ 0) → ((k : ℕ) → i ≡ k + 1 → made ≡ slice_index turns k) → i < length turns →
    AreInOrder turns → made ≤ slice_index turns i
later turns zero made none before lt order = let zero_made = none refl in omega (arith, zero_made)
later turns (suc k) made none before lt order =
    let was = before k (sym (add-one k)) in
    let le = order.0 k (omega (arith, lt)) in
    subst (λ n. made ≤ slice_index turns n) (add-one k) (omega (arith, was, le))
