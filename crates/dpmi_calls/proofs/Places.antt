-- The first position at which a test passes, as a search going up finds it.
use Rattle.std.proofs.Common.{◌≡◌, ◌≢◌, ◌∙◌, ◌<◌, ◌≤◌, ◌+◌, ℕ, Bool, true, List, length, drop, map, nat_eq, not, sym, ap, None, Some, arith}
use Rattle.std.proofs.{lemmas.Iterator.Adapters.{position_from-zero}, lemmas.List.{drop_more, drop_all, get_or-map}}
use Rattle.std.specs.{Prelude.{cond, slice_index}, List.{position, position_from}}

pub found : (p : ℕ → Bool) (xs : List ℕ) (i : ℕ) → position_from p 0 xs ≡ position_from p i (drop i xs) → i < length xs →
    p (slice_index xs i) ≡ true → Some i ≡ position p xs
found p xs i so_far lt passes =
    sym (position_from-zero p xs ∙ so_far ∙ ap (position_from p i) (drop_more xs i 0 lt)
    ∙ ap (λ b. cond b (Some i) (position_from p (i + 1) (drop (i + 1) xs))) passes)

pub not_found : (p : ℕ → Bool) (xs : List ℕ) (i : ℕ) → position_from p 0 xs ≡ position_from p i (drop i xs) → length xs ≤ i →
    None ≡ position p xs
not_found p xs i so_far le = sym (position_from-zero p xs ∙ so_far ∙ ap (position_from p i) (drop_all i xs le))

-- a number that a function gave of a place, and another one now
pub differs : (f g : ℕ → ℕ) (xs before : List ℕ) (i now : ℕ) → before ≡ map f xs → i < length xs → now ≡ g (slice_index xs i) →
    now ≢ slice_index before i → not (nat_eq (f (slice_index xs i)) (g (slice_index xs i))) ≡ true
differs f g xs before i now was lt is other =
    let at : slice_index before i ≡ f (slice_index xs i) = ap (λ ys. slice_index ys i) was ∙ get_or-map f xs i 0 0 lt in
    grind (arith, at, is, other)
