-- The length of a list given by a function, what is at each place, and when two are the same.
use Rattle.std.proofs.Common.{◌≡◌, ◌≢◌, ℕ, ◌+◌, ◌<◌, List, [], ◌∷◌, ◌++◌, length, get_or, set, ◌∙◌, sym, arith, zero-add, get_or-set_same}
use Rattle.std.proofs.{Common.{get_or-set_other, length-append, length-set}, lemmas.Grind.{same_number_lists}, lemmas.List.{same_lists}}
use Rattle.std.proofs.lemmas.List.{get_or_append_left, get_or-append_right, length-replicate, get_or-replicate}
use Rattle.std.proofs.lemmas.List.FromFn.{length-map-range_with_len, get_or-map-range_with_len}
use Rattle.guest_ram.specs.Listed.{listed, zeros, copies}

pub length-listed : {X : Type 0} (n : ℕ) (f : ℕ → X) → length (listed n f) ≡ n
unfolding listed
length-listed n f = length-map-range_with_len f 0 n

pub at_listed : {X : Type 0} (n : ℕ) (f : ℕ → X) (k : ℕ) (d : X) → k < n → get_or (listed n f) k d ≡ f k
unfolding listed
at_listed n f k d h = get_or-map-range_with_len f 0 n k k d h (zero-add k)

-- a list of n that has f k at each k
pub is_listed : {X : Type 0} (xs : List X) (n : ℕ) (f : ℕ → X) → length xs ≡ n → ((k : ℕ) (d : X) → k < n → get_or xs k d ≡ f k) →
    xs ≡ listed n f
is_listed xs n f e h = same_lists xs (listed n f) (e ∙ sym (length-listed n f)) (λ k d l.
    let small : k < n = omega arith in h k d small ∙ sym (at_listed n f k d small))

pub same_listed : {X : Type 0} (n : ℕ) (f g : ℕ → X) → ((k : ℕ) → k < n → f k ≡ g k) → listed n f ≡ listed n g
same_listed n f g h = is_listed (listed n f) n g (length-listed n f) (λ k d l. at_listed n f k d l ∙ h k l)

-- one more in the list
pub listed_next : (n : ℕ) (f : ℕ → ℕ) → listed (n + 1) f ≡ listed n f ++ f n ∷ []
listed_next n f = grind (arith, at_listed, get_or-append_right, get_or_append_left, length-append, length-listed, same_number_lists)

-- where g differs from f at one place alone
pub listed-set : {X : Type 0} (n : ℕ) (f g : ℕ → X) (i : ℕ) (v : X) → i < n → g i ≡ v → ((k : ℕ) → k < n → k ≢ i → g k ≡ f k) →
    listed n g ≡ set (listed n f) i v
listed-set n f g i v within here others = sym (is_listed (set (listed n f) i v) n g (length-set (listed n f) i v ∙ length-listed n f) step)
  where
    step : (k : ℕ) (d : _) → k < n → get_or (set (listed n f) i v) k d ≡ g k
    step k d l = grind (arith, at_listed, get_or-set_other, get_or-set_same, length-listed)

pub length-zeros : (n : ℕ) → length (zeros n) ≡ n
unfolding zeros
length-zeros n = length-replicate n 0

pub at_zeros : (n k : ℕ) → k < n → get_or (zeros n) k 0 ≡ 0
unfolding zeros
at_zeros n k h = get_or-replicate n k 0 0 h

pub length-copies : (n v : ℕ) → length (copies n v) ≡ n
unfolding copies
length-copies n v = length-replicate n v

pub at_copies : (n v k : ℕ) → k < n → get_or (copies n v) k 0 ≡ v
unfolding copies
at_copies n v k h = get_or-replicate n k v 0 h
