-- Lists of bytes, byte by byte: numbers that are made of their bytes again, what is at a place, and the list with another byte.
use Rattle.std.proofs.Common.{◌≡◌, ℕ, zero, suc, ◌+◌, ◌*◌, ◌/◌, ◌%◌, ◌<◌, List, [], ◌∷◌, ◌++◌, arith, true, nat_lt, refl, set, replicate}
use Rattle.std.proofs.{Common.{lit<}, lemmas.Bool.{and_parts, and_from, ltb-true, lt-ltb}}
use Rattle.guest_ram.specs.{Bytes.{AreBytes, dword_bytes, all_fit, put}, Listed.{zeros, copies}}

pub no_bytes : AreBytes []
no_bytes at = omega arith

pub more_bytes : (x : ℕ) (xs : List ℕ) → x < 0x100 → AreBytes xs → AreBytes (x ∷ xs)
more_bytes x xs small rest zero = small
more_bytes x xs small rest (suc at) = rest at

pub join_bytes : (xs ys : List ℕ) → AreBytes xs → AreBytes ys → AreBytes (xs ++ ys)
join_bytes [] ys one other = other
join_bytes (x ∷ xs) ys one other = more_bytes x (xs ++ ys) (one 0) (join_bytes xs ys (λ at. one (suc at)) other)

-- the two bytes of a word, and the four of a doubleword
pub bytes_word : (v : ℕ) → v < 0x10000 → AreBytes (v % 0x100 ∷ v / 0x100 ∷ [])
bytes_word v small = more_bytes (v % 0x100) (v / 0x100 ∷ []) (omega arith) (more_bytes (v / 0x100) [] (omega arith) no_bytes)

pub bytes_dword : (v : ℕ) → v < 0x100000000 → AreBytes (dword_bytes v)
bytes_dword v small = grind (arith, more_bytes, no_bytes)

-- and these bytes together are the number
pub word_back : (v : ℕ) → v % 0x100 + 0x100 * (v / 0x100) ≡ v
word_back v = omega arith

pub dword_sum : (v : ℕ) → v % 0x100 + 0x100 * (v / 0x100 % 0x100) + 0x10000 * (v / 0x10000 % 0x100) + 0x1000000 * (v / 0x1000000) ≡ v
dword_sum v = omega arith

pub fits_at : (xs : List ℕ) → all_fit xs ≡ true → AreBytes xs
fits_at [] h at = omega arith
fits_at (x ∷ xs) h zero = ltb-true x 0x100 (and_parts (nat_lt x 0x100) (all_fit xs) h).0
fits_at (x ∷ xs) h (suc at) = fits_at xs (and_parts (nat_lt x 0x100) (all_fit xs) h).1 at

pub fit-set : (xs : List ℕ) (i v : ℕ) → v < 0x100 → all_fit xs ≡ true → all_fit (set xs i v) ≡ true
fit-set [] i v h e = refl
fit-set (x ∷ xs) zero v h e = and_from (nat_lt v 0x100) (all_fit xs) (lt-ltb v 0x100 h) (and_parts (nat_lt x 0x100) (all_fit xs) e).1
fit-set (x ∷ xs) (suc i) v h e =
    let both = and_parts (nat_lt x 0x100) (all_fit xs) e in
    and_from (nat_lt x 0x100) (all_fit (set xs i v)) both.0 (fit-set xs i v h both.1)

pub fit-replicate : (n v : ℕ) → v < 0x100 → all_fit (replicate n v) ≡ true
fit-replicate zero v h = refl
fit-replicate (suc n) v h = and_from (nat_lt v 0x100) (all_fit (replicate n v)) (lt-ltb v 0x100 h) (fit-replicate n v h)

pub fit-zeros : (n : ℕ) → all_fit (zeros n) ≡ true
unfolding zeros
fit-zeros n = fit-replicate n 0 (lit< tt)

pub fit-copies : (n v : ℕ) → v < 0x100 → all_fit (copies n v) ≡ true
unfolding copies
fit-copies n v h = fit-replicate n v h

pub fit-put : (b : List ℕ) (at : ℕ) (xs : List ℕ) → all_fit xs ≡ true → all_fit b ≡ true → all_fit (put b at xs) ≡ true
fit-put b at [] h e = e
fit-put b at (x ∷ xs) h e =
    let both = and_parts (nat_lt x 0x100) (all_fit xs) h in
    fit-put (set b at x) (at + 1) xs both.1 (fit-set b at x (ltb-true x 0x100 both.0) e)
