-- Numbers of a few bytes, and those of one, two and four, read whole.
use Rattle.std.proofs.Common.{◌≡◌, ℕ, zero, suc, ◌+◌, ◌-◌, ◌*◌, ◌^◌, ◌<◌, ◌≤◌, refl, arith, List, [], ◌∷◌, length, get_or, take, drop, Ok}
use Rattle.std.proofs.{Common.{Err, sym, ap, ◌∙◌}, lemmas.List.{take_all, length-drop}}
use Rattle.insn_decode.specs.{declared.stop.Stop.TheVariants.{More}, Reading.{Read, number_at}}

pub grows : (s o f : ℕ) → (s ≡ 0 → ⊥) → s ≤ 6 → f < 256 → o < 256 ^ (s - 1) → (f + 256 * o < 256 ^ s) × (256 ^ s ≤ 2 ^ 48)
grows zero o f ne le a b = absurd (ne refl)
grows (suc zero) o f ne le a b = (omega (arith, a, b), omega arith)
grows (suc (suc zero)) o f ne le a b = (omega (arith, a, b), omega arith)
grows (suc (suc (suc zero))) o f ne le a b = (omega (arith, a, b), omega arith)
grows (suc (suc (suc (suc zero)))) o f ne le a b = (omega (arith, a, b), omega arith)
grows (suc (suc (suc (suc (suc zero))))) o f ne le a b = (omega (arith, a, b), omega arith)
grows (suc (suc (suc (suc (suc (suc zero)))))) o f ne le a b = (omega (arith, a, b), omega arith)
grows (suc (suc (suc (suc (suc (suc (suc n))))))) o f ne le a b = absurd (omega arith)

pub fits_byte : (s v : ℕ) → s ≤ 1 → v < 256 ^ s → v < 256
fits_byte zero v le lt = omega (arith, lt)
fits_byte (suc zero) v le lt = omega (arith, lt)
fits_byte (suc (suc n)) v le lt = absurd (omega arith)

pub fits_word : (s v : ℕ) → s ≤ 4 → v < 256 ^ s → v < 2 ^ 32
fits_word zero v le lt = omega (arith, lt)
fits_word (suc zero) v le lt = omega (arith, lt)
fits_word (suc (suc zero)) v le lt = omega (arith, lt)
fits_word (suc (suc (suc zero))) v le lt = omega (arith, lt)
fits_word (suc (suc (suc (suc zero)))) v le lt = omega (arith, lt)
fits_word (suc (suc (suc (suc (suc n))))) v le lt = absurd (omega arith)

pub too_few : (n : ℕ) (bs : List ℕ) → length bs < n → number_at n bs ≡ Err More
unfolding number_at
too_few zero bs lt = absurd (omega (arith, lt))
too_few (suc n) [] lt = refl
too_few (suc n) (b ∷ bs) lt = rw (too_few n bs (omega (arith, lt))) refl

abbrev ok : ℕ → List ℕ → Read ℕ
ok v bs = Ok (v, bs)

-- the rest, as a range of the slice gives it
rest_is : (bs : List ℕ) (n v : ℕ) → n ≤ length bs → ok v (drop n bs) ≡ ok v (take (length bs - n) (drop n bs))
rest_is bs n v le = ap (ok v) (sym (take_all (length bs - n) (drop n bs) (omega (arith, length-drop n bs, le))))

one_is : (bs : List ℕ) (v : ℕ) → 1 ≤ length bs → v ≡ get_or bs 0 0 → number_at 1 bs ≡ ok v (drop 1 bs)
unfolding number_at
one_is [] v le e = absurd (omega (arith, le))
one_is (a ∷ bs) v le e = ap (λ n. ok n bs) (omega (arith, e))

two_is : (bs : List ℕ) (v : ℕ) → 2 ≤ length bs → v ≡ get_or bs 0 0 + get_or bs 1 0 * 256 → number_at 2 bs ≡ ok v (drop 2 bs)
unfolding number_at
two_is [] v le e = absurd (omega (arith, le))
two_is (a ∷ []) v le e = absurd (omega (arith, le))
two_is (a ∷ b ∷ bs) v le e = ap (λ n. ok n bs) (omega (arith, e))

four_is : (bs : List ℕ) (v : ℕ) → 4 ≤ length bs →
    v ≡ get_or bs 0 0 + get_or bs 1 0 * 256 + get_or bs 2 0 * 65536 + get_or bs 3 0 * 16777216 → number_at 4 bs ≡ ok v (drop 4 bs)
unfolding number_at
four_is [] v le e = absurd (omega (arith, le))
four_is (a ∷ []) v le e = absurd (omega (arith, le))
four_is (a ∷ b ∷ []) v le e = absurd (omega (arith, le))
four_is (a ∷ b ∷ c ∷ []) v le e = absurd (omega (arith, le))
four_is (a ∷ b ∷ c ∷ d ∷ bs) v le e = ap (λ n. ok n bs) (omega (arith, e))

pub one_gives : (bs : List ℕ) (v : ℕ) → 1 ≤ length bs → v ≡ get_or bs 0 0 → number_at 1 bs ≡ Ok (v, take (length bs - 1) (drop 1 bs))
one_gives bs v le e = one_is bs v le e ∙ rest_is bs 1 v le

pub two_gives : (bs : List ℕ) (v : ℕ) → 2 ≤ length bs → v ≡ get_or bs 0 0 + get_or bs 1 0 * 256
    → number_at 2 bs ≡ Ok (v, take (length bs - 2) (drop 2 bs))
two_gives bs v le e = two_is bs v le e ∙ rest_is bs 2 v le

pub four_gives : (bs : List ℕ) (v : ℕ) → 4 ≤ length bs
    → v ≡ get_or bs 0 0 + get_or bs 1 0 * 256 + get_or bs 2 0 * 65536 + get_or bs 3 0 * 16777216
    → number_at 4 bs ≡ Ok (v, take (length bs - 4) (drop 4 bs))
four_gives bs v le e = four_is bs v le e ∙ rest_is bs 4 v le
