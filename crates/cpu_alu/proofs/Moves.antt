-- Single bits moved n times, in one formula for all n: a word and the carry flag are one number of w + 1 bits.
use Rattle.std.proofs.{Common.{◌≡◌, refl, sym, arith, inl, inr, add-one}, lemmas.Bool.Decides.{nat_tests}, lemmas.Bool.{le-leb, lt-leb}}
use Rattle.std.proofs.{lemmas.Bool.{cases_lt}, lemmas.Nat.{shr-shr, shr_le, mul-mod_second, mod-mul-add, div-mul-add}, Math.Nat.{pow-suc}}
use Rattle.std.proofs.Math.Nat.{add-zero, mul_assoc, mul_comm, div-one, mul-one}
use Rattle.std.specs.Prelude.{ℕ, zero, suc, ◌+◌, ◌-◌, ◌*◌, ◌/◌, ◌%◌, ◌^◌, ◌<◌, ◌≤◌, Bool, true, false}
use Rattle.cpu_values.specs.Word.{IsWidth}
use Rattle.cpu_alu.specs.{Results.{bit_of, low_bit, top_bit}, Shifts.{bits_moved, shl_bit, shr_bit, sar_bit}, Packed.{carry_below}}
use Rattle.cpu_alu.specs.Packed.{from_below, carry_above, from_above, sign_shifted}

-- half of a number that was halved n times
halved : (v n : ℕ) → v / 2 ^ suc n ≡ v / 2 ^ n / 2
halved v n = sym (rw add-one at (shr-shr v n 1))

-- a flag as a number
bit_of-le : (c : Bool) → bit_of c ≤ 1
bit_of-le true = omega arith
bit_of-le false = omega arith

-- no bit moved, the carry flag below
from_below-carry_below : (a : ℕ) (c : Bool) → from_below (carry_below a c) ≡ (a, c)
from_below-carry_below a true =
    let half : (2 * a + 1) / 2 ≡ a = omega arith in
    let low : (2 * a + 1) % 2 ≡ 1 = omega arith in
    rw (half, low) refl
from_below-carry_below a false =
    let half : (2 * a + 0) / 2 ≡ a = omega arith in
    let low : (2 * a + 0) % 2 ≡ 0 = omega arith in
    rw (half, low) refl

-- SHR: the number with the carry flag below is halved each time
pub shr_bits : (w n a : ℕ) (c : Bool) → bits_moved (shr_bit w) n (a, c) ≡ from_below (carry_below a c / 2 ^ n)
unfolding bits_moved
shr_bits w zero a c = rw div-one (sym (from_below-carry_below a c))
shr_bits w (suc n) a c = rw (shr_bits w n a c, halved, add-zero) refl

-- the bit above the word is the top bit before a move to the left
pub top_bit-above : (w v : ℕ) → IsWidth w → top_bit w (v % 2 ^ w) ≡ low_bit (v * 2 / 2 ^ w)
top_bit-above w v (inl e) = rw e (grind (arith, nat_tests))
top_bit-above w v (inr (inl e)) = rw e (grind (arith, nat_tests))
top_bit-above w v (inr (inr e)) = rw e (grind (arith, nat_tests))

-- no bit moved, the carry flag above
pub from_above-carry_above : (w a : ℕ) (c : Bool) → a < 2 ^ w → from_above w (carry_above w a c) ≡ (a, c)
from_above-carry_above w a true h = rw (mod-mul-add 1 (2 ^ w) a h, div-mul-add 1 (2 ^ w) a h) refl
from_above-carry_above w a false h = rw (mod-mul-add 0 (2 ^ w) a h, div-mul-add 0 (2 ^ w) a h) refl

-- SHL: the number with the carry flag above is doubled each time
pub shl_bits : (w n a : ℕ) (c : Bool) → IsWidth w → a < 2 ^ w → bits_moved (shl_bit w) n (a, c) ≡ from_above w (carry_above w a c * 2 ^ n)
unfolding bits_moved
shl_bits w zero a c h k = rw mul-one (sym (from_above-carry_above w a c k))
shl_bits w (suc n) a c h k =
    let v = carry_above w a c * 2 ^ n in
    let e : carry_above w a c * 2 ^ suc n ≡ v * 2 = rw (pow-suc 2 n, ← mul_assoc (carry_above w a c) (2 ^ n) 2) refl in
    rw (shl_bits w n a c h k, e, add-zero, mul-mod_second 2 v (2 ^ w), mul_comm 2 v, top_bit-above w v h) refl

-- a width's numbers are twice those below the sign
pub half_modulus : (w : ℕ) → IsWidth w → 2 ^ w ≡ 2 * 2 ^ (w - 1)
half_modulus w (inl e) = rw e refl
half_modulus w (inr (inl e)) = rw e refl
half_modulus w (inr (inr e)) = rw e refl

-- SAR by one bit of a number that isn't negative
sar_bit-low : (w v : ℕ) → IsWidth w → v < 2 ^ w → sar_bit w (from_below v) ≡ from_below (v / 2)
sar_bit-low w v k h =
    let m = half_modulus w k in
    let top : top_bit w (v / 2) ≡ false = lt-leb (2 ^ (w - 1)) (v / 2) (omega arith) in
    rw (top, add-zero) refl

-- SAR by one bit of a negative number, by its complement
sar_bit-high : (w v : ℕ) → IsWidth w → v < 2 ^ w → sar_bit w (from_below (2 * 2 ^ w - 1 - v)) ≡ from_below (2 * 2 ^ w - 1 - v / 2)
sar_bit-high w v k h =
    let m = half_modulus w k in
    let top : top_bit w ((2 * 2 ^ w - 1 - v) / 2) ≡ true = le-leb (2 ^ (w - 1)) ((2 * 2 ^ w - 1 - v) / 2) (omega arith) in
    let word : (2 * 2 ^ w - 1 - v) / 2 / 2 + 2 ^ (w - 1) ≡ (2 * 2 ^ w - 1 - v / 2) / 2 = omega arith in
    let low : (2 * 2 ^ w - 1 - v) / 2 % 2 ≡ (2 * 2 ^ w - 1 - v / 2) % 2 = omega arith in
    rw (top, word, low) refl

-- SAR of a number that isn't negative
sar_bits-low : (w n a : ℕ) (c : Bool) → IsWidth w → carry_below a c < 2 ^ w →
    bits_moved (sar_bit w) n (a, c) ≡ from_below (carry_below a c / 2 ^ n)
unfolding bits_moved
sar_bits-low w zero a c k h = rw div-one (sym (from_below-carry_below a c))
sar_bits-low w (suc n) a c k h =
    let v = carry_below a c / 2 ^ n in
    let below : v < 2 ^ w = omega (arith, shr_le (carry_below a c) n) in
    rw (sar_bits-low w n a c k h, halved) (sar_bit-low w v k below)

-- SAR of a negative number
sar_bits-high : (w n a : ℕ) (c : Bool) → IsWidth w → a < 2 ^ w → 2 ^ w ≤ carry_below a c →
    bits_moved (sar_bit w) n (a, c) ≡ from_below (2 * 2 ^ w - 1 - (2 * 2 ^ w - 1 - carry_below a c) / 2 ^ n)
unfolding bits_moved
sar_bits-high w zero a c k small h =
    let bit : bit_of c ≤ 1 = bit_of-le c in
    let back : 2 * 2 ^ w - 1 - (2 * 2 ^ w - 1 - carry_below a c) ≡ carry_below a c = omega arith in
    rw (div-one, back) (sym (from_below-carry_below a c))
sar_bits-high w (suc n) a c k small h =
    let v = (2 * 2 ^ w - 1 - carry_below a c) / 2 ^ n in
    let below : v < 2 ^ w = omega (arith, shr_le (2 * 2 ^ w - 1 - carry_below a c) n) in
    rw (sar_bits-high w n a c k small h, halved) (sar_bit-high w v k below)

-- SAR: the number with the carry flag below is shifted as a signed one
pub sar_bits : (w n a : ℕ) (c : Bool) → IsWidth w → a < 2 ^ w →
    bits_moved (sar_bit w) n (a, c) ≡ from_below (sign_shifted w (carry_below a c) n)
sar_bits w n a c k h = elim (cases_lt (carry_below a c) (2 ^ w)) [
  | inl low ↦ rw (lt-leb (2 ^ w) (carry_below a c) low) (sar_bits-low w n a c k low)
  | inr high ↦ rw (le-leb (2 ^ w) (carry_below a c) high) (sar_bits-high w n a c k h high)
]

-- twice a width's numbers fit 33 bits
pub double_width : (w : ℕ) → IsWidth w → 2 * 2 ^ w ≤ 2 ^ 33
double_width w (inl e) = rw e (omega arith)
double_width w (inr (inl e)) = rw e (omega arith)
double_width w (inr (inr e)) = rw e (omega arith)
