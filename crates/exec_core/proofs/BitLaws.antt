-- Bits: a bit that is clear can be set within a width, and the search for a bit goes on in half of the number.
use Rattle.std.proofs.{Common.{◌≡◌, ◌≢◌, ℕ, suc, ◌+◌, ◌-◌, ◌*◌, ◌/◌, ◌%◌, ◌^◌, ◌<◌, ◌≤◌, arith, refl, false}, lemmas.Bool.{lt-ltb, le-ltb}}
use Rattle.std.proofs.{lemmas.Bool.{eqb-false}, lemmas.Nat.{pow_pos, pow-add, div_below, mod_below}, Math.Pow.{pow-lt}}
use Rattle.std.proofs.Math.Nat.{div-add-mod, mul-le-mul_left, mod-eq_of_lt}
use Rattle.exec_core.specs.Bits.{lowest_bit, highest_bit, bit_at}

-- a place of value b within numbers below b · 2 · m
room_above : (v b m : ℕ) → 0 < b → v < b * (2 * m) → v / b % 2 ≢ 1 → v + b < b * (2 * m)
room_above v b m pos below clear =
    let up : v / b < 2 * m = div_below v b (2 * m) pos (omega (arith, below)) in
    let down = mod_below v b pos in
    let whole = div-add-mod v b in
    let more : v / b + 2 ≤ 2 * m = omega (arith, up, clear) in
    let times = mul-le-mul_left b more in
    omega (arith, times, whole, down)

-- a number of n bits with a clear bit has room for that bit
room_among : (v n j k : ℕ) → k ≡ n + (1 + j) → v < 2 ^ k → v / 2 ^ n % 2 ≢ 1 → v + 2 ^ n < 2 ^ k
room_among v n j k split below clear =
    let parts : 2 ^ k ≡ 2 ^ n * (2 * 2 ^ j) = rw (split, pow-add 2 n (1 + j), pow-add 2 1 j) refl in
    rw parts (room_above v (2 ^ n) (2 ^ j) (pow_pos n) (rw parts at below) clear)

-- the same of a doubleword
pub room_for_bit : (v n : ℕ) → n < 32 → v < 2 ^ 32 → bit_at v n ≡ false → v + 2 ^ n < 2 ^ 32
room_for_bit v n h below clear = room_among v n (31 - n) 32 (omega arith) below (eqb-false (v / 2 ^ n % 2) 1 clear)

-- the value of a bit of a doubleword is a doubleword: nothing is cut off where it is shifted there
pub weight_fits : (n : ℕ) → n < 32 → 1 * 2 ^ n % 0x100000000 ≡ 2 ^ n
weight_fits n h =
    let less : 2 ^ n < 2 ^ 32 = pow-lt h in
    let small : 1 * 2 ^ n < 0x100000000 = omega (arith, less) in
    let same : 1 * 2 ^ n % 0x100000000 ≡ 1 * 2 ^ n = mod-eq_of_lt small in
    omega (arith, same)

-- the lowest bit is at the place where the loop is
pub lowest_here : (v k w : ℕ) → k < w → v % 2 ≡ 1 → k + lowest_bit v (w - k) ≡ k
unfolding lowest_bit
lowest_here v k w h odd = let next : w - k ≡ suc (w - (k + 1)) = omega arith in rw (next, lowest_bit, odd) (omega arith)

-- or it is further up
pub lowest_further : (v k w : ℕ) → k < w → v % 2 ≢ 1 → k + lowest_bit v (w - k) ≡ k + 1 + lowest_bit (v / 2) (w - (k + 1))
unfolding lowest_bit
lowest_further v k w h even =
    let next : w - k ≡ suc (w - (k + 1)) = omega arith in
    let zero_bit : v % 2 ≡ 0 = omega arith in
    rw (next, lowest_bit, zero_bit) (omega arith)

-- the highest bit is at the place where the loop is
pub highest_here : (v k w : ℕ) → k < w → v < 2 → k + highest_bit v (w - k) ≡ k
unfolding highest_bit
highest_here v k w h small = let next : w - k ≡ suc (w - (k + 1)) = omega arith in rw (next, highest_bit, lt-ltb v 2 small) (omega arith)

-- or it is further up
pub highest_further : (v k w : ℕ) → k < w → 2 ≤ v → k + highest_bit v (w - k) ≡ k + 1 + highest_bit (v / 2) (w - (k + 1))
unfolding highest_bit
highest_further v k w h large = let next : w - k ≡ suc (w - (k + 1)) = omega arith in rw (next, highest_bit, le-ltb v 2 large) (omega arith)

-- where all bits were looked at, none is left
pub none_lower : (v k w : ℕ) → w ≤ k → k + lowest_bit v (w - k) ≡ k
unfolding lowest_bit
none_lower v k w h = let none : w - k ≡ 0 = omega arith in rw (none, lowest_bit) (omega arith)

pub none_higher : (v k w : ℕ) → w ≤ k → k + highest_bit v (w - k) ≡ k
unfolding highest_bit
none_higher v k w h = let none : w - k ≡ 0 = omega arith in rw (none, highest_bit) (omega arith)
