-- Rotates: n single bits moved are a number turned in one step, of w bits, or of w + 1 with the carry flag above the word.
use Rattle.std.proofs.{Common.{◌≡◌, refl, sym, ap, ◌∙◌, arith, inl, inr, add-one}, lemmas.Bool.{cases_lt}, lemmas.Nat.{mod_below}}
use Rattle.std.proofs.Math.Nat.{zero-mod, pow-suc, mul_comm, add-zero, mod-eq_of_lt, div-eq_of_lt}
use Rattle.std.specs.Prelude.{ℕ, zero, suc, ◌+◌, ◌-◌, ◌*◌, ◌/◌, ◌%◌, ◌^◌, ◌<◌, ◌≤◌, Bool, true, false, if◌then◌else◌}
use Rattle.cpu_values.specs.Word.{IsWidth}
use Rattle.cpu_alu.specs.{Results.{low_bit, top_bit}, Shifts.{Moved, bits_moved, rol_bit, ror_bit, rcl_bit, rcr_bit}, Packed.{carry_above}}
use Rattle.cpu_alu.specs.Packed.{from_above, turned}
use Rattle.cpu_alu.proofs.{Moves.{from_above-carry_above, half_modulus, top_bit-above}, Turns.{left_once, right_once, mod_past, div_past}}
use Rattle.cpu_alu.proofs.Turns.{left_once-low, left_once-high, right_once-left_once, low_bit-left_once, turned_below_all, turned-zero}
use Rattle.cpu_alu.proofs.Turns.{turned-all, left_once-turned_mod, turned_back}

-- two pairs of equal parts
pair-eq : {a b : ℕ} {c d : Bool} → a ≡ b → c ≡ d → ◌≡◌ {A = Moved} (a, c) (b, d)
pair-eq p q = rw (p, q) refl

-- a width isn't 0
pub IsWidth-pos : (w : ℕ) → IsWidth w → 0 < w
IsWidth-pos w (inl e) = omega arith
IsWidth-pos w (inr (inl e)) = omega arith
IsWidth-pos w (inr (inr e)) = omega arith

-- ROL: the word
rol_word : (w n a : ℕ) (c : Bool) → 0 < w → a < 2 ^ w → (bits_moved (rol_bit w) n (a, c)).0 ≡ turned w a (n % w)
unfolding bits_moved
rol_word w zero a c k h = rw zero-mod (sym (turned-zero w a h))
rol_word w (suc n) a c k h = rw (rol_word w n a c k h) (left_once-turned_mod w a n k h)

-- ROL: the bit that went out came in at the bottom
pub rol_bits : (w n a : ℕ) (c : Bool) → 0 < w → a < 2 ^ w → 0 < n →
    bits_moved (rol_bit w) n (a, c) ≡ (turned w a (n % w), low_bit (turned w a (n % w)))
unfolding bits_moved
rol_bits w zero a c k h pos = absurd (omega arith)
rol_bits w (suc n) a c k h pos =
    let below = turned_below_all w a (n % w) (omega (arith, mod_below n w k)) h in
    let next = left_once-turned_mod w a n k h in
    let carry = sym (low_bit-left_once w (turned w a (n % w)) k below) ∙ ap low_bit next in
    rw (rol_word w n a c k h) (pair-eq next carry)

-- ROR: the word
ror_word : (w n a : ℕ) (c : Bool) → 0 < w → a < 2 ^ w → (bits_moved (ror_bit w) n (a, c)).0 ≡ turned w a (w - n % w)
unfolding bits_moved
ror_word w zero a c k h = let whole : w - 0 ≡ w = omega arith in rw (zero-mod, whole) (sym (turned-all w a))
ror_word w (suc n) a c k h =
    let below = turned_below_all w a (w - suc n % w) (omega arith) h in
    rw (ror_word w n a c k h, turned_back w a n k h) (right_once-left_once w (turned w a (w - suc n % w)) k below)

-- ROR: the bit that went out came in at the top
pub ror_bits : (w n a : ℕ) (c : Bool) → 0 < w → a < 2 ^ w → 0 < n →
    bits_moved (ror_bit w) n (a, c) ≡ (turned w a (w - n % w), top_bit w (turned w a (w - n % w)))
unfolding bits_moved
ror_bits w zero a c k h pos = absurd (omega arith)
ror_bits w (suc n) a c k h pos =
    let t = turned w a (w - suc n % w) in
    let below = turned_below_all w a (w - suc n % w) (omega arith) h in
    rw (ror_word w n a c k h, turned_back w a n k h, right_once-left_once w t k below, low_bit-left_once w t k below) refl

-- a number of one bit more than a width
one_more : (w : ℕ) → 2 ^ (w + 1) ≡ 2 * 2 ^ w
one_more w = rw add-one (omega (arith, pow-suc 2 w))

-- word and carry flag are one number of w + 1 bits
pub carry_above-below : (w a : ℕ) (c : Bool) → a < 2 ^ w → carry_above w a c < 2 ^ (w + 1)
carry_above-below w a true h = rw one_more (omega arith)
carry_above-below w a false h = rw one_more (omega arith)

-- twice a number less than an even m, and 1: only the low bit is another
doubled-mod : (h m y : ℕ) → m ≡ 2 * h → y < m → 2 * y % m + 1 ≡ (2 * y + 1) % m
doubled-mod h m y k small = elim (cases_lt y h) [
  | inl low ↦
      let e = mod-eq_of_lt {n = 2 * y} {m = m} (omega arith) in
      let f = mod-eq_of_lt {n = 2 * y + 1} {m = m} (omega arith) in
      rw (e, f) refl
  | inr high ↦
      let e = mod_past m (2 * y) (omega arith) (omega arith) in
      let f = mod_past m (2 * y + 1) (omega arith) (omega arith) in
      rw (e, f) (omega arith)
]

-- and the quotient is the same
doubled-div : (h m y : ℕ) → m ≡ 2 * h → y < m → y * 2 / m ≡ (2 * y + 1) / m
doubled-div h m y k small = elim (cases_lt y h) [
  | inl low ↦
      let e = div-eq_of_lt {n = y * 2} {m = m} (omega arith) in
      let f = div-eq_of_lt {n = 2 * y + 1} {m = m} (omega arith) in
      rw (e, f) refl
  | inr high ↦
      let e = div_past m (y * 2) (omega arith) (omega arith) in
      let f = div_past m (2 * y + 1) (omega arith) (omega arith) in
      rw (e, f) refl
]

-- RCL by one bit where the carry flag is clear
rcl_bit-low : (w v : ℕ) → IsWidth w → v < 2 ^ w → rcl_bit w (from_above w v) ≡ from_above w (left_once (w + 1) v)
rcl_bit-low w v k h =
    let e : w + 1 - 1 ≡ w = omega arith in
    let below : v < 2 ^ (w + 1 - 1) = rw e h in
    let carry : top_bit w v ≡ low_bit (2 * v / 2 ^ w) = rw (mod-eq_of_lt h, mul_comm v 2) at (top_bit-above w v k) in
    rw (left_once-low (w + 1) v (omega arith) below, mod-eq_of_lt h, div-eq_of_lt h, add-zero, carry) refl

-- RCL by one bit where it is set
rcl_bit-high : (w v : ℕ) → IsWidth w → 2 ^ w ≤ v → v < 2 ^ (w + 1) → rcl_bit w (from_above w v) ≡ from_above w (left_once (w + 1) v)
rcl_bit-high w v k high h =
    let m = half_modulus w k in
    let mm = one_more w in
    let e : w + 1 - 1 ≡ w = omega arith in
    let top : 2 ^ (w + 1 - 1) ≤ v = rw e high in
    let y = v - 2 ^ w in
    let small : y < 2 ^ w = omega arith in
    let once : left_once (w + 1) v ≡ 2 * y + 1 = left_once-high (w + 1) v (omega arith) top h ∙ omega arith in
    let word : 2 * y % 2 ^ w + 1 ≡ (2 * y + 1) % 2 ^ w = doubled-mod (2 ^ (w - 1)) (2 ^ w) y m small in
    let moved : y * 2 / 2 ^ w ≡ (2 * y + 1) / 2 ^ w = doubled-div (2 ^ (w - 1)) (2 ^ w) y m small in
    let carry : top_bit w y ≡ low_bit ((2 * y + 1) / 2 ^ w) = rw (mod-eq_of_lt small, moved) at (top_bit-above w y k) in
    rw (once, mod_past (2 ^ w) v high (omega arith), div_past (2 ^ w) v high (omega arith)) (pair-eq word carry)

-- RCL by one bit turns word and carry flag by one to the left
rcl_bit-above : (w v : ℕ) → IsWidth w → v < 2 ^ (w + 1) → rcl_bit w (from_above w v) ≡ from_above w (left_once (w + 1) v)
rcl_bit-above w v k h = elim (cases_lt v (2 ^ w)) [
  | inl low ↦ rcl_bit-low w v k low
  | inr high ↦ rcl_bit-high w v k high h
]

-- RCR by one bit: the word is half of the number, but for the bit that comes in at the top
rcr_word : (w v : ℕ) → IsWidth w → v < 2 ^ (w + 1) →
    (v % 2 ^ w / 2 + (if low_bit (v / 2 ^ w) then 2 ^ (w - 1) else 0) ≡ v / 2) × (v % 2 ^ w % 2 ≡ v % 2)
rcr_word w v k h =
    let m = half_modulus w k in
    let mm = one_more w in
    elim (cases_lt v (2 ^ w)) [
      | inl low ↦ rw (mod-eq_of_lt low, div-eq_of_lt low) (add-zero (v / 2), refl)
      | inr high ↦
          let rest = mod_past (2 ^ w) v high (omega arith) in
          rw (rest, div_past (2 ^ w) v high (omega arith)) (omega arith, omega arith)
    ]

-- RCR by one bit turns word and carry flag by one to the right
rcr_bit-above : (w v : ℕ) → IsWidth w → v < 2 ^ (w + 1) → rcr_bit w (from_above w v) ≡ from_above w (right_once (w + 1) v)
rcr_bit-above w v k h =
    let mm = one_more w in
    let word = rcr_word w v k h in
    let half : v / 2 < 2 ^ w = omega arith in
    let e : w + 1 - 1 ≡ w = omega arith in
    elim (cases_lt (v % 2) 1) [
      | inl even ↦
          let bit : v % 2 ≡ 0 = omega arith in
          rw (word.1, bit, add-zero (v / 2), mod-eq_of_lt half, div-eq_of_lt half) (pair-eq word.0 refl)
      | inr odd ↦
          let bit : v % 2 ≡ 1 = omega arith in
          let low : (v / 2 + 2 ^ w) % 2 ^ w ≡ v / 2 =
          mod_past (2 ^ w) (v / 2 + 2 ^ w) (omega arith) (omega arith) ∙ omega arith in
          let high = div_past (2 ^ w) (v / 2 + 2 ^ w) (omega arith) (omega arith) in
          rw (word.1, bit, e, low, high) (pair-eq word.0 refl)
    ]

-- RCL: word and carry flag are turned to the left
pub rcl_bits : (w n a : ℕ) (c : Bool) → IsWidth w → a < 2 ^ w →
    bits_moved (rcl_bit w) n (a, c) ≡ from_above w (turned (w + 1) (carry_above w a c) (n % (w + 1)))
unfolding bits_moved
rcl_bits w zero a c k h =
    rw (zero-mod, turned-zero (w + 1) (carry_above w a c) (carry_above-below w a c h)) (sym (from_above-carry_above w a c h))
rcl_bits w (suc n) a c k h =
    let small = carry_above-below w a c h in
    let v = carry_above w a c in
    let count = mod_below n (w + 1) (omega arith) in
    let below = turned_below_all (w + 1) v (n % (w + 1)) (omega (arith, count)) small in
    let once = rcl_bit-above w (turned (w + 1) v (n % (w + 1))) k below in
    rw (rcl_bits w n a c k h, once, left_once-turned_mod (w + 1) v n (omega arith) small) refl

-- RCR: word and carry flag are turned to the right
pub rcr_bits : (w n a : ℕ) (c : Bool) → IsWidth w → a < 2 ^ w →
    bits_moved (rcr_bit w) n (a, c) ≡ from_above w (turned (w + 1) (carry_above w a c) (w + 1 - n % (w + 1)))
unfolding bits_moved
rcr_bits w zero a c k h =
    let whole : w + 1 - 0 ≡ w + 1 = omega arith in
    rw (zero-mod, whole, turned-all (w + 1) (carry_above w a c)) (sym (from_above-carry_above w a c h))
rcr_bits w (suc n) a c k h =
    let small = carry_above-below w a c h in
    let v = carry_above w a c in
    let t = turned (w + 1) v (w + 1 - suc n % (w + 1)) in
    let before = turned_below_all (w + 1) v (w + 1 - n % (w + 1)) (omega arith) small in
    let below = turned_below_all (w + 1) v (w + 1 - suc n % (w + 1)) (omega arith) small in
    let once = rcr_bit-above w (turned (w + 1) v (w + 1 - n % (w + 1))) k before in
    let back = turned_back (w + 1) v n (omega arith) small in
    rw (rcr_bits w n a c k h, once, back, right_once-left_once (w + 1) t (omega arith) below) refl
