-- Rotates by n bits: a number turned in one step is what n single bits make of it.
use Rattle.std.proofs.{Common.{◌≡◌, refl, sym, ap, ◌∙◌, arith, inl, inr}, lemmas.Bool.{le-leb, lt-leb, cases_lt}, lemmas.Nat.{pow_pos}}
use Rattle.std.proofs.{lemmas.Nat.{pow-add, mod-mul-add, div-mul-add, mul-add-lt, div_below, mod_below}, Math.Nat.{pow-suc, add-zero}}
use Rattle.std.proofs.Math.Nat.{div-one, mod-one, mod-eq_of_lt, div-eq_of_lt, div-add-mod, suc-mod, mod_self}
use Rattle.std.specs.Prelude.{ℕ, suc, ◌+◌, ◌-◌, ◌*◌, ◌/◌, ◌%◌, ◌^◌, ◌<◌, ◌≤◌, ◌⊎◌, if◌then◌else◌}
use Rattle.cpu_values.specs.Word.{cut}
use Rattle.cpu_alu.specs.{Results.{bit_of, low_bit, top_bit}, Packed.{turned}}

-- a number of k bits turned by one bit to the left
abbrev pub left_once : ℕ → ℕ → ℕ
left_once k v = cut k (2 * v) + bit_of (top_bit k v)

-- a number of k bits turned by one bit to the right
abbrev pub right_once : ℕ → ℕ → ℕ
right_once k v = v / 2 + (if low_bit v then 2 ^ (k - 1) else 0)

-- the remainder of a number less than twice the divisor
pub mod_past : (m x : ℕ) → m ≤ x → x < 2 * m → x % m ≡ x - m
mod_past m x h small = let e : 1 * m + (x - m) ≡ x = omega arith in rw e at (mod-mul-add 1 m (x - m) (omega arith))

-- and its quotient
pub div_past : (m x : ℕ) → m ≤ x → x < 2 * m → x / m ≡ 1
div_past m x h small = let e : 1 * m + (x - m) ≡ x = omega arith in rw e at (div-mul-add 1 m (x - m) (omega arith))

-- twice the half of a power
pub power_half : (k : ℕ) → 0 < k → 2 ^ k ≡ 2 * 2 ^ (k - 1)
power_half k h =
    let e : k ≡ suc (k - 1) = omega arith in
    let p : 2 ^ suc (k - 1) ≡ 2 * 2 ^ (k - 1) = omega (arith, pow-suc 2 (k - 1)) in
    ap (λ (j : ℕ). 2 ^ j) e ∙ p

-- one bit to the left where the top bit is clear
pub left_once-low : (k v : ℕ) → 0 < k → v < 2 ^ (k - 1) → left_once k v ≡ 2 * v
left_once-low k v h low =
    let below : 2 * v < 2 ^ k = omega (arith, power_half k h) in
    rw (lt-leb (2 ^ (k - 1)) v low, mod-eq_of_lt below, add-zero) refl

-- one bit to the left where it is set
pub left_once-high : (k v : ℕ) → 0 < k → 2 ^ (k - 1) ≤ v → v < 2 ^ k → left_once k v ≡ 2 * v + 1 - 2 ^ k
left_once-high k v h high small =
    let half = power_half k h in
    let cut_off : 2 * v % 2 ^ k ≡ 2 * v - 2 ^ k = mod_past (2 ^ k) (2 * v) (omega arith) (omega arith) in
    rw (le-leb (2 ^ (k - 1)) v high, cut_off) (omega arith)

-- one bit to the right undoes one to the left
pub right_once-left_once : (k v : ℕ) → 0 < k → v < 2 ^ k → right_once k (left_once k v) ≡ v
right_once-left_once k v h small = elim (cases_lt v (2 ^ (k - 1))) [
  | inl low ↦
      let even : 2 * v % 2 ≡ 0 = omega arith in
      rw (left_once-low k v h low, even) (omega arith)
  | inr high ↦
      let half = power_half k h in
      let odd : (2 * v + 1 - 2 ^ k) % 2 ≡ 1 = omega arith in
      rw (left_once-high k v h high small, odd) (omega arith)
]

-- the low bit after one to the left is the top bit before it
pub low_bit-left_once : (k v : ℕ) → 0 < k → v < 2 ^ k → low_bit (left_once k v) ≡ top_bit k v
low_bit-left_once k v h small = elim (cases_lt v (2 ^ (k - 1))) [
  | inl low ↦
      let even : 2 * v % 2 ≡ 0 = omega arith in
      rw (left_once-low k v h low, even, lt-leb (2 ^ (k - 1)) v low) refl
  | inr high ↦
      let half = power_half k h in
      let odd : (2 * v + 1 - 2 ^ k) % 2 ≡ 1 = omega arith in
      rw (left_once-high k v h high small, odd, le-leb (2 ^ (k - 1)) v high) refl
]

-- a number s below 2 * h, and the number t that one bit to the left makes of it
record Turn (h s t : ℕ) : Type 0 where
  low : s < h → t ≡ 2 * s
  high : h ≤ s → t ≡ 2 * s + 1 - 2 * h
  below : s < 2 * h

-- the lower part r of q * 2 numbers goes up by p and the upper part z comes down; then by one bit more
turn_parts : (p q r z y l : ℕ) → z < p → r < q * 2 → (y ≡ 2 * z) × (l ≡ r) × (r < q) ⊎ (y ≡ 2 * z + 1) × (l + q ≡ r) →
    Turn (q * p) (r * p + z) (l * (p * 2) + y)
turn_parts p q r z y l up down (inl h) =
    let below : r * p + z < p * q = mul-add-lt r p z q h.2 up in
    let e : l ≡ r = h.1 in
    record { low = λ k. rw e (omega arith); high = λ k. absurd (omega arith); below = omega arith }
turn_parts p q r z y l up down (inr h) =
    let below : l * p + z < p * q = mul-add-lt l p z q (omega arith) up in
    let e : r ≡ l + q = sym h.1 in
    let whole : r * p ≡ l * p + q * p = rw e (omega arith) in
    record { low = λ k. absurd (omega arith); high = λ k. omega arith; below = omega arith }

-- the parts of a number at q and at q * 2
parts : (q x : ℕ) → 0 < q →
    (x / q ≡ 2 * (x / (q * 2))) × (x % q ≡ x % (q * 2)) × (x % (q * 2) < q) ⊎ (x / q ≡ 2 * (x / (q * 2)) + 1) × (x % q + q ≡ x % (q * 2))
parts q x pos =
    let z = x / (q * 2) in
    let r = x % (q * 2) in
    let e : q * 2 * z + r ≡ x = div-add-mod x (q * 2) in
    let small : r < q * 2 = mod_below x (q * 2) (omega arith) in
    elim (cases_lt r q) [
      | inl low ↦
          let f : 2 * z * q + r ≡ x = omega arith in
          inl (rw f at (div-mul-add (2 * z) q r low), rw f at (mod-mul-add (2 * z) q r low), low)
      | inr high ↦
          let f : (2 * z + 1) * q + (r - q) ≡ x = omega arith in
          let l : x % q ≡ r - q = rw f at (mod-mul-add (2 * z + 1) q (r - q) (omega arith)) in
          inr (rw f at (div-mul-add (2 * z + 1) q (r - q) (omega arith)), omega arith)
    ]

-- one bit more
turned_once : (k v n : ℕ) → n < k → v < 2 ^ k → Turn (2 ^ (k - 1)) (turned k v n) (turned k v (suc n))
unfolding turned
turned_once k v n h small =
    let q = 2 ^ (k - suc n) in
    let p = 2 ^ n in
    let split : k - 1 ≡ k - suc n + n = omega arith in
    let half : 2 ^ (k - 1) ≡ q * p = rw split (pow-add 2 (k - suc n) n) in
    let whole : 2 ^ k ≡ 2 * (q * p) = rw half at (power_half k (omega arith)) in
    let next : k - n ≡ suc (k - suc n) = omega arith in
    let lower : 2 ^ (k - n) ≡ q * 2 = rw next (pow-suc 2 (k - suc n)) in
    let pos : 0 < q = pow_pos (k - suc n) in
    let up : v / (q * 2) < p = div_below v (q * 2) p (omega arith) (omega arith) in
    let down = mod_below v (q * 2) (omega arith) in
    rw (half, lower, pow-suc 2 n) (turn_parts p q (v % (q * 2)) (v / (q * 2)) (v / q) (v % q) up down (parts q v pos))

-- a number turned by no bit
pub turned-zero : (k v : ℕ) → v < 2 ^ k → turned k v 0 ≡ v
unfolding turned
turned-zero k v small = let e : k - 0 ≡ k = omega arith in rw (e, mod-eq_of_lt small, div-eq_of_lt small) (omega arith)

-- a number turned by all its bits
pub turned-all : (k v : ℕ) → turned k v k ≡ v
unfolding turned
turned-all k v = let e : k - k ≡ 0 = omega arith in rw (e, mod-one, div-one) (omega arith)

-- a turned number has no more bits
turned_below : (k v n : ℕ) → n < k → v < 2 ^ k → turned k v n < 2 ^ k
turned_below k v n h small =
    let t = turned_once k v n h small in
    let half = power_half k (omega arith) in
    rw half t.below

-- so is one turned by all
pub turned_below_all : (k v n : ℕ) → n ≤ k → v < 2 ^ k → turned k v n < 2 ^ k
turned_below_all k v n h small = elim (cases_lt n k) [
  | inl low ↦ turned_below k v n low small
  | inr high ↦
      let e : n ≡ k = omega arith in
      rw (e, turned-all k v) small
]

-- one bit to the left turns on
left_once-turned : (k v n : ℕ) → n < k → v < 2 ^ k → left_once k (turned k v n) ≡ turned k v (suc n)
left_once-turned k v n h small =
    let t = turned_once k v n h small in
    let half = power_half k (omega arith) in
    let below : turned k v n < 2 ^ k = turned_below k v n h small in
    elim (cases_lt (turned k v n) (2 ^ (k - 1))) [
      | inl low ↦ left_once-low k (turned k v n) (omega arith) low ∙ sym (t.low low)
      | inr high ↦
          let e : turned k v (suc n) ≡ 2 * turned k v n + 1 - 2 * 2 ^ (k - 1) = t.high high in
          left_once-high k (turned k v n) (omega arith) high below ∙ omega arith
    ]

-- one bit to the left, the count modulo k
pub left_once-turned_mod : (k v n : ℕ) → 0 < k → v < 2 ^ k → left_once k (turned k v (n % k)) ≡ turned k v (suc n % k)
left_once-turned_mod k v n pos small =
    let h : n % k < k = mod_below n k pos in
    elim (cases_lt (suc (n % k)) k) [
      | inl low ↦ rw (suc-mod n k, mod-eq_of_lt low) (left_once-turned k v (n % k) h small)
      | inr high ↦
          let e : suc (n % k) ≡ k = omega arith in
          rw (left_once-turned k v (n % k) h small, suc-mod n k, e, mod_self k, turned-zero k v small) (turned-all k v)
    ]

-- one bit to the right, the count modulo k: what k - n % k bits to the left have made is one bit to the left of the next
pub turned_back : (k v n : ℕ) → 0 < k → v < 2 ^ k → turned k v (k - n % k) ≡ left_once k (turned k v (k - suc n % k))
turned_back k v n pos small =
    let h : n % k < k = mod_below n k pos in
    let i = k - suc (n % k) in
    let e : k - n % k ≡ suc i = omega arith in
    elim (cases_lt (suc (n % k)) k) [
      | inl low ↦ rw (suc-mod n k, mod-eq_of_lt low, e) (sym (left_once-turned k v i (omega arith) small))
      | inr high ↦
          let f : suc (n % k) ≡ k = omega arith in
          let g : k - n % k ≡ 1 = omega arith in
          let whole : k - 0 ≡ k = omega arith in
          let first : turned k v 1 ≡ left_once k v =
          sym (left_once-turned k v 0 pos small) ∙ ap (left_once k) (turned-zero k v small) in
          rw (suc-mod n k, f, mod_self k, whole, turned-all k v, g) first
    ]
