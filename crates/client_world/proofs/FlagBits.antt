-- The flags image, read back, and that it is a word.
use Rattle.std.proofs.Common.{arith, ◌≡◌, ◌≤◌, ◌<◌, ◌+◌, ◌*◌, ◌/◌, ◌%◌, ℕ, Bool, true, false, cond, nat_eq, refl, ◌∙◌, ap}
use Rattle.client_world.specs.{declared.registers.Flags.{Flags}, Registers.{flags_image, flags_of_image, has_bit}}

-- a flag as a number
abbrev pub bit : Bool → ℕ
bit true = 1
bit false = 0

pub bit-most : (b : Bool) → bit b ≤ 1
bit-most true = omega arith
bit-most false = omega arith

pub bit-is : (b : Bool) → nat_eq (bit b) 1 ≡ b
bit-is true = refl
bit-is false = refl

pub weight_of : (b : Bool) (w : ℕ) → cond b w 0 ≡ w * bit b
weight_of true w = omega arith
weight_of false w = omega arith

pub weight_fits : (b : Bool) (w : ℕ) → cond b w 0 ≤ w
weight_fits true w = omega arith
weight_fits false w = omega arith

pub image_small : (f : Flags) (i : Bool) → flags_image f i < 0x10000
image_small f i = grind (arith, weight_fits)

-- the image as a sum of bits
abbrev sum_of : ℕ → ℕ → ℕ → ℕ → ℕ → ℕ → ℕ → ℕ → ℕ
sum_of c p a z s i d o = 2 + 1 * c + 4 * p + 16 * a + 64 * z + 128 * s + 512 * i + 1024 * d + 2048 * o

image-sum : (f : Flags) (i : Bool) →
    flags_image f i ≡ sum_of (bit f.cf) (bit f.pf) (bit f.af) (bit f.zf) (bit f.sf) (bit i) (bit f.df) (bit f.of)
image-sum f i =
    let c = weight_of f.cf 1 in
    let p = weight_of f.pf 4 in
    let a = weight_of f.af 16 in
    let z = weight_of f.zf 64 in
    let s = weight_of f.sf 128 in
    let n = weight_of i 512 in
    let d = weight_of f.df 1024 in
    let o = weight_of f.of 2048 in
    rw (c, p, a, z, s, n, d, o) refl

-- the bits of such a sum
record Bits (c p a z s i d o x : ℕ) : Type 0 where
  carry : x / 1 % 2 ≡ c
  parity : x / 4 % 2 ≡ p
  adjust : x / 16 % 2 ≡ a
  zero_bit : x / 64 % 2 ≡ z
  sign : x / 128 % 2 ≡ s
  interrupt : x / 512 % 2 ≡ i
  direction : x / 1024 % 2 ≡ d
  overflow : x / 2048 % 2 ≡ o

bits_of : (c p a z s i d o : ℕ) → c ≤ 1 → p ≤ 1 → a ≤ 1 → z ≤ 1 → s ≤ 1 → i ≤ 1 → d ≤ 1 → o ≤ 1 →
    Bits c p a z s i d o (sum_of c p a z s i d o)
bits_of c p a z s i d o c1 p1 a1 z1 s1 i1 d1 o1 = record {
  carry = omega arith;
  parity = omega arith;
  adjust = omega arith;
  zero_bit = omega arith;
  sign = omega arith;
  interrupt = omega arith;
  direction = omega arith;
  overflow = omega arith;
}

image_bits : (f : Flags) (i : Bool) →
    Bits (bit f.cf) (bit f.pf) (bit f.af) (bit f.zf) (bit f.sf) (bit i) (bit f.df) (bit f.of) (flags_image f i)
image_bits f i =
    rw (image-sum f i)
    (bits_of (bit f.cf) (bit f.pf) (bit f.af) (bit f.zf) (bit f.sf) (bit i) (bit f.df) (bit f.of)
    (bit-most f.cf) (bit-most f.pf) (bit-most f.af) (bit-most f.zf) (bit-most f.sf) (bit-most i) (bit-most f.df) (bit-most f.of))

pub read : (x : ℕ) (b : Bool) → x ≡ bit b → nat_eq x 1 ≡ b
read x b is = ap (λ k. nat_eq k 1) is ∙ bit-is b

same_flags : (f : Flags) (c p a z s d o : Bool) → c ≡ f.cf → p ≡ f.pf → a ≡ f.af → z ≡ f.zf → s ≡ f.sf → d ≡ f.df → o ≡ f.of →
    record { cf = c; pf = p; af = a; zf = z; sf = s; df = d; of = o } ≡ f
same_flags f c p a z s d o ec ep ea ez es ed eo = rw (ec, ep, ea, ez, es, ed, eo) refl

pub flags-back : (f : Flags) (i : Bool) → flags_of_image (flags_image f i) ≡ f
flags-back f i =
    let x = flags_image f i in
    let b = image_bits f i in
    same_flags f (has_bit x 1) (has_bit x 4) (has_bit x 16) (has_bit x 64) (has_bit x 128) (has_bit x 1024) (has_bit x 2048)
    (read (x / 1 % 2) f.cf b.carry) (read (x / 4 % 2) f.pf b.parity) (read (x / 16 % 2) f.af b.adjust)
    (read (x / 64 % 2) f.zf b.zero_bit) (read (x / 128 % 2) f.sf b.sign) (read (x / 1024 % 2) f.df b.direction)
    (read (x / 2048 % 2) f.of b.overflow)

pub interrupt-back : (f : Flags) (i : Bool) → has_bit (flags_image f i) 512 ≡ i
interrupt-back f i = read (flags_image f i / 512 % 2) i (image_bits f i).interrupt
