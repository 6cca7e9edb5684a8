-- A descriptor's eight bytes, read back, and written again.
use Rattle.std.proofs.Common.{arith, ◌≡◌, ◌<◌, ◌+◌, ◌*◌, ◌/◌, ◌%◌, ◌^◌, ℕ, zero, suc, Bool, true, false, ◌&&◌, ◌||◌, not, cond, nat_eq}
use Rattle.std.proofs.{Common.{List, [], ◌∷◌, length, slice_index, Some, if◌then◌else◌, refl, ap, ◌∙◌, sym}, lemmas.Bool.{and_parts}}
use Rattle.std.proofs.lemmas.Bool.{not-true, eqb-true}
use Rattle.client_world.specs.{declared.descriptors.Kind.{Kind}, declared.descriptors.Kind.TheVariants.{Data, Code}}
use Rattle.client_world.specs.{declared.descriptors.Desc.{Desc}, Registers.{has_bit}, Descriptor.{packed, flags_byte, kind_bits}}
use Rattle.client_world.specs.Descriptor.{FitsDescriptor, Packs}
use Rattle.client_world.proofs.FlagBits.{bit, bit-most, read, weight_of}
use Rattle.guest_ram.proofs.ByteLists.{dword_sum}
use Rattle.desc_table.specs.Unpacked.{described, unpacked, is_packed, is_access_byte, kind_of, with_accessed}

access-good : (p : Bool) (k : Kind) → is_access_byte (cond p 0x80 0 + 0x60 + 0x10 + kind_bits k + 1) ≡ true
access-good true Code = refl
access-good false Code = refl
access-good true (Data true true) = refl
access-good true (Data true false) = refl
access-good true (Data false true) = refl
access-good true (Data false false) = refl
access-good false (Data true true) = refl
access-good false (Data true false) = refl
access-good false (Data false true) = refl
access-good false (Data false false) = refl

access-kind : (p : Bool) (k : Kind) → kind_of (cond p 0x80 0 + 0x60 + 0x10 + kind_bits k + 1) ≡ k
access-kind true Code = refl
access-kind false Code = refl
access-kind true (Data true true) = refl
access-kind true (Data true false) = refl
access-kind true (Data false true) = refl
access-kind true (Data false false) = refl
access-kind false (Data true true) = refl
access-kind false (Data true false) = refl
access-kind false (Data false true) = refl
access-kind false (Data false false) = refl

access-present : (p : Bool) (k : Kind) → has_bit (cond p 0x80 0 + 0x60 + 0x10 + kind_bits k + 1) 0x80 ≡ p
access-present true Code = refl
access-present false Code = refl
access-present true (Data true true) = refl
access-present true (Data true false) = refl
access-present true (Data false true) = refl
access-present true (Data false false) = refl
access-present false (Data true true) = refl
access-present false (Data true false) = refl
access-present false (Data false true) = refl
access-present false (Data false false) = refl

-- the bits of a flags byte
record Flags (x : ℕ) (a s g : Bool) (n : ℕ) : Type 0 where
  low : n % 0x10 ≡ x
  available : n / 0x10 % 2 ≡ bit a
  clear : n / 0x20 % 2 ≡ 0
  size : n / 0x40 % 2 ≡ bit s
  granularity : n / 0x80 % 2 ≡ bit g

flags_of : (x : ℕ) (a s g : Bool) → x < 16 → Flags x a s g (x + cond a 0x10 0 + cond s 0x40 0 + cond g 0x80 0)
flags_of x a s g small =
    let ba = bit-most a in
    let bs = bit-most s in
    let bg = bit-most g in
    rw (weight_of a 16, weight_of s 64, weight_of g 128) (record {
      low = omega arith;
      available = omega arith;
      clear = omega arith;
      size = omega arith;
      granularity = omega arith;
    })

limit_back : (n m : ℕ) → m ≡ n / 0x10000 → n % 0x100 + 0x100 * (n / 0x100 % 0x100) + 0x10000 * m ≡ n
limit_back n m e = omega arith

described-packed : (d : Desc) → d.limit < 2 ^ 20 → described (packed d) 0 ≡ d
unfolding described packed
described-packed d small =
    let f = flags_of (d.limit / 0x10000) d.avl d.size d.gran (omega arith) in
    rw (
      dword_sum d.base,
      limit_back d.limit (flags_byte d % 0x10) f.low,
      read (flags_byte d / 0x10 % 2) d.avl f.available,
      read (flags_byte d / 0x40 % 2) d.size f.size,
      read (flags_byte d / 0x80 % 2) d.gran f.granularity,
      access-kind d.present d.kind,
      access-present d.present d.kind,
    )

is_packed-packed : (d : Desc) → d.limit < 2 ^ 20 → is_packed (packed d) 0 ≡ true
unfolding packed
is_packed-packed d small =
    let f = flags_of (d.limit / 0x10000) d.avl d.size d.gran (omega arith) in
    rw (access-good d.present d.kind, read (flags_byte d / 0x20 % 2) false f.clear)

unpacked-good : (b : List ℕ) (at : ℕ) → is_packed b at ≡ true → unpacked b at ≡ Some (described b at)
unfolding unpacked
unpacked-good b at good = rw good

-- what was packed is unpacked
pub unpacked-packed : (d : Desc) → d.limit < 2 ^ 20 → unpacked (packed d) 0 ≡ Some d
unpacked-packed d small = unpacked-good (packed d) 0 (is_packed-packed d small) ∙ ap (λ (e : Desc). Some e) (described-packed d small)

bit-test : (n : ℕ) → n < 2 → bit (nat_eq n 1) ≡ n
bit-test zero small = refl
bit-test (suc zero) small = refl
bit-test (suc (suc n)) small = absurd (omega arith)

-- a bit of a byte, by its value
bit-has : (x w : ℕ) → bit (has_bit x w) ≡ x / w % 2
bit-has x w = bit-test (x / w % 2) (omega arith)

weight-has : (x w : ℕ) → cond (has_bit x w) w 0 ≡ w * (x / w % 2)
weight-has x w = weight_of (has_bit x w) w ∙ ap (λ k. w * k) (bit-has x w)

kind-bits : (executable low high : Bool) → (not executable || (not high && low)) ≡ true →
    kind_bits (if executable then Code else Data low high) ≡ 2 * bit low + 4 * bit high + 8 * bit executable
kind-bits false false false good = refl
kind-bits false false true good = refl
kind-bits false true false good = refl
kind-bits false true true good = refl
kind-bits true false false good = cc
kind-bits true false true good = cc
kind-bits true true false good = refl
kind-bits true true true good = cc

-- an access byte with its Accessed bit set, from its fields
access-back : (x : ℕ) → x < 256 → is_access_byte x ≡ true →
    x / 2 * 2 + 1 ≡ cond (has_bit x 0x80) 0x80 0 + 0x60 + 0x10 + kind_bits (kind_of x) + 1
access-back x small good =
    let parts = and_parts (nat_eq (x / 0x10 % 8) 7) (not (has_bit x 8) || (not (has_bit x 4) && has_bit x 2)) good in
    let level : x / 0x10 % 8 ≡ 7 = eqb-true (x / 0x10 % 8) 7 parts.0 in
    let kinds = kind-bits (has_bit x 8) (has_bit x 2) (has_bit x 4) parts.1 in
    let low = bit-has x 2 in
    let high = bit-has x 4 in
    let executable = bit-has x 8 in
    let present = weight-has x 0x80 in
    omega arith

-- the byte after it, from its fields
flags-back : (x l : ℕ) → x < 256 → l ≡ x % 0x10 → has_bit x 0x20 ≡ false →
    x ≡ l + cond (has_bit x 0x10) 0x10 0 + cond (has_bit x 0x40) 0x40 0 + cond (has_bit x 0x80) 0x80 0
flags-back x l small low clear =
    let available = weight-has x 0x10 in
    let size = weight-has x 0x40 in
    let granularity = weight-has x 0x80 in
    let reserved : x / 0x20 % 2 ≡ 0 = sym (bit-has x 0x20) ∙ ap bit clear in
    omega arith

same_eight : (a b c d e f g h a' b' c' d' e' f' g' h' : ℕ) → a ≡ a' → b ≡ b' → c ≡ c' → d ≡ d' → e ≡ e' → f ≡ f' → g ≡ g' → h ≡ h' →
    a ∷ b ∷ c ∷ d ∷ e ∷ f ∷ g ∷ h ∷ [] ≡ a' ∷ b' ∷ c' ∷ d' ∷ e' ∷ f' ∷ g' ∷ h' ∷ []
same_eight a b c d e f g h a' b' c' d' e' f' g' h' ea eb ec ed ee ef eg eh = cc

packs_eight : (a b c d e f g h : ℕ) → a < 256 → b < 256 → c < 256 → d < 256 → e < 256 → f < 256 → g < 256 → is_access_byte f ≡ true →
    has_bit g 0x20 ≡ false → Packs (described (a ∷ b ∷ c ∷ d ∷ e ∷ f ∷ g ∷ h ∷ []) 0) (a ∷ b ∷ c ∷ d ∷ e ∷ (f / 2 * 2 + 1) ∷ g ∷ h ∷ [])
unfolding described packed
packs_eight a b c d e f g h sa sb sc sd se sf sg good clear =
    let limit = a + 0x100 * b + 0x10000 * (g % 0x10) in
    let base = c + 0x100 * d + 0x10000 * e + 0x1000000 * h in
    same_eight a b c d e (f / 2 * 2 + 1) g h (limit % 0x100) (limit / 0x100 % 0x100) (base % 0x100) (base / 0x100 % 0x100)
    (base / 0x10000 % 0x100) (cond (has_bit f 0x80) 0x80 0 + 0x60 + 0x10 + kind_bits (kind_of f) + 1)
    (limit / 0x10000 + cond (has_bit g 0x10) 0x10 0 + cond (has_bit g 0x40) 0x40 0 + cond (has_bit g 0x80) 0x80 0)
    (base / 0x1000000)
    (omega arith) (omega arith) (omega arith) (omega arith) (omega arith)
    (access-back f sf good) (flags-back g (limit / 0x10000) sg (omega arith) clear) (omega arith)

-- where eight bytes are a descriptor, it packs to them with the Accessed bit set
pub packs-described : (b : List ℕ) → length b ≡ 8 → ((i : ℕ) → i < 8 → slice_index b i < 256) → is_packed b 0 ≡ true →
    Packs (described b 0) (with_accessed b)
packs-described (a ∷ b ∷ c ∷ d ∷ e ∷ f ∷ g ∷ h ∷ []) long small good =
    let parts = and_parts (is_access_byte f) (not (has_bit g 0x20)) good in
    packs_eight a b c d e f g h (small 0 (omega arith)) (small 1 (omega arith)) (small 2 (omega arith)) (small 3 (omega arith))
    (small 4 (omega arith)) (small 5 (omega arith)) (small 6 (omega arith)) parts.0 (not-true (has_bit g 0x20) parts.1)
packs-described b long small good = absurd (omega arith)

-- what eight bytes hold fits a descriptor
pub fits-described : (b : List ℕ) → ((i : ℕ) → i < 8 → slice_index b i < 256) → FitsDescriptor (described b 0)
unfolding described
fits-described b small =
    let s0 : slice_index b 0 < 256 = small 0 (omega arith) in
    let s1 : slice_index b 1 < 256 = small 1 (omega arith) in
    let s2 : slice_index b 2 < 256 = small 2 (omega arith) in
    let s3 : slice_index b 3 < 256 = small 3 (omega arith) in
    let s4 : slice_index b 4 < 256 = small 4 (omega arith) in
    let s7 : slice_index b 7 < 256 = small 7 (omega arith) in
    record { base = omega arith; limit = omega arith }

-- so the bytes are those of one descriptor
pub packs_one : (d e : Desc) (b : List ℕ) → d.limit < 2 ^ 20 → e.limit < 2 ^ 20 → Packs d b → Packs e b → d ≡ e
packs_one d e b small small' is is' =
    let first = unpacked-packed d small in
    let second = unpacked-packed e small' in
    let same : unpacked (packed d) 0 ≡ unpacked (packed e) 0 = ap (λ (l : List ℕ). unpacked l 0) (sym is ∙ is') in
    let both : Some d ≡ Some e = sym first ∙ same ∙ second in
    cc
