-- The answers of decode, and the laws of the grammar; code bytes that agree in the bytes of an instruction.
use Rattle.std.proofs.Common.{◌≡◌, ℕ, zero, suc, ◌-◌, ◌<◌, ◌≤◌, Bool, List, [], ◌∷◌, ◌++◌, length, take, get_or, Ok, Err, refl, sym, ap}
use Rattle.std.proofs.Common.{subst, ◌∙◌, append_assoc, arith, length-append, ◌⊎◌, inl, inr, ◌*◌, ◌/◌, ◌%◌, ◌^◌, drop, lit<}
use Rattle.std.proofs.{lemmas.List.{append-nil, take_at, take-append-drop, length-take-le}, Math.Arith.{mod-mul}, Math.Nat.{mul-div_cancel}}
use Rattle.std.proofs.{Math.Nat.{mul-mod_left}, lemmas.Nat.{div-mul-add, mod-mul-add, mod_below}}
use Rattle.insn_forms.specs.{declared.insn.Insn.{Insn}, Grammar.{AllBytes, Encoding, HasEncoding, BeginsEncoding}}
use Rattle.insn_decode.specs.{declared.decoding.Decoded.TheVariants.{Whole, More, Invalid}, Reading.{Read, head_at, insn_at}}
use Rattle.insn_decode.specs.Decode.{answer_of, decoded}
use Rattle.insn_decode.proofs.{LawfulReaders.{ok_is, ok_not_err, bytes_append}, InsnReaders.{insn_reads}, Encodings.{to_readers}}
use Rattle.insn_decode.proofs.Encodings.{from_readers}
use Rattle.client_world.specs.{declared.code.CodeWords.{CodeWords}, CodeWords.{code_bytes}}
use Rattle.insn_decode.specs.declared.stop.Stop.TheVariants as stops

-- a list of bytes, by its places
pub bytes_by_place : (xs : List ℕ) → ((i : ℕ) → get_or xs i 0 < 256) → AllBytes xs
bytes_by_place [] h = tt
bytes_by_place (x ∷ xs) h = (h 0, bytes_by_place xs (λ i. h (suc i)))

bytes_front : (xs ys : List ℕ) → AllBytes (xs ++ ys) → AllBytes xs
bytes_front [] ys a = tt
bytes_front (x ∷ xs) ys a = (a.0, bytes_front xs ys a.1)

read_cases : (r : Read Insn) → ((x : Insn × List ℕ) × (r ≡ Ok x)) ⊎ ((r ≡ Err stops.More) ⊎ (r ≡ Err stops.Invalid))
read_cases (Ok x) = inl (x, refl)
read_cases (Err stops.More) = inr (inl refl)
read_cases (Err stops.Invalid) = inr (inr refl)

-- ---- the readers, by the grammar

-- what is read is what the bytes encode
read_is : (big : Bool) (bytes : List ℕ) (insn : Insn) (rest : List ℕ) → AllBytes bytes → insn_at big bytes ≡ Ok (insn, rest)
    → (front : List ℕ) × Encoding big insn front × (bytes ≡ front ++ rest)
read_is big bytes insn rest are e =
    let f = (insn_reads big).found bytes insn rest e in
    (f.0, from_readers big insn f.0 (bytes_front f.0 rest (subst AllBytes f.2 are)) f.1, f.2)

-- what the bytes encode is read
is_read : (big : Bool) (insn : Insn) (front rest : List ℕ) → Encoding big insn front → insn_at big (front ++ rest) ≡ Ok (insn, rest)
is_read big insn front rest s = (insn_reads big).again insn front rest (to_readers big insn front s)

all_read : (big : Bool) (insn : Insn) (bytes : List ℕ) → Encoding big insn bytes → insn_at big bytes ≡ Ok (insn, [])
all_read big insn bytes s = ap (insn_at big) (sym (append-nil bytes)) ∙ is_read big insn bytes [] s

-- ---- the laws of the grammar

pub one_insn : (big : Bool) (a b : Insn) (bytes : List ℕ) → Encoding big a bytes → Encoding big b bytes → a ≡ b
one_insn big a b bytes s t = ap (λ (p : Insn × List ℕ). p.0) (ok_is (a, []) (b, []) (sym (all_read big a bytes s) ∙ all_read big b bytes t))

pub no_longer : (big : Bool) (a b : Insn) (bytes tail : List ℕ) → Encoding big a bytes → Encoding big b (bytes ++ tail) → tail ≡ []
no_longer big a b bytes tail s t =
    ap (λ (p : Insn × List ℕ). p.1)
    (ok_is (a, tail) (b, []) (sym (is_read big a bytes tail s) ∙ all_read big b (bytes ++ tail) t))

-- the bytes of an instruction are one at least
pub has_a_byte : (big : Bool) (insn : Insn) (len : ℕ) (bytes : List ℕ) → Encoding big insn (take len bytes) → 0 < len
unfolding insn_at head_at
has_a_byte big insn zero bytes s = absurd (ok_not_err (insn, []) stops.More (sym (all_read big insn [] s)))
has_a_byte big insn (suc n) bytes s = omega arith

-- ---- the answers

not_nothing : (xs : List ℕ) (n : ℕ) (tail : List ℕ) → xs ++ n ∷ tail ≡ [] → ⊥
not_nothing [] n tail e = cc
not_nothing (x ∷ xs) n tail e = cc

pub decoded_only : (big : Bool) (insn : Insn) (front rest bytes : List ℕ) → bytes ≡ front ++ rest → Encoding big insn front
    → decoded big bytes ≡ Whole insn (length front)
unfolding decoded
decoded_only big insn front rest bytes e s =
    let r : insn_at big bytes ≡ Ok (insn, rest) = ap (insn_at big) e ∙ is_read big insn front rest s in
    let n : length bytes - length rest ≡ length front = rw e (omega (arith, length-append front rest)) in
    rw (r, n) refl

pub more_decoded : (big : Bool) (bytes : List ℕ) → AllBytes bytes → BeginsEncoding big bytes → decoded big bytes ≡ More
unfolding decoded
more_decoded big bytes are s =
    let whole = all_read big s.0 (bytes ++ s.1 ∷ s.2) s.3 in
    elim (read_cases (insn_at big bytes)) [
      | inl a ↦
          let f = read_is big bytes a.0.0 a.0.1 are a.1 in
          let nil = no_longer big a.0.0 s.0 f.0 (a.0.1 ++ s.1 ∷ s.2) f.1
          (subst (Encoding big s.0)
          (ap (λ (l : List ℕ). l ++ s.1 ∷ s.2) f.2 ∙ append_assoc f.0 a.0.1 (s.1 ∷ s.2)) s.3) in
          absurd (not_nothing a.0.1 s.1 s.2 nil)
      | inr (inl m) ↦ rw m refl
      | inr (inr i) ↦ absurd (ok_not_err (s.0, []) stops.Invalid (sym whole ∙ (insn_reads big).invalid bytes (s.1 ∷ s.2) i))
    ]

cut : (bytes front rest : List ℕ) → bytes ≡ front ++ rest → (take (length front) bytes ≡ front) × (length front ≤ length bytes)
cut bytes front rest e = (rw e (take_at front rest (length front) refl), rw e (omega (arith, length-append front rest)))

pub decoded_whole : (big : Bool) (insn : Insn) (len : ℕ) (bytes : List ℕ) → AllBytes bytes
    → decoded big bytes ≡ Whole insn len → Encoding big insn (take len bytes) × (len ≤ length bytes)
unfolding decoded
decoded_whole big insn len bytes are e =
    elim (read_cases (insn_at big bytes)) [
      | inl a ↦
          let f = read_is big bytes a.0.0 a.0.1 are a.1 in
          let d = decoded_only big a.0.0 f.0 a.0.1 bytes f.2 f.1 in
          let same : Whole a.0.0 (length f.0) ≡ Whole insn len = sym d ∙ e in
          let i : a.0.0 ≡ insn = cc in
          let n : length f.0 ≡ len = cc in
          let t = cut bytes f.0 a.0.1 f.2 in
          subst (λ (q : Insn × ℕ). Encoding big q.0 (take q.1 bytes) × (q.1 ≤ length bytes)) (λ j. (i j, n j))
          (subst (Encoding big a.0.0) (sym t.0) f.1, t.1)
      | inr (inl m) ↦ let no : More ≡ Whole insn len = sym (ap (answer_of bytes) m) ∙ e in absurd cc
      | inr (inr i) ↦ let no : Invalid ≡ Whole insn len = sym (ap (answer_of bytes) i) ∙ e in absurd cc
    ]

pub decoded_more : (big : Bool) (bytes : List ℕ) → AllBytes bytes → decoded big bytes ≡ More → BeginsEncoding big bytes
unfolding decoded
decoded_more big bytes are e =
    elim (read_cases (insn_at big bytes)) [
      | inl a ↦ let no : Whole a.0.0 (length bytes - length a.0.1) ≡ More = sym (ap (answer_of bytes) a.1) ∙ e in absurd cc
      | inr (inl m) ↦
          let s = (insn_reads big).more bytes m in
          let encoded = from_readers big s.0 (bytes ++ s.1) (bytes_append bytes s.1 are s.3) s.2 in
          begun big bytes s.0 s.1 encoded m
      | inr (inr i) ↦ let no : Invalid ≡ More = sym (ap (answer_of bytes) i) ∙ e in absurd cc
    ]
  where
    begun : (big : Bool) (bytes : List ℕ) (insn : Insn) (tail : List ℕ) → Encoding big insn (bytes ++ tail)
        → insn_at big bytes ≡ Err stops.More → BeginsEncoding big bytes
    begun big bytes insn [] s m =
        absurd (ok_not_err (insn, []) stops.More
        (sym (is_read big insn bytes [] (subst (Encoding big insn) (append-nil bytes) s))
        ∙ ap (insn_at big) (append-nil bytes) ∙ m))
    begun big bytes insn (n ∷ tail) s m = (insn, n, tail, s)

pub decoded_invalid : (big : Bool) (bytes : List ℕ) → AllBytes bytes → decoded big bytes ≡ Invalid
    → (HasEncoding big bytes → ⊥) × (BeginsEncoding big bytes → ⊥)
decoded_invalid big bytes are e = (
  (λ h. let no : Whole h.0 (length h.1) ≡ Invalid = sym (decoded_only big h.0 h.1 h.2 bytes h.3 h.4) ∙ e in absurd cc),
  (λ h. let no : More ≡ Invalid = sym (more_decoded big bytes are h) ∙ e in absurd cc),
)

pub invalid_decoded : (big : Bool) (bytes : List ℕ) → AllBytes bytes
    → (HasEncoding big bytes → ⊥) × (BeginsEncoding big bytes → ⊥) → decoded big bytes ≡ Invalid
unfolding decoded
invalid_decoded big bytes are nor =
    elim (read_cases (insn_at big bytes)) [
      | inl a ↦ let f = read_is big bytes a.0.0 a.0.1 are a.1 in absurd (nor.0 (a.0.0, f.0, a.0.1, f.2, f.1))
      | inr (inl m) ↦ absurd (nor.1 (decoded_more big bytes are (ap (answer_of bytes) m)))
      | inr (inr i) ↦ rw i refl
    ]

-- the rest of what was read is no longer than the whole
pub shorter : (big : Bool) (bytes : List ℕ) (insn : Insn) (rest : List ℕ) → insn_at big bytes ≡ Ok (insn, rest) → length rest ≤ length bytes
shorter big bytes insn rest e = let f = (insn_reads big).found bytes insn rest e in omega (arith, length-append f.0 rest, ap length f.2)

-- ---- code bytes that agree in the bytes of an instruction

-- ---- numbers that are the same after a shift

shifted : (n k p : ℕ) → 0 < k → 0 < p → n * p % (k * p) ≡ n % k * p
shifted n k p some more = grind (arith, mod-mul, mul-div_cancel, mul-mod_left)

low_same : (a b k p : ℕ) → 0 < k → 0 < p → a * p % (k * p) ≡ b * p % (k * p) → a % k ≡ b % k
low_same a b k p some more e =
    sym (mul-div_cancel (a % k) more)
    ∙ ap (λ (x : ℕ). x / p) (sym (shifted a k p some more) ∙ e ∙ shifted b k p some more)
    ∙ mul-div_cancel (b % k) more

-- a byte is one of the low bytes
digit : (n m c : ℕ) → 0 < m → 0 < c → n % (m * 256 * c) / c % 256 ≡ n / c % 256
digit n m c some more = grind (arith, div-mul-add, lit<, mod-mul, mod-mul-add, mod_below)

lowest : (n m : ℕ) → 0 < m → n % (m * 256) % 256 ≡ n % 256
lowest n m some = ap (λ (x : ℕ). x % 256) (mod-mul n some (lit< tt)) ∙ mod-mul-add (n / 256 % m) 256 (n % 256) (mod_below n 256 (lit< tt))

lowest_same : (a b m : ℕ) → 0 < m → a % (m * 256) ≡ b % (m * 256) → a % 256 ≡ b % 256
lowest_same a b m some e = sym (lowest a m some) ∙ ap (λ (x : ℕ). x % 256) e ∙ lowest b m some

digit_same : (a b m c : ℕ) → 0 < m → 0 < c → a % (m * 256 * c) ≡ b % (m * 256 * c) → a / c % 256 ≡ b / c % 256
digit_same a b m c some more e = sym (digit a m c some more) ∙ ap (λ (x : ℕ). x / c % 256) e ∙ digit b m c some more

-- ---- code bytes whose first word is the same after a shift agree in those that are left of it

pub same_start : (a b : CodeWords) (len : ℕ) → 0 < len → len ≤ 8 →
    a.low * 2 ^ (8 * (8 - len)) % 2 ^ 64 ≡ b.low * 2 ^ (8 * (8 - len)) % 2 ^ 64 → take len (code_bytes a) ≡ take len (code_bytes b)
unfolding code_bytes
same_start a b zero some few e = absurd (omega (arith, some))
same_start a b (suc zero) some few e = grind (arith, lit<, low_same, lowest_same)
same_start a b (suc (suc zero)) some few e = grind (arith, digit_same, lit<, low_same, lowest_same)
same_start a b (suc (suc (suc zero))) some few e = grind (arith, digit_same, lit<, low_same, lowest_same)
same_start a b (suc (suc (suc (suc zero)))) some few e = grind (arith, digit_same, lit<, low_same, lowest_same)
same_start a b (suc (suc (suc (suc (suc zero))))) some few e = grind (arith, digit_same, lit<, low_same, lowest_same)
same_start a b (suc (suc (suc (suc (suc (suc zero)))))) some few e = grind (arith, digit_same, lit<, low_same, lowest_same)
same_start a b (suc (suc (suc (suc (suc (suc (suc zero))))))) some few e = grind (arith, digit_same, lit<, low_same, lowest_same)
same_start a b (suc (suc (suc (suc (suc (suc (suc (suc zero)))))))) some few e = grind (arith, digit_same, lit<, low_same, lowest_same)
same_start a b (suc (suc (suc (suc (suc (suc (suc (suc (suc len))))))))) some few e = absurd (omega (arith, few))

below : (n : ℕ) → n % 0x100 < 0x100
below n = mod_below n 0x100 (lit< tt)

-- each of them is a byte
pub are_code_bytes : (words : CodeWords) → AllBytes (code_bytes words)
unfolding code_bytes
are_code_bytes words = grind (arith, below)

-- bytes that agree in the first ones of others begin with the instruction that those begin with
pub decoded_start : (big : Bool) (insn : Insn) (len : ℕ) (bytes other : List ℕ) → AllBytes bytes →
    take len bytes ≡ take len other → decoded big bytes ≡ Whole insn len → decoded big other ≡ Whole insn len
decoded_start big insn len bytes other are same e =
    let encoded = decoded_whole big insn len bytes are e in
    let short : length (take len bytes) ≡ len = length-take-le len bytes encoded.1 in
    decoded_only big insn (take len bytes) (drop len other) other
    (sym (take-append-drop len other) ∙ ap (λ (xs : List ℕ). xs ++ drop len other) (sym same)) encoded.0
    ∙ ap (Whole insn) short
