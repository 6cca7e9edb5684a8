-- Readers whose four answers are right, and how they are put together.
use Rattle.std.proofs.Common.{◌≡◌, ℕ, zero, suc, ◌+◌, ◌*◌, Bool, true, false, cond, List, [], ◌∷◌, ◌++◌, length, Result, Ok, Err, refl, sym}
use Rattle.std.proofs.Common.{ap, ◌∙◌, append_assoc, arith, ◌⊎◌, inl, inr}
use Rattle.insn_decode.specs.{declared.stop.Stop.{Stop}, declared.stop.Stop.TheVariants.{More, Invalid}, Reading.{◌>>=◌, Read, number_at}}
use Rattle.insn_forms.specs.Grammar.{AllBytes, little_endian}

-- What a reader gives is what the bytes encode; what they encode it gives; at More the bytes can be completed; and Invalid stays.
pub record Reads {A : Type 0} (S : A → List ℕ → Type 0) (r : List ℕ → Read A) : Type 0 where
  pub found : (bytes : List ℕ) (x : A) (rest : List ℕ) → r bytes ≡ Ok (x, rest)
      → (front : List ℕ) × S x front × (bytes ≡ front ++ rest)
  pub again : (x : A) (front rest : List ℕ) → S x front → r (front ++ rest) ≡ Ok (x, rest)
  pub more : (bytes : List ℕ) → r bytes ≡ Err More → (x : A) × (tail : List ℕ) × S x (bytes ++ tail) × AllBytes tail
  pub invalid : (bytes rest : List ℕ) → r bytes ≡ Err Invalid → r (bytes ++ rest) ≡ Err Invalid

-- ---- equations between answers

abbrev pub answer : {A : Type 0} → A → Result A Stop
answer x = Ok x

abbrev pub stopped : {A : Type 0} → Stop → Result A Stop
stopped e = Err e

pub ok_is : {A : Type 0} (x y : A) → answer x ≡ answer y → x ≡ y
ok_is x y e = cc

pub ok_not_err : {A : Type 0} (x : A) (e : Stop) → answer x ≡ stopped e → ⊥
ok_not_err x e h = cc

pub err_not_ok : {A : Type 0} (x : A) (e : Stop) → stopped e ≡ answer x → ⊥
err_not_ok x e h = cc

abbrev err_of : {A : Type 0} → Stop → Result A Stop → Stop
err_of d (Ok x) = d
err_of d (Err e) = e

pub more_not_invalid : {A : Type 0} → stopped {A = A} More ≡ stopped Invalid → ⊥
more_not_invalid {A} h = let k : More ≡ Invalid = ap (λ (r : Result A Stop). err_of More r) h in cc

pub chosen : {A : Type 0} (b : Bool) (x y z : A) → cond b x y ≡ z → ((b ≡ true) × (x ≡ z)) ⊎ ((b ≡ false) × (y ≡ z))
chosen true x y z e = inl (refl, e)
chosen false x y z e = inr (refl, e)

pub bind_ok : {A B : Type 0} (r : Result A Stop) (f : A → Result B Stop) (y : B) → (r >>= f) ≡ Ok y → (x : A) × (r ≡ Ok x) × (f x ≡ Ok y)
bind_ok (Ok x) f y e = (x, refl, e)
bind_ok (Err d) f y e = absurd (err_not_ok y d e)

pub bind_err : {A B : Type 0} (r : Result A Stop) (f : A → Result B Stop) (e : Stop) → (r >>= f) ≡ Err e
    → (r ≡ Err e) ⊎ ((x : A) × (r ≡ Ok x) × (f x ≡ Err e))
bind_err (Ok x) f e h = inr (x, refl, h)
bind_err {A} {B} (Err d) f e h = inl (ap (λ (r : Result B Stop). stopped {A = A} (err_of d r)) h)

pub bytes_append : (xs ys : List ℕ) → AllBytes xs → AllBytes ys → AllBytes (xs ++ ys)
bytes_append [] ys a b = b
bytes_append (x ∷ xs) ys a b = (a.0, bytes_append xs ys a.1 b)

-- ---- one reader after another

pub record Then {A B : Type 0} (S : A → List ℕ → Type 0) (T : A → B → List ℕ → Type 0) (y : B)
    (bytes : List ℕ) : Type 0 where
  pub middle : A
  pub one : List ℕ
  pub two : List ℕ
  pub first : S middle one
  pub second : T middle y two
  pub whole : bytes ≡ one ++ two

abbrev pub after : {A B : Type 0} → (List ℕ → Read A) → (A → List ℕ → Read B) → List ℕ → Read B
after r q bytes = r bytes >>= λ p. q p.0 p.1

module _ {A B : Type 0} (S : A → List ℕ → Type 0) (T : A → B → List ℕ → Type 0) (r : List ℕ → Read A)
    (q : A → List ℕ → Read B)
    (lawful : Reads S r) (each : (x : A) (f : List ℕ) → S x f → Reads (T x) (q x))
    (goes_on : (x : A) (f : List ℕ) → S x f → (y : B) × (g : List ℕ) × T x y g × AllBytes g) where
  then_found : (bytes : List ℕ) (y : B) (rest : List ℕ) → after r q bytes ≡ Ok (y, rest)
      → (front : List ℕ) × Then S T y front × (bytes ≡ front ++ rest)
  then_found bytes y rest e =
      let a = bind_ok (r bytes) (λ p. q p.0 p.1) (y, rest) e in
      let s = lawful.found bytes a.0.0 a.0.1 a.1 in
      let t = (each a.0.0 s.0 s.1).found a.0.1 y rest a.2 in (
        s.0 ++ t.0,
        record { middle = a.0.0; one = s.0; two = t.0; first = s.1; second = t.1; whole = refl },
        s.2 ∙ ap (λ (l : List ℕ). s.0 ++ l) t.2 ∙ sym (append_assoc s.0 t.0 rest),
      )

  then_again : (y : B) (front rest : List ℕ) → Then S T y front → after r q (front ++ rest) ≡ Ok (y, rest)
  then_again y front rest h =
      let regrouped : front ++ rest ≡ h.one ++ (h.two ++ rest) = ap (λ (l : List ℕ). l ++ rest) h.whole
      ∙ append_assoc h.one h.two rest in
      let one : r (front ++ rest) ≡ Ok (h.middle, h.two ++ rest) = ap r regrouped
      ∙ lawful.again h.middle h.one (h.two ++ rest) h.first in
      ap (λ (a : Read A). a >>= λ p. q p.0 p.1) one ∙ (each h.middle h.one h.first).again y h.two rest h.second

  then_more : (bytes : List ℕ) → after r q bytes ≡ Err More
      → (y : B) × (tail : List ℕ) × Then S T y (bytes ++ tail) × AllBytes tail
  then_more bytes e =
      elim (bind_err (r bytes) (λ p. q p.0 p.1) More e) [
        | inl stop ↦
            let s = lawful.more bytes stop in
            let g = goes_on s.0 (bytes ++ s.1) s.2 in (
              g.0,
              s.1 ++ g.1,
              record {
                middle = s.0;
                one = bytes ++ s.1;
                two = g.1;
                first = s.2;
                second = g.2;
                whole = sym (append_assoc bytes s.1 g.1);
              },
              bytes_append s.1 g.1 s.3 g.3,
            )
        | inr a ↦
            let s = lawful.found bytes a.0.0 a.0.1 a.1 in
            let t = (each a.0.0 s.0 s.1).more a.0.1 a.2 in (
              t.0,
              t.1,
              record {
                middle = a.0.0;
                one = s.0;
                two = a.0.1 ++ t.1;
                first = s.1;
                second = t.2;
                whole = ap (λ (l : List ℕ). l ++ t.1) s.2 ∙ append_assoc s.0 a.0.1 t.1;
              },
              t.3,
            )
      ]

  then_invalid : (bytes rest : List ℕ) → after r q bytes ≡ Err Invalid → after r q (bytes ++ rest) ≡ Err Invalid
  then_invalid bytes rest e =
      elim (bind_err (r bytes) (λ p. q p.0 p.1) Invalid e) [
        | inl stop ↦ ap (λ (a : Read A). a >>= λ p. q p.0 p.1) (lawful.invalid bytes rest stop)
        | inr a ↦
            let s = lawful.found bytes a.0.0 a.0.1 a.1 in
            let regrouped : bytes ++ rest ≡ s.0 ++ (a.0.1 ++ rest) = ap (λ (l : List ℕ). l ++ rest) s.2
            ∙ append_assoc s.0 a.0.1 rest in
            let one : r (bytes ++ rest) ≡ Ok (a.0.0, a.0.1 ++ rest) = ap r regrouped
            ∙ lawful.again a.0.0 s.0 (a.0.1 ++ rest) s.1 in
            ap (λ (b : Read A). b >>= λ p. q p.0 p.1) one ∙ (each a.0.0 s.0 s.1).invalid a.0.1 rest a.2
      ]

  pub then_reads : Reads (Then S T) (after r q)
  then_reads = record { found = then_found; again = then_again; more = then_more; invalid = then_invalid }

-- ---- nothing more is read

pub record Done {A : Type 0} (x y : A) (bytes : List ℕ) : Type 0 where
  pub same : y ≡ x
  pub none : bytes ≡ []

abbrev pub give : {A : Type 0} → A → List ℕ → Read A
give x bytes = Ok (x, bytes)

pub done_reads : {A : Type 0} (x : A) → Reads (Done x) (give x)
done_reads {A} x = grind (arith, ok_is, ok_not_err)

-- ---- a number of n bytes

pub record Number (n value : ℕ) (bytes : List ℕ) : Type 0 where
  pub size : length bytes ≡ n
  pub value_is : value ≡ little_endian bytes

pub number_found : (n : ℕ) (bytes : List ℕ) (x : ℕ) (rest : List ℕ) → number_at n bytes ≡ Ok (x, rest)
    → (front : List ℕ) × Number n x front × (bytes ≡ front ++ rest)
unfolding number_at
number_found zero bytes x rest e =
    let k : (0, bytes) ≡ (x, rest) = ok_is (0, bytes) (x, rest) e in
    ([], record { size = refl; value_is = sym (ap (λ (p : ℕ × List ℕ). p.0) k) }, ap (λ (p : ℕ × List ℕ). p.1) k)
number_found (suc n) [] x rest e = absurd (err_not_ok (x, rest) More e)
number_found (suc n) (b ∷ bs) x rest e =
    let a = bind_ok (number_at n bs) (λ p. Ok (b + 256 * p.0, p.1)) (x, rest) e in
    let s = number_found n bs a.0.0 a.0.1 a.1 in
    let k : (b + 256 * a.0.0, a.0.1) ≡ (x, rest) = ok_is (b + 256 * a.0.0, a.0.1) (x, rest) a.2 in (
      b ∷ s.0,
      grind arith,
      ap (λ (l : List ℕ). b ∷ l) s.2 ∙ ap (λ (p : ℕ × List ℕ). b ∷ (s.0 ++ p.1)) k,
    )

number_again : (n : ℕ) (front rest : List ℕ) → length front ≡ n → number_at n (front ++ rest) ≡ Ok (little_endian front, rest)
unfolding number_at
number_again zero [] rest e = refl
number_again zero (b ∷ bs) rest e = absurd (omega (arith, e))
number_again (suc n) [] rest e = absurd (omega (arith, e))
number_again (suc n) (b ∷ bs) rest e = ap (λ (r : Read ℕ). r >>= λ p. Ok (b + 256 * p.0, p.1)) (number_again n bs rest (omega (arith, e)))

zeros : (n : ℕ) → (front : List ℕ) × Number n (little_endian front) front × AllBytes front
zeros zero = ([], record { size = refl; value_is = refl }, tt)
zeros (suc n) = let z = zeros n in (0 ∷ z.0, record { size = ap suc z.1.size; value_is = refl }, (omega arith, z.2))

number_more : (n : ℕ) (bytes : List ℕ) → number_at n bytes ≡ Err More → (tail : List ℕ) × (length (bytes ++ tail) ≡ n) × AllBytes tail
unfolding number_at
number_more zero bytes e = absurd (ok_not_err (0, bytes) More e)
number_more (suc n) [] e = let z = zeros (suc n) in (z.0, z.1.size, z.2)
number_more (suc n) (b ∷ bs) e =
    elim (bind_err (number_at n bs) (λ p. Ok (b + 256 * p.0, p.1)) More e) [
      | inl stop ↦ let s = number_more n bs stop in (s.0, ap suc s.1, s.2)
      | inr a ↦ absurd (ok_not_err (b + 256 * a.0.0, a.0.1) More a.2)
    ]

number_invalid : (n : ℕ) (bytes : List ℕ) → number_at n bytes ≡ Err Invalid → ⊥
unfolding number_at
number_invalid zero bytes e = ok_not_err (0, bytes) Invalid e
number_invalid (suc n) [] e = more_not_invalid e
number_invalid (suc n) (b ∷ bs) e =
    elim (bind_err (number_at n bs) (λ p. Ok (b + 256 * p.0, p.1)) Invalid e) [
      | inl stop ↦ number_invalid n bs stop
      | inr a ↦ ok_not_err (b + 256 * a.0.0, a.0.1) Invalid a.2
    ]

pub number_reads : (n : ℕ) → Reads (Number n) (number_at n)
number_reads n = record {
  found = number_found n;
  again = λ x front rest h. number_again n front rest h.size ∙ ap (λ (v : ℕ). answer (v, rest)) (sym h.value_is);
  more = λ bytes e. let s = number_more n bytes e in
      (little_endian (bytes ++ s.0), s.0, record { size = s.1; value_is = refl }, s.2);
  invalid = λ bytes rest e. absurd (number_invalid n bytes e);
}

pub some_number : (n : ℕ) → (v : ℕ) × (g : List ℕ) × Number n v g × AllBytes g
some_number n = let z = zeros n in (little_endian z.0, z.0, z.1, z.2)

-- ---- some way on

pub then_some : {A B : Type 0} (S : A → List ℕ → Type 0) (T : A → B → List ℕ → Type 0) (x : A) (f : List ℕ) (y : B) (g : List ℕ) → S x f →
    AllBytes f → T x y g → AllBytes g → (z : B) × (h : List ℕ) × Then S T z h × AllBytes h
then_some S T x f y g s a t b =
    (y, f ++ g, record { middle = x; one = f; two = g; first = s; second = t; whole = refl }, bytes_append f g a b)
