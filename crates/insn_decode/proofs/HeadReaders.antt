-- Prefixes and the opcode.
use Rattle.std.proofs.Common.{◌≡◌, ℕ, zero, suc, ◌<◌, Bool, true, false, ◌||◌, eqb, List, [], ◌∷◌, ◌++◌, Ok, Err, refl, sym, ap, subst, ◌∙◌}
use Rattle.std.proofs.{Common.{append_assoc, arith, ◌⊎◌, inl, inr}, lemmas.Bool.{eqb-true, or_cases, false≢true, cases_Bool, cases_eq}}
use Rattle.std.specs.List.{AllByRecursion}
use Rattle.insn_decode.specs.{declared.stop.Stop.TheVariants.{More, Invalid}, Reading.{with_prefix, any_below, any_row, opcode_head}}
use Rattle.insn_decode.specs.Reading.{checked, two_at, opcode_at, head_at}
use Rattle.insn_forms.specs.{declared.rows.OpMap.{OpMap}, declared.rows.OpMap.TheVariants.{One, Two}, declared.pieces.Prefixes.{Prefixes}}
use Rattle.insn_forms.specs.{declared.pieces.Head.{Head}, declared.rows.Row.{Row}, OpcodeMap.{opcode_row, row_one, row_two, map_one_00}}
use Rattle.insn_forms.specs.{OpcodeMap.{map_one_20, map_one_60, map_one_e0, map_two_a0, group_0fba}, Prefixes.{is_prefix, is_one_of}}
use Rattle.insn_forms.specs.{Addressing.{modrm_size}, Kinds.{operation}, Operands.{has_op, is_row}, Grammar.{AllBytes, ArePrefixes}}
use Rattle.insn_forms.specs.Grammar.{is_row_with, opcode_bytes}
use Rattle.insn_decode.proofs.LawfulReaders.{Reads, answer, ok_is, ok_not_err, err_not_ok, more_not_invalid, chosen}

-- ---- tests

pub any_found : (n : ℕ) (f : ℕ → Bool) → any_below n f ≡ true → (k : ℕ) × (k < n) × (f k ≡ true)
any_found zero f e = absurd (false≢true e)
any_found (suc n) f e =
    elim (or_cases (f n) (any_below n f) e) [
      | inl here ↦ (n, omega arith, here)
      | inr there ↦ let a = any_found n f there in (a.0, omega (arith, a.1), a.2)
    ]

pub or_from : (x y : Bool) → (x ≡ true) ⊎ (y ≡ true) → (x || y) ≡ true
or_from true y h = refl
or_from false y (inl e) = absurd (false≢true e)
or_from false y (inr e) = e

pub any_from : (n : ℕ) (f : ℕ → Bool) (k : ℕ) → k < n → f k ≡ true → any_below n f ≡ true
any_from zero f k lt e = absurd (omega arith)
any_from (suc n) f k lt e =
    elim (cases_eq k n) [
      | inl same ↦ or_from (f n) (any_below n f) (inl (subst (λ (j : ℕ). f j ≡ true) same e))
      | inr other ↦ or_from (f n) (any_below n f) (inr (any_from n f k (omega (arith, lt, other)) e))
    ]

-- what holds at each number of a list, at a number that is one of them
one_of : (P : ℕ → Type 0) (xs : List ℕ) (b : ℕ) → AllByRecursion P xs → is_one_of xs b ≡ true → P b
one_of P [] b all e = absurd (false≢true e)
one_of P (x ∷ xs) b all e =
    elim (or_cases (eqb b x) (is_one_of xs b) e) [
      | inl here ↦ subst P (sym (eqb-true b x here)) all.0
      | inr there ↦ one_of P xs b all.1 there
    ]

-- no row of the first map is at a prefix
no_row_at_prefix : (b : ℕ) → is_prefix b ≡ true → (reg : ℕ) → has_op (row_one b reg) ≡ false
unfolding is_prefix row_one map_one_00 map_one_20 map_one_60 map_one_e0
no_row_at_prefix b e =
    one_of (λ b. (reg : ℕ) → has_op (row_one b reg) ≡ false)
    (0x26 ∷ 0x2e ∷ 0x36 ∷ 0x3e ∷ 0x64 ∷ 0x65 ∷ 0x66 ∷ 0x67 ∷ 0xf0 ∷ 0xf2 ∷ 0xf3 ∷ []) b (grind arith
    ) e

-- a head that has a row begins as its opcode's map says
record Starts (b : ℕ) : Type 0 where
  pub no_prefix : is_prefix b ≡ false
  pub no_map : eqb b 0x0f ≡ false

no_row : (lock : Bool) (r : Row) (in_memory : Bool) → has_op r ≡ false → is_row lock r in_memory ≡ false
unfolding is_row
no_row lock r in_memory e = rw e refl

-- the row that a head has
pub some_row : (head : Head) → any_row head ≡ true
    → (reg : ℕ) × (reg < 8) × (is_row head.prefixes.lock (opcode_row head.map head.opcode reg) true ≡ true)
unfolding any_row
some_row head e =
    elim (chosen (eqb (modrm_size head.map head.opcode) 0) (is_row_with head 0)
    (any_below 8 (λ reg. is_row head.prefixes.lock (opcode_row head.map head.opcode reg) true)) true e) [
      | inl a ↦ (0, omega arith, a.1)
      | inr a ↦ any_found 8 (λ reg. is_row head.prefixes.lock (opcode_row head.map head.opcode reg) true) a.1
    ]

no_row_at_0f : (b : ℕ) → eqb b 0x0f ≡ true → (reg : ℕ) → has_op (row_one b reg) ≡ false
unfolding row_one map_one_00
no_row_at_0f b e reg = rw (eqb-true b 0x0f e) refl

starts : (m : Prefixes) (b : ℕ) → any_row (opcode_head m One b) ≡ true → Starts b
unfolding opcode_row
starts m b e = grind (arith, cases_Bool, false≢true, no_row, no_row_at_0f, no_row_at_prefix, some_row)

-- ---- the first bytes

abbrev pub folded : Prefixes → List ℕ → Prefixes
folded m [] = m
folded m (b ∷ bs) = folded (with_prefix m b) bs

-- after the prefixes that gave m
pub record EncodesHead (m : Prefixes) (head : Head) (bytes : List ℕ) : Type 0 where
  pub before : List ℕ
  pub are : ArePrefixes before
  pub says : head.prefixes ≡ folded m before
  pub has_row : any_row head ≡ true
  pub whole : bytes ≡ before ++ opcode_bytes head.map head.opcode

checked_ok : (head x : Head) (bytes rest : List ℕ) → checked head bytes ≡ Ok (x, rest) → (any_row head ≡ true) × (head ≡ x) × (bytes ≡ rest)
unfolding checked
checked_ok head x bytes rest e = grind (arith, chosen, err_not_ok, ok_is)

checked_again : (head : Head) (rest : List ℕ) → any_row head ≡ true → checked head rest ≡ Ok (head, rest)
unfolding checked
checked_again head rest e = rw e refl

checked_not_more : (head : Head) (bytes : List ℕ) → checked head bytes ≡ Err More → ⊥
unfolding checked
checked_not_more head bytes e = grind (arith, chosen, more_not_invalid, ok_not_err)

checked_stays : (head : Head) (bytes more : List ℕ) → checked head bytes ≡ Err Invalid → checked head more ≡ Err Invalid
unfolding checked
checked_stays head bytes more e = grind (arith, chosen, ok_not_err)

-- every mark leaves some opcode, in either map
lock_in_one : (lock : Bool) → any_below 8 (λ reg. is_row lock (opcode_row One 0 reg) true) ≡ true
unfolding is_row operation opcode_row row_one map_one_00
lock_in_one true = refl
lock_in_one false = refl

some_in_one : (m : Prefixes) → any_row (opcode_head m One 0) ≡ true
unfolding any_row modrm_size opcode_row row_one map_one_00
some_in_one m = lock_in_one m.lock

lock_in_two : (lock : Bool) → any_below 8 (λ reg. is_row lock (opcode_row Two 0xba reg) true) ≡ true
unfolding is_row operation opcode_row row_two map_two_a0 group_0fba
lock_in_two true = refl
lock_in_two false = refl

some_in_two : (m : Prefixes) → any_row (opcode_head m Two 0xba) ≡ true
unfolding any_row modrm_size opcode_row row_two map_two_a0 group_0fba
some_in_two m = lock_in_two m.lock

-- a head that was made is the one that was read
record IsMade (m : Prefixes) (map : OpMap) (b : ℕ) (x : Head) : Type 0 where
  pub has_row : any_row x ≡ true
  pub prefixes : x.prefixes ≡ m
  pub opcode : opcode_bytes x.map x.opcode ≡ opcode_bytes map b

is_made : (m : Prefixes) (map : OpMap) (b : ℕ) (x : Head) → any_row (opcode_head m map b) ≡ true → opcode_head m map b ≡ x
    → IsMade m map b x
is_made m map b x h e = subst (λ (y : Head). IsMade m map b y) e (record { has_row = h; prefixes = refl; opcode = refl })

opcode_found : (m : Prefixes) (b : ℕ) (bs : List ℕ) (x : Head) (rest : List ℕ) → opcode_at m b bs ≡ Ok (x, rest)
    → (any_row x ≡ true) × (x.prefixes ≡ m) × (b ∷ bs ≡ opcode_bytes x.map x.opcode ++ rest)
unfolding opcode_at two_at
opcode_found m b [] x rest e =
    elim (chosen (eqb b 0x0f) (two_at m []) (checked (opcode_head m One b) []) (Ok (x, rest)) e) [
      | inl a ↦ absurd (err_not_ok (x, rest) More a.1)
      | inr a ↦
          let k = checked_ok (opcode_head m One b) x [] rest a.1 in
          let g = is_made m One b x k.0 k.1 in
          (g.has_row, g.prefixes, ap (λ (l : List ℕ). b ∷ l) k.2 ∙ ap (λ (l : List ℕ). l ++ rest) (sym g.opcode))
    ]
opcode_found m b (c ∷ bs) x rest e =
    elim (chosen (eqb b 0x0f) (two_at m (c ∷ bs)) (checked (opcode_head m One b) (c ∷ bs)) (Ok (x, rest)) e) [
      | inl a ↦
          let k = checked_ok (opcode_head m Two c) x bs rest a.1 in
          let g = is_made m Two c x k.0 k.1 in (grind (arith, eqb-true)
          )
      | inr a ↦
          let k = checked_ok (opcode_head m One b) x (c ∷ bs) rest a.1 in
          let g = is_made m One b x k.0 k.1 in
          (g.has_row, g.prefixes, ap (λ (l : List ℕ). b ∷ l) k.2 ∙ ap (λ (l : List ℕ). l ++ rest) (sym g.opcode))
    ]

head_found : (m : Prefixes) (bytes : List ℕ) (x : Head) (rest : List ℕ) → head_at m bytes ≡ Ok (x, rest)
    → (front : List ℕ) × EncodesHead m x front × (bytes ≡ front ++ rest)
unfolding head_at
head_found m [] x rest e = absurd (err_not_ok (x, rest) More e)
head_found m (b ∷ bs) x rest e =
    elim (chosen (is_prefix b) (head_at (with_prefix m b) bs) (opcode_at m b bs) (Ok (x, rest)) e) [
      | inl a ↦
          let h = head_found (with_prefix m b) bs x rest a.1 in (
            b ∷ h.0,
            record {
              before = b ∷ h.1.before;
              are = (a.0, h.1.are);
              says = h.1.says;
              has_row = h.1.has_row;
              whole = ap (λ (l : List ℕ). b ∷ l) h.1.whole;
            },
            ap (λ (l : List ℕ). b ∷ l) h.2,
          )
      | inr a ↦
          let o = opcode_found m b bs x rest a.1 in
          (opcode_bytes x.map x.opcode, record { before = []; are = tt; says = o.1; has_row = o.0; whole = refl }, o.2)
    ]

opcode_again : (m : Prefixes) (map : OpMap) (b : ℕ) (rest : List ℕ) → any_row (opcode_head m map b) ≡ true
    → head_at m (opcode_bytes map b ++ rest) ≡ Ok (opcode_head m map b, rest)
unfolding head_at opcode_at two_at is_prefix
opcode_again m One b rest e = grind (arith, checked_again, starts)
opcode_again m Two b rest e = checked_again (opcode_head m Two b) rest e

head_again : (m : Prefixes) (ps : List ℕ) (map : OpMap) (b : ℕ) (rest : List ℕ) → ArePrefixes ps
    → any_row (opcode_head (folded m ps) map b) ≡ true
    → head_at m (ps ++ (opcode_bytes map b ++ rest)) ≡ Ok (opcode_head (folded m ps) map b, rest)
unfolding head_at
head_again m [] map b rest are e = opcode_again m map b rest e
head_again m (p ∷ ps) map b rest are e = rw (are.0) (head_again (with_prefix m p) ps map b rest are.1 e)

opcode_more : (m : Prefixes) (b : ℕ) (bs : List ℕ) → opcode_at m b bs ≡ Err More → (b ≡ 0x0f) × (bs ≡ [])
unfolding opcode_at two_at
opcode_more m b [] e = grind (arith, checked_not_more, chosen, eqb-true)
opcode_more m b (c ∷ bs) e = grind (arith, checked_not_more, chosen)

head_more : (m : Prefixes) (bytes : List ℕ) → head_at m bytes ≡ Err More
    → (x : Head) × (tail : List ℕ) × EncodesHead m x (bytes ++ tail) × AllBytes tail
unfolding head_at
head_more m [] e = (
  opcode_head m One 0,
  0 ∷ [],
  record { before = []; are = tt; says = refl; has_row = some_in_one m; whole = refl },
  (omega arith, tt),
)
head_more m (b ∷ bs) e =
    elim (chosen (is_prefix b) (head_at (with_prefix m b) bs) (opcode_at m b bs) (Err More) e) [
      | inl a ↦
          let h = head_more (with_prefix m b) bs a.1 in (
            h.0,
            h.1,
            record {
              before = b ∷ h.2.before;
              are = (a.0, h.2.are);
              says = h.2.says;
              has_row = h.2.has_row;
              whole = ap (λ (l : List ℕ). b ∷ l) h.2.whole;
            },
            h.3,
          )
      | inr a ↦
          let o = opcode_more m b bs a.1 in (
            opcode_head m Two 0xba,
            0xba ∷ [],
            record { before = []; are = tt; says = refl; has_row = some_in_two m; whole = rw (o.0, o.1) refl },
            (omega arith, tt),
          )
    ]

opcode_invalid : (m : Prefixes) (b : ℕ) (bs rest : List ℕ) → opcode_at m b bs ≡ Err Invalid → opcode_at m b (bs ++ rest) ≡ Err Invalid
unfolding opcode_at two_at
opcode_invalid m b [] rest e = grind (arith, checked_stays, chosen, more_not_invalid)
opcode_invalid m b (c ∷ bs) rest e = grind (arith, checked_stays, chosen)

head_invalid : (m : Prefixes) (bytes rest : List ℕ) → head_at m bytes ≡ Err Invalid → head_at m (bytes ++ rest) ≡ Err Invalid
unfolding head_at
head_invalid m [] rest e = absurd (more_not_invalid e)
head_invalid m (b ∷ bs) rest e =
    elim (chosen (is_prefix b) (head_at (with_prefix m b) bs) (opcode_at m b bs) (Err Invalid) e) [
      | inl a ↦ rw (a.0) (head_invalid (with_prefix m b) bs rest a.1)
      | inr a ↦ rw (a.0) (opcode_invalid m b bs rest a.1)
    ]

head_encoded : (m : Prefixes) (x : Head) (front rest : List ℕ) → EncodesHead m x front → head_at m (front ++ rest) ≡ Ok (x, rest)
head_encoded m x front rest h = grind (arith, answer, append_assoc, head_again)

pub head_reads : (m : Prefixes) → Reads (EncodesHead m) (head_at m)
head_reads m = record { found = head_found m; again = head_encoded m; more = head_more m; invalid = head_invalid m }
