-- The readers of an instruction, one after another.
use Rattle.std.proofs.Common.{◌≡◌, ℕ, ◌+◌, ◌*◌, ◌<◌, Bool, true, false, cond, not, ◌&&◌, ◌||◌, eqb, List, [], ◌∷◌, ◌++◌, Ok, Err, refl, sym}
use Rattle.std.proofs.{Common.{ap, subst, ◌∙◌, append_assoc, arith, ◌⊎◌, inl, inr}, lemmas.Bool.{eqb-true, eqb-false, false≢true}}
use Rattle.std.proofs.{lemmas.Bool.{cases_Bool}, lemmas.List.{nil_from_length}}
use Rattle.insn_decode.specs.{declared.stop.Stop.TheVariants.{More, Invalid}, Reading.{◌>>=◌, Read, number_at, no_prefixes, any_below}}
use Rattle.insn_decode.specs.Reading.{any_row, head_at, modrm_at, addressing_at, operand_at, rest_at, insn_at}
use Rattle.insn_forms.specs.{declared.rows.OpMap.{OpMap}, declared.pieces.Head.{Head}, declared.pieces.Addressing.{Addressing}}
use Rattle.insn_forms.specs.{declared.insn.Operand.{Operand}, declared.rows.Form.{Form}, declared.insn.Insn.{Insn}, declared.rows.Row.{Row}}
use Rattle.insn_forms.specs.{OpcodeMap.{opcode_row}, Addressing.{has_modrm, modrm_size, sib_size, disp_size}, Operands.{has_op, may_lock}}
use Rattle.insn_forms.specs.{Operands.{is_m, is_row, imm_size, operand, insn_of}, Grammar.{AllBytes, wide_of, addr32_of, row_with}}
use Rattle.insn_forms.specs.Grammar.{is_row_with}
use Rattle.insn_decode.proofs.LawfulReaders.{Reads, ok_is, ok_not_err, err_not_ok, more_not_invalid, chosen, bind_ok, bind_err, Then}
use Rattle.insn_decode.proofs.LawfulReaders.{then_reads, then_some, Done, done_reads, Number, number_reads, some_number}
use Rattle.insn_decode.proofs.HeadReaders.{EncodesHead, head_reads, any_found, any_from}

-- ---- ModRM

pub record EncodesModrm (head : Head) (m : ℕ) (bytes : List ℕ) : Type 0 where
  pub number : Number (modrm_size head.map head.opcode) m bytes
  pub has_row : is_row_with head m ≡ true

abbrev one_if : Bool → ℕ
one_if b = cond b 1 0

one_or_none : (b : Bool) → (one_if b ≡ 0) ⊎ (one_if b ≡ 1)
one_or_none true = inr refl
one_or_none false = inl refl

size_cases : (map : OpMap) (opcode : ℕ) → (modrm_size map opcode ≡ 0) ⊎ (modrm_size map opcode ≡ 1)
unfolding modrm_size
size_cases map opcode = one_or_none (has_modrm (opcode_row map opcode 0).first || has_modrm (opcode_row map opcode 0).second)

-- a ModRM byte with this reg field, and memory
made_byte : (head : Head) (reg : ℕ) → reg < 8 → is_row head.prefixes.lock (opcode_row head.map head.opcode reg) true ≡ true
    → is_row_with head (8 * reg) ≡ true
made_byte head reg lt e = grind arith

size_one : (n : ℕ) → eqb n 0 ≡ false → (n ≡ 0) ⊎ (n ≡ 1) → n ≡ 1
size_one n e (inl z) = absurd (eqb-false n 0 e z)
size_one n e (inr o) = o

reg_row : (head : Head) → any_below 8 (λ reg. is_row head.prefixes.lock (opcode_row head.map head.opcode reg) true) ≡ true
    → (m : ℕ) × (m < 256) × (is_row_with head m ≡ true)
reg_row head e =
    let r = any_found 8 (λ reg. is_row head.prefixes.lock (opcode_row head.map head.opcode reg) true) e in
    (8 * r.0, omega (arith, r.1), made_byte head r.0 r.1 r.2)

some_modrm : (head : Head) → any_row head ≡ true → (m : ℕ) × (g : List ℕ) × EncodesModrm head m g × AllBytes g
unfolding any_row
some_modrm head e =
    elim (chosen (eqb (modrm_size head.map head.opcode) 0) (is_row_with head 0)
    (any_below 8 (λ reg. is_row head.prefixes.lock (opcode_row head.map head.opcode reg) true)) true e) [
      | inl a ↦ (0, [], record { number = record { size = sym (eqb-true _ 0 a.0); value_is = refl }; has_row = a.1 }, tt)
      | inr a ↦
          let r = reg_row head a.1 in
          let one : modrm_size head.map head.opcode ≡ 1 =
          size_one (modrm_size head.map head.opcode) a.0 (size_cases head.map head.opcode) in
          (r.0, r.0 ∷ [], record { number = record { size = sym one; value_is = omega arith }; has_row = r.2 }, (r.1, tt))
    ]

-- a row with a register has also the row with memory
memory_too : (h l m k : Bool) → (h && (not l || (m && false)) && (false || k)) ≡ true → (h && (not l || (m && true)) && true) ≡ true
memory_too false l m k e = e
memory_too true false m k e = refl
memory_too true true true k e = absurd (false≢true e)
memory_too true true false k e = absurd (false≢true e)

row_up : (lock : Bool) (r : Row) (b : Bool) → is_row lock r b ≡ true → is_row lock r true ≡ true
unfolding is_row
row_up lock r true e = e
row_up lock r false e = memory_too (has_op r) lock (may_lock r) (not (is_m r.first || is_m r.second)) e

-- where a ModRM byte has a row, the head has
pub row_any : (head : Head) (m : ℕ) (bytes : List ℕ) → EncodesModrm head m bytes → any_row head ≡ true
unfolding any_row
row_any head m bytes h = grind (arith, any_from, cases_Bool, eqb-true, nil_from_length, row_up)

at_most_one : (n : ℕ) (bytes : List ℕ) → (n ≡ 0) ⊎ (n ≡ 1) → number_at n bytes ≡ Err More → bytes ≡ []
unfolding number_at
at_most_one n [] h e = refl
at_most_one n (b ∷ bs) (inl z) e = absurd (ok_not_err (0, b ∷ bs) More (subst (λ (k : ℕ). number_at k (b ∷ bs) ≡ Err More) z e))
at_most_one n (b ∷ bs) (inr o) e = absurd (ok_not_err (b + 256 * 0, bs) More (subst (λ (k : ℕ). number_at k (b ∷ bs) ≡ Err More) o e))

modrm_found : (head : Head) (bytes : List ℕ) (m : ℕ) (rest : List ℕ) → modrm_at head bytes ≡ Ok (m, rest)
    → (front : List ℕ) × EncodesModrm head m front × (bytes ≡ front ++ rest)
unfolding modrm_at
modrm_found head bytes m rest e =
    let a = bind_ok (number_at (modrm_size head.map head.opcode) bytes)
    (λ p. cond (is_row_with head p.0) (Ok p) (Err Invalid)) (m, rest) e in
    let n = (number_reads (modrm_size head.map head.opcode)).found bytes a.0.0 a.0.1 a.1 in
    grind (arith, chosen, err_not_ok, ok_is)

modrm_again : (head : Head) (m : ℕ) (front rest : List ℕ) → EncodesModrm head m front → modrm_at head (front ++ rest) ≡ Ok (m, rest)
unfolding modrm_at
modrm_again head m front rest h =
    let n = (number_reads (modrm_size head.map head.opcode)).again m front rest h.number in
    rw (n, h.has_row) refl

modrm_more : (head : Head) → any_row head ≡ true → (bytes : List ℕ) → modrm_at head bytes ≡ Err More
    → (m : ℕ) × (tail : List ℕ) × EncodesModrm head m (bytes ++ tail) × AllBytes tail
unfolding modrm_at
modrm_more head any bytes e = grind (arith, at_most_one, bind_err, chosen, more_not_invalid, ok_not_err, size_cases, some_modrm)

modrm_invalid : (head : Head) (bytes rest : List ℕ) → modrm_at head bytes ≡ Err Invalid → modrm_at head (bytes ++ rest) ≡ Err Invalid
unfolding modrm_at
modrm_invalid head bytes rest e =
    let n = number_reads (modrm_size head.map head.opcode) in
    elim (bind_err (number_at (modrm_size head.map head.opcode) bytes)
    (λ p. cond (is_row_with head p.0) (Ok p) (Err Invalid)) Invalid e) [
      | inl stop ↦ rw (n.invalid bytes rest stop) refl
      | inr a ↦
          let f = n.found bytes a.0.0 a.0.1 a.1 in
          let again : number_at (modrm_size head.map head.opcode) (bytes ++ rest) ≡ Ok (a.0.0, a.0.1 ++ rest) =
          ap (λ (l : List ℕ). number_at (modrm_size head.map head.opcode) (l ++ rest)) f.2
          ∙ ap (number_at (modrm_size head.map head.opcode)) (append_assoc f.0 a.0.1 rest)
          ∙ n.again a.0.0 f.0 (a.0.1 ++ rest) f.1 in
          grind (arith, chosen, ok_not_err)
    ]

pub modrm_reads : (head : Head) → any_row head ≡ true → Reads (EncodesModrm head) (modrm_at head)
modrm_reads head any =
    record { found = modrm_found head; again = modrm_again head; more = modrm_more head any; invalid = modrm_invalid head }

-- ---- what follows

module _ (big : Bool) (head : Head) where
  abbrev pub EncodesDisp : ℕ → ℕ → Addressing → List ℕ → Type 0
  EncodesDisp m sib = Then (Number (disp_size (addr32_of big head) (row_with head m) m sib))
      (λ disp. Done (record { modrm = m; sib = sib; disp = disp }))

  abbrev pub EncodesSib : ℕ → Addressing → List ℕ → Type 0
  EncodesSib m = Then (Number (sib_size (addr32_of big head) (row_with head m) m)) (λ sib. EncodesDisp m sib)

  abbrev pub EncodesAddressing : Addressing → List ℕ → Type 0
  EncodesAddressing = Then (EncodesModrm head) (λ m. EncodesSib m)

module _ (big : Bool) (head : Head) where
  disp_reads : (m sib : ℕ)
      → Reads (EncodesDisp big head m sib)
      (λ bytes. number_at (disp_size (addr32_of big head) (row_with head m) m sib) bytes
      >>= λ d. Ok (record { modrm = m; sib = sib; disp = d.0 }, d.1))
  disp_reads m sib =
      then_reads (Number (disp_size (addr32_of big head) (row_with head m) m sib))
      (λ disp. Done (record { modrm = m; sib = sib; disp = disp }))
      (number_at (disp_size (addr32_of big head) (row_with head m) m sib))
      (λ d bytes. Ok (record { modrm = m; sib = sib; disp = d }, bytes))
      (number_reads _) (λ d f h. done_reads (record { modrm = m; sib = sib; disp = d }))
      (λ d f h. (record { modrm = m; sib = sib; disp = d }, [], record { same = refl; none = refl }, tt))

  some_disp : (m sib : ℕ) → (p : Addressing) × (g : List ℕ) × EncodesDisp big head m sib p g × AllBytes g
  some_disp m sib =
      let n = some_number (disp_size (addr32_of big head) (row_with head m) m sib) in
      then_some (Number (disp_size (addr32_of big head) (row_with head m) m sib))
      (λ disp. Done (record { modrm = m; sib = sib; disp = disp })) n.0 n.1
      (record { modrm = m; sib = sib; disp = n.0 }) [] n.2 n.3 (record { same = refl; none = refl }) tt

  sib_reads : (m : ℕ) → Reads (EncodesSib big head m)
      (λ bytes. number_at (sib_size (addr32_of big head) (row_with head m) m) bytes
      >>= λ sib. number_at (disp_size (addr32_of big head) (row_with head m) m sib.0) sib.1
      >>= λ d. Ok (record { modrm = m; sib = sib.0; disp = d.0 }, d.1))
  sib_reads m =
      then_reads (Number (sib_size (addr32_of big head) (row_with head m) m)) (λ sib. EncodesDisp big head m sib)
      (number_at (sib_size (addr32_of big head) (row_with head m) m))
      (λ sib bytes. number_at (disp_size (addr32_of big head) (row_with head m) m sib) bytes
      >>= λ d. Ok (record { modrm = m; sib = sib; disp = d.0 }, d.1))
      (number_reads _) (λ sib f h. disp_reads m sib) (λ sib f h. some_disp m sib)

  some_sib : (m : ℕ) → (p : Addressing) × (g : List ℕ) × EncodesSib big head m p g × AllBytes g
  some_sib m =
      let n = some_number (sib_size (addr32_of big head) (row_with head m) m) in
      let d = some_disp m n.0 in
      then_some (Number (sib_size (addr32_of big head) (row_with head m) m))
      (λ sib. EncodesDisp big head m sib) n.0 n.1 d.0 d.1 n.2 n.3 d.2 d.3

  addressing_reads : any_row head ≡ true → Reads (EncodesAddressing big head) (addressing_at (addr32_of big head) head)
  unfolding addressing_at
  addressing_reads any =
      then_reads (EncodesModrm head) (λ m. EncodesSib big head m) (modrm_at head)
      (λ m bytes. number_at (sib_size (addr32_of big head) (row_with head m) m) bytes
      >>= λ sib. number_at (disp_size (addr32_of big head) (row_with head m) m sib.0) sib.1
      >>= λ d. Ok (record { modrm = m; sib = sib.0; disp = d.0 }, d.1))
      (modrm_reads head any) (λ m f h. sib_reads m) (λ m f h. some_sib m)

  some_addressing : any_row head ≡ true → (p : Addressing) × (g : List ℕ) × EncodesAddressing big head p g × AllBytes g
  some_addressing any =
      let m = some_modrm head any in
      let d = some_sib m.0 in
      then_some (EncodesModrm head) (λ m. EncodesSib big head m) m.0 m.1 d.0 d.1 m.2 m.3 d.2 d.3

module _ (big : Bool) (head : Head) (address : Addressing) where
  abbrev pub EncodesOperand : Form → Operand → List ℕ → Type 0
  EncodesOperand form = Then (Number (imm_size (wide_of big head) (addr32_of big head) form))
      (λ n. Done (operand head (wide_of big head) (addr32_of big head) address form n))

  operand_reads : (form : Form)
      → Reads (EncodesOperand form) (operand_at (wide_of big head) (addr32_of big head) head address form)
  unfolding operand_at
  operand_reads form =
      then_reads (Number (imm_size (wide_of big head) (addr32_of big head) form))
      (λ n. Done (operand head (wide_of big head) (addr32_of big head) address form n))
      (number_at (imm_size (wide_of big head) (addr32_of big head) form))
      (λ n bytes. Ok (operand head (wide_of big head) (addr32_of big head) address form n, bytes))
      (number_reads _) (λ n f h. done_reads (operand head (wide_of big head) (addr32_of big head) address form n))
      (λ n f h. (
        operand head (wide_of big head) (addr32_of big head) address form n,
        [],
        record { same = refl; none = refl },
        tt,
      ))

  some_operand : (form : Form) → (o : Operand) × (g : List ℕ) × EncodesOperand form o g × AllBytes g
  some_operand form =
      let n = some_number (imm_size (wide_of big head) (addr32_of big head) form) in
      then_some (Number (imm_size (wide_of big head) (addr32_of big head) form))
      (λ n. Done (operand head (wide_of big head) (addr32_of big head) address form n)) n.0 n.1
      (operand head (wide_of big head) (addr32_of big head) address form n.0) [] n.2 n.3
      (record { same = refl; none = refl }) tt

  abbrev row_here : Row
  row_here = row_with head address.modrm

  abbrev made_of : Operand → Operand → Operand → Insn
  made_of first second third = insn_of head (wide_of big head) (addr32_of big head) row_here first second third

  abbrev pub EncodesThird : Operand → Operand → Insn → List ℕ → Type 0
  EncodesThird first second = Then (EncodesOperand row_here.third) (λ third. Done (made_of first second third))

  abbrev pub EncodesSecond : Operand → Insn → List ℕ → Type 0
  EncodesSecond first = Then (EncodesOperand row_here.second) (λ second. EncodesThird first second)

  abbrev pub EncodesRest : Insn → List ℕ → Type 0
  EncodesRest = Then (EncodesOperand row_here.first) (λ first. EncodesSecond first)

  abbrev third_at : Operand → Operand → List ℕ → Read Insn
  third_at first second bytes = operand_at (wide_of big head) (addr32_of big head) head address row_here.third bytes
      >>= λ t. Ok (made_of first second t.0, t.1)

  abbrev second_at : Operand → List ℕ → Read Insn
  second_at first bytes = operand_at (wide_of big head) (addr32_of big head) head address row_here.second bytes
      >>= λ s. third_at first s.0 s.1

  third_reads : (first second : Operand) → Reads (EncodesThird first second) (third_at first second)
  third_reads first second =
      then_reads (EncodesOperand row_here.third) (λ third. Done (made_of first second third))
      (operand_at (wide_of big head) (addr32_of big head) head address row_here.third)
      (λ third bytes. Ok (made_of first second third, bytes))
      (operand_reads row_here.third) (λ third f h. done_reads (made_of first second third))
      (λ third f h. (made_of first second third, [], record { same = refl; none = refl }, tt))

  some_third : (first second : Operand) → (i : Insn) × (g : List ℕ) × EncodesThird first second i g × AllBytes g
  some_third first second =
      let o = some_operand row_here.third in
      then_some (EncodesOperand row_here.third) (λ third. Done (made_of first second third)) o.0 o.1
      (made_of first second o.0) [] o.2 o.3 (record { same = refl; none = refl }) tt

  second_reads : (first : Operand) → Reads (EncodesSecond first) (second_at first)
  second_reads first =
      then_reads (EncodesOperand row_here.second) (λ second. EncodesThird first second)
      (operand_at (wide_of big head) (addr32_of big head) head address row_here.second)
      (λ second. third_at first second)
      (operand_reads row_here.second) (λ second f h. third_reads first second) (λ second f h. some_third first second)

  some_second : (first : Operand) → (i : Insn) × (g : List ℕ) × EncodesSecond first i g × AllBytes g
  some_second first =
      let o = some_operand row_here.second in
      let t = some_third first o.0 in
      then_some (EncodesOperand row_here.second) (λ second. EncodesThird first second) o.0 o.1 t.0 t.1 o.2 o.3 t.2 t.3

  rest_reads : Reads EncodesRest (rest_at (wide_of big head) (addr32_of big head) head address)
  unfolding rest_at
  rest_reads =
      then_reads (EncodesOperand row_here.first) (λ first. EncodesSecond first)
      (operand_at (wide_of big head) (addr32_of big head) head address row_here.first) (λ first. second_at first)
      (operand_reads row_here.first) (λ first f h. second_reads first) (λ first f h. some_second first)

  some_rest : (i : Insn) × (g : List ℕ) × EncodesRest i g × AllBytes g
  some_rest =
      let o = some_operand row_here.first in
      let t = some_second o.0 in
      then_some (EncodesOperand row_here.first) (λ first. EncodesSecond first) o.0 o.1 t.0 t.1 o.2 o.3 t.2 t.3

module _ (big : Bool) where
  abbrev pub EncodesTail : Head → Insn → List ℕ → Type 0
  EncodesTail head = Then (EncodesAddressing big head) (λ address. EncodesRest big head address)

  abbrev pub EncodesInsn : Insn → List ℕ → Type 0
  EncodesInsn = Then (EncodesHead no_prefixes) (λ head. EncodesTail head)

  abbrev tail_at : Head → List ℕ → Read Insn
  tail_at head bytes = addressing_at (addr32_of big head) head bytes
      >>= λ p. rest_at (wide_of big head) (addr32_of big head) head p.0 p.1

  tail_reads : (head : Head) → any_row head ≡ true → Reads (EncodesTail head) (tail_at head)
  tail_reads head any =
      then_reads (EncodesAddressing big head) (λ address. EncodesRest big head address)
      (addressing_at (addr32_of big head) head)
      (λ address. rest_at (wide_of big head) (addr32_of big head) head address)
      (addressing_reads big head any) (λ address f h. rest_reads big head address)
      (λ address f h. some_rest big head address)

  some_tail : (head : Head) → any_row head ≡ true → (i : Insn) × (g : List ℕ) × EncodesTail head i g × AllBytes g
  some_tail head any =
      let p = some_addressing big head any in
      let r = some_rest big head p.0 in
      then_some (EncodesAddressing big head) (λ address. EncodesRest big head address) p.0 p.1 r.0 r.1 p.2 p.3 r.2 r.3

  pub insn_reads : Reads EncodesInsn (insn_at big)
  unfolding insn_at
  insn_reads =
      then_reads (EncodesHead no_prefixes) (λ head. EncodesTail head) (head_at no_prefixes) (λ head. tail_at head)
      (head_reads no_prefixes) (λ head f h. tail_reads head h.has_row) (λ head f h. some_tail head h.has_row)
