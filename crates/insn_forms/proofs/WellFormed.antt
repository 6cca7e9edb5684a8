-- Every instruction that bytes encode is well formed.
use Rattle.std.proofs.Common.{◌≡◌, ℕ, ◌/◌, ◌%◌, ◌<◌, Bool, true, false, ◌&&◌, ◌||◌, not, eqb, Option, Some, None, [], ◌∷◌, refl, sym, ap}
use Rattle.std.proofs.{Common.{subst, arith, inl, inr}, lemmas.Bool.{cond_both, and_parts, and_from, or_left, lt-ltb, false≢true}}
use Rattle.std.proofs.lemmas.Bool.{cases_Bool}
use Rattle.std.specs.Prelude.{nat_lt, ◌==◌}
use Rattle.client_world.specs.declared.segments.SegReg.{SegReg}
use Rattle.insn_forms.specs.{declared.rows.Form.{Form}, declared.rows.Row.{Row}, declared.insn.Insn.{Insn}, declared.insn.MemForm.{MemForm}}
use Rattle.insn_forms.specs.{declared.pieces.Prefixes.{Prefixes}, declared.pieces.Head.{Head}, declared.pieces.Addressing.{Addressing}}
use Rattle.insn_forms.specs.Addressing.{mod_of, reg_of, rm_of, in_memory, base16, index16, base32, index32, scale_of, place, displacement}
use Rattle.insn_forms.specs.{Addressing.{memory}, Operands.{has_op, may_lock, is_e, is_m, is_row, op_of, operand, register_or_memory}}
use Rattle.insn_forms.specs.{Operands.{width_of, form_width, row_width, insn_of}, Grammar.{little_endian, head_of, addressing_of, row_with}}
use Rattle.insn_forms.specs.{Grammar.{is_row_with, wide_of, addr32_of, insn_of_pieces, IsInsn}, Kinds.{Kind, operand_kind, is_memory}}
use Rattle.insn_forms.specs.Kinds.{is_width, is_number, is_place_in_memory, is_good, suits, has_good_number, is_wide_only, takes_lock}
use Rattle.insn_forms.specs.Kinds.{IsWellFormed}
use Rattle.insn_forms.proofs.RowsSuit.{kinds, all_of, row_suits, every_row_suits}
use Rattle.insn_forms.specs.declared.rows.Form.TheVariants as forms
use Rattle.insn_forms.specs.declared.insn.Operand.TheVariants as operands

-- ---- kinds

-- what holds of the first kind, and of both
first_of_two : (p : Kind → Bool) (a b : Kind) → all_of p (a ∷ b ∷ []) ≡ true → (p a ≡ true) × (p b ≡ true)
first_of_two p a b e = let s = and_parts (p a) (p b && true) e in (s.0, (and_parts (p b) true s.1).0)

only : (p : Kind → Bool) (a : Kind) → all_of p (a ∷ []) ≡ true → p a ≡ true
only p a e = (and_parts (p a) true e).0

either_kind : (p : Kind → Bool) (width : ℕ) (prefixes : Prefixes) (addr32 : Bool) (address : Addressing)
    → all_of p (kinds forms.Eb) ≡ true → p (operand_kind (register_or_memory width prefixes addr32 address)) ≡ true
either_kind p width prefixes addr32 address e =
    let s = first_of_two p _ _ e in
    cond_both (eqb (mod_of address.modrm) 3) (operands.Reg width (rm_of address.modrm))
    (operands.Mem (memory prefixes addr32 address))
    (λ o. p (operand_kind o) ≡ true) (λ _. s.0) (λ _. s.1)

-- what holds of each kind of a form holds of its operand
kind_in : (p : Kind → Bool) (head : Head) (wide addr32 : Bool) (address : Addressing) (form : Form) (v : ℕ)
    → all_of p (kinds form) ≡ true → p (operand_kind (operand head wide addr32 address form v)) ≡ true
unfolding operand
kind_in p head wide addr32 address forms.Empty v e = only p _ e
kind_in p head wide addr32 address forms.Eb v e = either_kind p 8 head.prefixes addr32 address e
kind_in p head wide addr32 address forms.Ew v e = either_kind p 16 head.prefixes addr32 address e
kind_in p head wide addr32 address forms.Ev v e = either_kind p (width_of wide) head.prefixes addr32 address e
kind_in p head wide addr32 address forms.Gb v e = only p _ e
kind_in p head wide addr32 address forms.Gw v e = only p _ e
kind_in p head wide addr32 address forms.Gv v e = only p _ e
kind_in p head wide addr32 address forms.RvMw v e = either_kind p (width_of wide) head.prefixes addr32 address e
kind_in p head wide addr32 address forms.Sw v e = only p _ e
kind_in p head wide addr32 address forms.M v e = only p _ e
kind_in p head wide addr32 address forms.Al v e = only p _ e
kind_in p head wide addr32 address forms.Ax v e = only p _ e
kind_in p head wide addr32 address forms.Cl v e = only p _ e
kind_in p head wide addr32 address forms.Dx v e = only p _ e
kind_in p head wide addr32 address forms.Const1 v e = only p _ e
kind_in p head wide addr32 address forms.Ib v e = only p _ e
kind_in p head wide addr32 address forms.Iw v e = only p _ e
kind_in p head wide addr32 address forms.Iz v e = only p _ e
kind_in p head wide addr32 address forms.Is v e = only p _ e
kind_in p head wide addr32 address forms.Jb v e = only p _ e
kind_in p head wide addr32 address forms.Jz v e = only p _ e
kind_in p head wide addr32 address forms.Ip v e = only p _ e
kind_in p head wide addr32 address forms.Ob v e = only p _ e
kind_in p head wide addr32 address forms.Ov v e = only p _ e
kind_in p head wide addr32 address forms.Zb v e = only p _ e
kind_in p head wide addr32 address forms.Zv v e = only p _ e
kind_in p head wide addr32 address forms.Xb v e = only p _ e
kind_in p head wide addr32 address forms.Xv v e = only p _ e
kind_in p head wide addr32 address forms.SegEs v e = only p _ e
kind_in p head wide addr32 address forms.SegCs v e = only p _ e
kind_in p head wide addr32 address forms.SegSs v e = only p _ e
kind_in p head wide addr32 address forms.SegDs v e = only p _ e
kind_in p head wide addr32 address forms.SegFs v e = only p _ e
kind_in p head wide addr32 address forms.SegGs v e = only p _ e
kind_in p head wide addr32 address forms.ModRm v e = only p _ e

-- ---- numbers

half_is_width : (wide : Bool) → is_width (width_of wide) ≡ true
half_is_width true = refl
half_is_width false = refl

good_register : (width number : ℕ) → is_width width ≡ true → number < 8 → is_good (operands.Reg width number) ≡ true
good_register width number w lt = and_from (is_width width) (nat_lt number 8) w (lt-ltb number 8 lt)

IsNumber : Option ℕ → Type 0
IsNumber n = is_number n ≡ true

base16_number : (modrm rm : ℕ) → is_number (base16 modrm rm) ≡ true
unfolding IsNumber
base16_number modrm rm =
    cond_both (eqb rm 0 || eqb rm 1 || eqb rm 7) _ _ IsNumber (λ _. refl) (λ _.
    cond_both (eqb rm 2 || eqb rm 3) _ _ IsNumber (λ _. refl) (λ _.
    cond_both (eqb rm 4) _ _ IsNumber (λ _. refl) (λ _.
    cond_both (eqb rm 5) _ _ IsNumber (λ _. refl) (λ _.
    cond_both (eqb (mod_of modrm) 0) _ _ IsNumber (λ _. refl) (λ _. refl)))))

index16_number : (rm : ℕ) → is_number (index16 rm) ≡ true
unfolding IsNumber
index16_number rm =
    cond_both (eqb rm 0 || eqb rm 2) _ _ IsNumber (λ _. refl) (λ _.
    cond_both (eqb rm 1 || eqb rm 3) _ _ IsNumber (λ _. refl) (λ _. refl))

base32_number : (modrm base : ℕ) → base < 8 → is_number (base32 modrm base) ≡ true
unfolding IsNumber
base32_number modrm base lt = cond_both (eqb base 5 && eqb (mod_of modrm) 0) _ _ IsNumber (λ _. refl) (λ _. lt-ltb base 8 lt)

index32_number : (sib : ℕ) → is_number (index32 sib) ≡ true
unfolding IsNumber
index32_number sib = cond_both (eqb (sib / 8 % 8) 4) _ _ IsNumber (λ _. refl) (λ _. lt-ltb (sib / 8 % 8) 8 (omega arith))

abbrev is_scale : ℕ → Bool
is_scale n = n == 1 || n == 2 || n == 4 || n == 8

scale_good : (sib : ℕ) → is_scale (scale_of sib) ≡ true
scale_good sib =
    cond_both (eqb (sib / 8 % 8) 4 || eqb (sib / 64) 0) _ _ (λ n. is_scale n ≡ true) (λ _. refl) (λ _.
    cond_both (eqb (sib / 64) 1) _ _ (λ n. is_scale n ≡ true) (λ _. refl) (λ _.
    cond_both (eqb (sib / 64) 2) _ _ (λ n. is_scale n ≡ true) (λ _. refl) (λ _. refl)))

IsPlace : MemForm → Type 0
IsPlace m = is_place_in_memory m ≡ true

good_place : (seg : Option SegReg) (base index : Option ℕ) (scale disp : ℕ) → is_number base ≡ true → is_number index ≡ true
    → is_scale scale ≡ true → is_place_in_memory (place seg base index scale disp) ≡ true
good_place seg base index scale disp b i s =
    and_from (is_number base && is_number index) (is_scale scale) (and_from (is_number base) (is_number index) b i) s

good_memory : (prefixes : Prefixes) (addr32 : Bool) (address : Addressing) → is_place_in_memory (memory prefixes addr32 address) ≡ true
unfolding memory IsPlace
good_memory prefixes true address =
    let modrm = address.modrm in
    let sib = address.sib in
    cond_both (eqb (rm_of modrm) 4) _ _ IsPlace
    (λ _. good_place prefixes.seg (base32 modrm (sib % 8)) (index32 sib) (scale_of sib) (displacement address)
    (base32_number modrm (sib % 8) (omega arith)) (index32_number sib) (scale_good sib))
    (λ _. good_place prefixes.seg (base32 modrm (rm_of modrm)) None 1 (displacement address)
    (base32_number modrm (rm_of modrm) (omega arith)) refl refl)
good_memory prefixes false address =
    let modrm = address.modrm in
    good_place prefixes.seg (base16 modrm (rm_of modrm)) (index16 (rm_of modrm)) 1 (displacement address)
    (base16_number modrm (rm_of modrm)) (index16_number (rm_of modrm)) refl

good_either : (width : ℕ) (prefixes : Prefixes) (addr32 : Bool) (address : Addressing) → is_width width ≡ true
    → is_good (register_or_memory width prefixes addr32 address) ≡ true
good_either width prefixes addr32 address w =
    cond_both (eqb (mod_of address.modrm) 3) (operands.Reg width (rm_of address.modrm))
    (operands.Mem (memory prefixes addr32 address))
    (λ o. is_good o ≡ true) (λ _. good_register width (rm_of address.modrm) w (omega arith))
    (λ _. good_memory prefixes addr32 address)

good_operand : (head : Head) (wide addr32 : Bool) (address : Addressing) (form : Form) (v : ℕ)
    → is_good (operand head wide addr32 address form v) ≡ true
unfolding operand
good_operand head wide addr32 address forms.Empty v = refl
good_operand head wide addr32 address forms.Eb v = good_either 8 head.prefixes addr32 address refl
good_operand head wide addr32 address forms.Ew v = good_either 16 head.prefixes addr32 address refl
good_operand head wide addr32 address forms.Ev v = good_either (width_of wide) head.prefixes addr32 address (half_is_width wide)
good_operand head wide addr32 address forms.Gb v = good_register 8 (reg_of address.modrm) refl (omega arith)
good_operand head wide addr32 address forms.Gw v = good_register 16 (reg_of address.modrm) refl (omega arith)
good_operand head wide addr32 address forms.Gv v = good_register (width_of wide) (reg_of address.modrm) (half_is_width wide) (omega arith)
good_operand head wide addr32 address forms.RvMw v = good_either (width_of wide) head.prefixes addr32 address (half_is_width wide)
good_operand head wide addr32 address forms.Sw v = refl
good_operand head wide addr32 address forms.M v = good_memory head.prefixes addr32 address
good_operand head wide addr32 address forms.Al v = refl
good_operand head wide addr32 address forms.Ax v = good_register (width_of wide) 0 (half_is_width wide) (omega arith)
good_operand head wide addr32 address forms.Cl v = refl
good_operand head wide addr32 address forms.Dx v = refl
good_operand head wide addr32 address forms.Const1 v = refl
good_operand head wide addr32 address forms.Ib v = refl
good_operand head wide addr32 address forms.Iw v = refl
good_operand head wide addr32 address forms.Iz v = refl
good_operand head wide addr32 address forms.Is v = refl
good_operand head wide addr32 address forms.Jb v = refl
good_operand head wide addr32 address forms.Jz v = refl
good_operand head wide addr32 address forms.Ip v = refl
good_operand head wide addr32 address forms.Ob v = refl
good_operand head wide addr32 address forms.Ov v = refl
good_operand head wide addr32 address forms.Zb v = good_register 8 (head.opcode % 8) refl (omega arith)
good_operand head wide addr32 address forms.Zv v = good_register (width_of wide) (head.opcode % 8) (half_is_width wide) (omega arith)
good_operand head wide addr32 address forms.Xb v = refl
good_operand head wide addr32 address forms.Xv v = refl
good_operand head wide addr32 address forms.SegEs v = refl
good_operand head wide addr32 address forms.SegCs v = refl
good_operand head wide addr32 address forms.SegSs v = refl
good_operand head wide addr32 address forms.SegDs v = refl
good_operand head wide addr32 address forms.SegFs v = refl
good_operand head wide addr32 address forms.SegGs v = refl
good_operand head wide addr32 address forms.ModRm v = refl

-- ---- widths

form_is_width : (wide : Bool) (form : Form) → is_width (form_width wide form) ≡ true
form_is_width true forms.Eb = refl
form_is_width true _ = refl
form_is_width false forms.Eb = refl
form_is_width false _ = refl

row_is_width : (wide : Bool) (first second : Form) → is_width (row_width wide first second) ≡ true
row_is_width wide forms.Ib second = form_is_width wide second
row_is_width wide forms.Dx second = form_is_width wide second
row_is_width wide first second = form_is_width wide first

-- ---- LOCK

not_cases : (b : Bool) → not b ≡ true → b ≡ false
not_cases false e = refl
not_cases true e = absurd (false≢true e)

locked_either : (width : ℕ) (prefixes : Prefixes) (addr32 : Bool) (address : Addressing) → in_memory address.modrm ≡ true
    → is_memory (operand_kind (register_or_memory width prefixes addr32 address)) ≡ true
locked_either width prefixes addr32 address e = rw (not_cases (eqb (mod_of address.modrm) 3) e) refl

locked_operand : (head : Head) (wide addr32 : Bool) (address : Addressing) (form : Form) (v : ℕ) → is_e form ≡ true
    → in_memory address.modrm ≡ true → is_memory (operand_kind (operand head wide addr32 address form v)) ≡ true
unfolding operand
locked_operand head wide addr32 address forms.Eb v e m = locked_either 8 head.prefixes addr32 address m
locked_operand head wide addr32 address forms.Ev v e m = locked_either (width_of wide) head.prefixes addr32 address m
locked_operand head wide addr32 address _ v e m = absurd (false≢true e)

may_lock_e : (r : Row) → may_lock r ≡ true → is_e r.first ≡ true
may_lock_e r e = e_of r.op r.first e
  where
    e_of : (op : Option _) (form : Form) → (elim op [ Some op ↦ takes_lock op && is_e form | None ↦ false ]) ≡ true
        → is_e form ≡ true
    e_of (Some op) form e = (and_parts (takes_lock op) (is_e form) e).1
    e_of None form e = absurd (false≢true e)

or_right : (x y : Bool) → y ≡ true → (x || y) ≡ true
or_right true y e = refl
or_right false y e = e

locked_memory : (head : Head) (wide addr32 : Bool) (address : Addressing) (v : ℕ) → is_row_with head address.modrm ≡ true
    → (not head.prefixes.lock
    || is_memory (operand_kind (operand head wide addr32 address (row_with head address.modrm).first v))) ≡ true
unfolding is_row
locked_memory head wide addr32 address v e =
    elim (cases_Bool head.prefixes.lock) [
      | inl lock ↦
          let r = row_with head address.modrm in
          let parts = and_parts (has_op r && (not head.prefixes.lock || (may_lock r && in_memory address.modrm)))
          (in_memory address.modrm || not (is_m r.first || is_m r.second)) e in
          let locks = (and_parts (has_op r)
          (not head.prefixes.lock || (may_lock r && in_memory address.modrm)) parts.0).1 in
          let both : (may_lock r && in_memory address.modrm) ≡ true =
          subst (λ (b : Bool). (not b || (may_lock r && in_memory address.modrm)) ≡ true) lock locks in
          let s = and_parts (may_lock r) (in_memory address.modrm) both in
          or_right (not head.prefixes.lock) (is_memory (operand_kind (operand head wide addr32 address r.first v)))
          (locked_operand head wide addr32 address r.first v (may_lock_e r s.0) s.1)
      | inr free ↦ or_left (not head.prefixes.lock)
          (is_memory (operand_kind (operand head wide addr32 address (row_with head address.modrm).first v))) (ap not free)
    ]

-- ---- the whole

row_has_op : (lock : Bool) (r : Row) (is_in : Bool) → is_row lock r is_in ≡ true → has_op r ≡ true
unfolding is_row
row_has_op lock r is_in e =
    (and_parts (has_op r) (not lock || (may_lock r && is_in))
    (and_parts (has_op r && (not lock || (may_lock r && is_in))) (is_in || not (is_m r.first || is_m r.second)) e).0).0

-- what a row's test says of a row with an operation
record Suits (r : Row) : Type 0 where
  pub kinds : all_of (λ a. all_of (λ b. all_of (λ c. suits (op_of r) a b c) (kinds r.third)) (kinds r.second))
      (kinds r.first) ≡ true
  pub number : has_good_number (op_of r) ≡ true
  pub wide : (wide : Bool) → (not (is_wide_only (op_of r)) || not (row_width wide r.first r.second == 8)) ≡ true

suits_row : (r : Row) → has_op r ≡ true → row_suits r ≡ true → Suits r
suits_row r has e =
    let ks = all_of (λ a. all_of (λ b. all_of (λ c. suits (op_of r) a b c) (kinds r.third)) (kinds r.second))
    (kinds r.first) in
    let n = has_good_number (op_of r) in
    let w : Bool → Bool = λ wide. not (is_wide_only (op_of r)) || not (row_width wide r.first r.second == 8) in
    let all : (ks && (n && (w true && w false))) ≡ true =
    subst (λ (b : Bool). (not b || (ks && (n && (w true && w false)))) ≡ true) has e in
    let a = and_parts ks (n && (w true && w false)) all in
    let b = and_parts n (w true && w false) a.1 in
    let c = and_parts (w true) (w false) b.1 in
    record { kinds = a.0; number = b.0; wide = λ wide. both_sizes w wide c.0 c.1 }
  where
    both_sizes : (w : Bool → Bool) (wide : Bool) → w true ≡ true → w false ≡ true → w wide ≡ true
    both_sizes w true t f = t
    both_sizes w false t f = f

meaning_well_formed : (big : Bool) (head : Head) (address : Addressing) (v1 v2 v3 : ℕ)
    → is_row_with head address.modrm ≡ true → IsWellFormed (insn_of_pieces big head address v1 v2 v3)
unfolding insn_of
meaning_well_formed big head address v1 v2 v3 e =
    let r = row_with head address.modrm in
    let wide = wide_of big head in
    let addr32 = addr32_of big head in
    let s = suits_row r (row_has_op head.prefixes.lock r (in_memory address.modrm) e)
    (every_row_suits head.map head.opcode (reg_of address.modrm)) in
    let a = operand head wide addr32 address r.first v1 in
    let b = operand head wide addr32 address r.second v2 in
    let one = kind_in (λ a. all_of (λ b. all_of (λ c. suits (op_of r) a b c) (kinds r.third)) (kinds r.second)) head wide
    addr32 address r.first v1 s.kinds in
    let two = kind_in (λ b. all_of (λ c. suits (op_of r) (operand_kind a) b c) (kinds r.third)) head wide addr32 address r.second
    v2 one in
    let three = kind_in (λ c. suits (op_of r) (operand_kind a) (operand_kind b) c) head wide addr32 address r.third v3 two in
    record {
      kinds = three;
      number = s.number;
      width = row_is_width wide r.first r.second;
      wide = s.wide wide;
      first = good_operand head wide addr32 address r.first v1;
      second = good_operand head wide addr32 address r.second v2;
      third = good_operand head wide addr32 address r.third v3;
      locked = locked_memory head wide addr32 address v1 e;
    }

pub well_formed : (insn : Insn) → IsInsn insn → IsWellFormed insn
well_formed insn i =
    let s = i.2 in
    let p = s.pieces in
    subst IsWellFormed (sym s.means)
    (meaning_well_formed i.0 (head_of p) (addressing_of p) (little_endian p.first) (little_endian p.second)
    (little_endian p.third) s.are_row.has_row)
