-- Reading from left to right: a value and the bytes after it, or why there is none (own). It is a function of the bytes,
-- where the grammar is a relation; the contract of `decode` says that both are the same.
use Rattle.std.specs.Prelude.{◌≡◌, ℕ, zero, suc, ◌+◌, ◌*◌, Bool, true, false, Some, None, List, [], ◌∷◌, Result, Ok, Err, ◌==◌, ◌||◌}
use Rattle.std.specs.Prelude.{if◌then◌else◌}
use Rattle.insn_decode.specs.{declared.stop.Stop.{Stop}, declared.stop.Stop.TheVariants.{More, Invalid}}
use Rattle.insn_forms.specs.{declared.rows.OpMap.{OpMap}, declared.rows.OpMap.TheVariants.{One, Two}, declared.pieces.Prefixes.{Prefixes}}
use Rattle.insn_forms.specs.{declared.pieces.Head.{Head}, declared.pieces.Addressing.{Addressing}, declared.insn.Insn.{Insn}}
use Rattle.insn_forms.specs.{declared.rows.Form.{Form}, declared.insn.Operand.{Operand}, OpcodeMap.{opcode_row}, Prefixes.{segment_of}}
use Rattle.insn_forms.specs.{Prefixes.{repeat_of, is_prefix, or_else, rep_or_plain}, Addressing.{modrm_size, sib_size, disp_size}}
use Rattle.insn_forms.specs.{Operands.{is_row, imm_size, operand, insn_of}, Grammar.{wide_of, addr32_of, row_with, is_row_with}}
use Rattle.insn_forms.specs.declared.insn.Rep.TheVariants as reps

-- the one reading after the other; it stops where the first stops
infixl 10 ◌>>=◌
abbrev pub ◌>>=◌ : {A B : Type 0} → Result A Stop → (A → Result B Stop) → Result B Stop
(Ok x) >>= f = f x
(Err e) >>= f = Err e

-- what a function returned, seen by view, is what reading gives
abbrev pub IsReading : {X Y : Type 0} → (X → Y) → Result X Stop → Result Y Stop → Type 0
IsReading view (Ok x) read = read ≡ Ok (view x)
IsReading view (Err e) read = read ≡ Err e

-- what was read and the bytes after it, or why nothing was
abbrev pub Read : Type 0 → Type 0
Read A = Result (A × List ℕ) Stop

-- a number of n bytes, least first
unfoldable pub number_at : ℕ → List ℕ → Read ℕ
number_at zero bytes = Ok (0, bytes)
number_at (suc n) [] = Err More
number_at (suc n) (b ∷ bs) = number_at n bs >>= λ x. Ok (b + 256 * x.0, x.1)

-- what no prefix says
abbrev pub no_prefixes : Prefixes
no_prefixes = record { seg = None; operand_size = false; address_size = false; lock = false; rep = reps.Plain }

-- one more prefix; the last of a kind counts
unfoldable pub with_prefix : Prefixes → ℕ → Prefixes
with_prefix m b = record {
  seg = or_else (segment_of b) m.seg;
  operand_size = m.operand_size || b == 0x66;
  address_size = m.address_size || b == 0x67;
  lock = m.lock || b == 0xf0;
  rep = rep_or_plain (or_else (repeat_of b) (Some m.rep));
}

-- the test holds at some number below n
abbrev pub any_below : ℕ → (ℕ → Bool) → Bool
any_below zero f = false
any_below (suc n) f = f n || any_below n f

-- there is a row for some ModRM byte, or without one
unfoldable pub any_row : Head → Bool
any_row head =
    if modrm_size head.map head.opcode == 0 then is_row_with head 0
    else any_below 8 (λ reg. is_row head.prefixes.lock (opcode_row head.map head.opcode reg) true)

-- the head of an opcode after these prefixes
abbrev pub opcode_head : Prefixes → OpMap → ℕ → Head
opcode_head m map opcode = record { prefixes = m; map = map; opcode = opcode }

-- the head, if there is a row that begins so
unfoldable pub checked : Head → List ℕ → Read Head
checked head bytes = if any_row head then Ok (head, bytes) else Err Invalid

-- the opcode after 0F
unfoldable pub two_at : Prefixes → List ℕ → Read Head
two_at m [] = Err More
two_at m (b ∷ bs) = checked (opcode_head m Two b) bs

-- the opcode, whose first byte is b
unfoldable pub opcode_at : Prefixes → ℕ → List ℕ → Read Head
opcode_at m b bs = if b == 0x0f then two_at m bs else checked (opcode_head m One b) bs

-- the prefixes and the opcode; m is what the prefixes before say
unfoldable pub head_at : Prefixes → List ℕ → Read Head
head_at m [] = Err More
head_at m (b ∷ bs) = if is_prefix b then head_at (with_prefix m b) bs else opcode_at m b bs

-- the ModRM byte, or 0 where the opcode has none, if there is a row for it
unfoldable pub modrm_at : Head → List ℕ → Read ℕ
modrm_at head bytes = do
  m ← number_at (modrm_size head.map head.opcode) bytes
  if is_row_with head m.0 then Ok m else Err Invalid

-- ModRM, SIB and displacement
unfoldable pub addressing_at : Bool → Head → List ℕ → Read Addressing
addressing_at addr32 head bytes = do
  m ← modrm_at head bytes
  sib ← number_at (sib_size addr32 (row_with head m.0) m.0) m.1
  disp ← number_at (disp_size addr32 (row_with head m.0) m.0 sib.0) sib.1
  Ok (record { modrm = m.0; sib = sib.0; disp = disp.0 }, disp.1)

-- the operand of a form, with the bytes of its own
unfoldable pub operand_at : Bool → Bool → Head → Addressing → Form → List ℕ → Read Operand
operand_at wide addr32 head address form bytes = do
  n ← number_at (imm_size wide addr32 form) bytes
  Ok (operand head wide addr32 address form n.0, n.1)

-- the operands of the row, and the instruction that they make
unfoldable pub rest_at : Bool → Bool → Head → Addressing → List ℕ → Read Insn
rest_at wide addr32 head address bytes = do
  first ← operand_at wide addr32 head address (row_with head address.modrm).first bytes
  second ← operand_at wide addr32 head address (row_with head address.modrm).second first.1
  third ← operand_at wide addr32 head address (row_with head address.modrm).third second.1
  Ok (insn_of head wide addr32 (row_with head address.modrm) first.0 second.0 third.0, third.1)

-- one instruction
unfoldable pub insn_at : Bool → List ℕ → Read Insn
insn_at big bytes = do
  head ← head_at no_prefixes bytes
  address ← addressing_at (addr32_of big head.0) head.0 head.1
  rest_at (wide_of big head.0) (addr32_of big head.0) head.0 address.0 address.1
