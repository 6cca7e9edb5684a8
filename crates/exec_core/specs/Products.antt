-- Products and quotients. A double word lies in AX at 8 bits, in DX:AX at 16, and in EDX:EAX at 32.
-- Source: 80386 Programmer's Reference Manual, ch. 17, MUL, IMUL, DIV, IDIV.
use Rattle.std.specs.Prelude.{ℕ, Bool, true, false, nat_eq, if◌then◌else◌, Option, None, Some}
use Rattle.client_world.specs.{declared.faults.TheConstants.{DIVIDE_ERROR}, declared.registers.Flags.{Flags}}
use Rattle.client_world.specs.{declared.registers.Regs.{Regs}, Access.{fault_with}, World.{World}}
use Rattle.cpu_alu.specs.Products.{imul_of}
use Rattle.cpu_values.specs.Word.{cut}
use Rattle.insn_forms.specs.{declared.insn.Insn.{Insn}, declared.insn.Operand.{Operand}, declared.insn.Operand.TheVariants.{Empty}}
use Rattle.insn_plan.specs.{Act.{Act, ◌>>=◌, done, raise, unchanged, with_regs, with_flags}, Operands.{source, put_operand}}
use Rattle.insn_plan.specs.Registers.{register, with_register}

-- the register of the high half: AH at 8 bits, else (E)DX
abbrev pub high_register : ℕ → ℕ
high_register width = if nat_eq width 8 then 4 else 2

-- the registers with a double word, its low half first
abbrev pub with_double : ℕ → ℕ → ℕ → Regs → Regs
with_double width low high r = with_register (with_register r width 0 low) width (high_register width) high

-- a product of two numbers at a width: its low half, its high half, and the flags
abbrev pub Product : Type 0
Product = ℕ → ℕ → ℕ → Flags → ℕ × ℕ × Flags

-- MUL, and IMUL of one operand: the accumulator times the operand, as a double word
unfoldable pub multiply : Product → World → Insn → Act
multiply product w i = do
  a ← source w.regs i.addr32 i.width i.first
  let result = product i.width (register w.regs i.width 0) (cut i.width a) w.regs.flags
  done (with_regs (with_double i.width result.0 result.1 (record w.regs { flags = result.2 })) (unchanged w))

-- IMUL of two operands: the first one times the second, its high half dropped
unfoldable pub multiply_two : World → Insn → Act
multiply_two w i = do
  a ← source w.regs i.addr32 i.width i.first
  b ← source w.regs i.addr32 i.width i.second
  let result = imul_of i.width (cut i.width a) (cut i.width b) w.regs.flags
  done (put_operand w.regs i.addr32 i.width i.first result.0 (with_flags result.2 w))

-- IMUL of three operands: the first one becomes the second times the third
unfoldable pub multiply_three : World → Insn → Act
multiply_three w i = do
  a ← source w.regs i.addr32 i.width i.second
  b ← source w.regs i.addr32 i.width i.third
  let result = imul_of i.width (cut i.width a) (cut i.width b) w.regs.flags
  done (put_operand w.regs i.addr32 i.width i.first result.0 (with_flags result.2 w))

-- the operand isn't there
abbrev pub is_empty : Operand → Bool
is_empty Empty = true
is_empty _ = false

-- IMUL, by the number of its operands
unfoldable pub imul : World → Insn → Act
imul w i =
    if is_empty i.second then multiply imul_of w i else
    if is_empty i.third then multiply_two w i else
    multiply_three w i

-- the quotients of DIV and of IDIV: of a double word, its low half first, by a number
abbrev pub Quotient : Type 0
Quotient = ℕ → ℕ → ℕ → ℕ → Option (ℕ × ℕ)

-- DIV and IDIV: the double word by the operand. The quotient goes into its low half's register, the remainder into its high half's;
-- exception 0 where there is none
abbrev pub divided : World → ℕ → Option (ℕ × ℕ) → Act
divided w width None = raise (fault_with DIVIDE_ERROR 0)
divided w width (Some q) = done (with_regs (with_double width q.0 q.1 w.regs) (unchanged w))

unfoldable pub divide : Quotient → World → Insn → Act
divide quotient w i = do
  by ← source w.regs i.addr32 i.width i.first
  divided w i.width (quotient i.width (register w.regs i.width 0) (register w.regs i.width (high_register i.width)) (cut i.width by))
