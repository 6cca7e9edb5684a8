-- Arithmetic and logic of two operands and of one.
-- Source: 80386 Programmer's Reference Manual, ch. 17, each under its name; the formulas are those of cpu_alu.
use Rattle.std.specs.Prelude.{ℕ}
use Rattle.client_world.specs.{declared.registers.Flags.{Flags}, World.{World}}
use Rattle.cpu_values.specs.Word.{cut}
use Rattle.insn_forms.specs.declared.insn.Insn.{Insn}
use Rattle.insn_plan.specs.{Act.{Act, ◌>>=◌, done, with_flags}, Operands.{source, put_operand}}

-- a formula of two numbers at a width, with flags
abbrev pub Formula : Type 0
Formula = ℕ → ℕ → ℕ → Flags → ℕ × Flags

-- a formula of one
abbrev pub SingleFormula : Type 0
SingleFormula = ℕ → ℕ → Flags → ℕ × Flags

-- ADD, OR, ADC, SBB, AND, SUB, XOR: the destination becomes the result of both operands
unfoldable pub binary : Formula → World → Insn → Act
binary formula w i = do
  a ← source w.regs i.addr32 i.width i.first
  b ← source w.regs i.addr32 i.width i.second
  let result = formula i.width (cut i.width a) (cut i.width b) w.regs.flags
  done (put_operand w.regs i.addr32 i.width i.first result.0 (with_flags result.1 w))

-- CMP and TEST: the flags alone
unfoldable pub compare : Formula → World → Insn → Act
compare formula w i = do
  a ← source w.regs i.addr32 i.width i.first
  b ← source w.regs i.addr32 i.width i.second
  let result = formula i.width (cut i.width a) (cut i.width b) w.regs.flags
  done (with_flags result.1 w)

-- INC, DEC, NEG, NOT: the operand becomes its own result
unfoldable pub unary : SingleFormula → World → Insn → Act
unary formula w i = do
  a ← source w.regs i.addr32 i.width i.first
  let result = formula i.width (cut i.width a) w.regs.flags
  done (put_operand w.regs i.addr32 i.width i.first result.0 (with_flags result.1 w))
