-- Shifts and rotates, and the double shifts. An operand in memory is written back also where the count is 0.
-- Source: 80386 Programmer's Reference Manual, ch. 17, "RCL/RCR/ROL/ROR", "SAL/SAR/SHL/SHR", SHLD, SHRD; that a count of 0 writes is own.
use Rattle.std.specs.Prelude.{ℕ}
use Rattle.client_world.specs.{declared.registers.Flags.{Flags}, World.{World}}
use Rattle.cpu_values.specs.Word.{cut}
use Rattle.insn_forms.specs.declared.insn.Insn.{Insn}
use Rattle.insn_plan.specs.{Act.{Act, ◌>>=◌, done, with_flags}, Operands.{source, put_operand}}
use Rattle.exec_core.specs.Arithmetic.{Formula}

-- SHL, SHR, SAR, ROL, ROR, RCL, RCR: the first operand moved by the count in the second, a byte
unfoldable pub shift : Formula → World → Insn → Act
shift formula w i = do
  a ← source w.regs i.addr32 i.width i.first
  count ← source w.regs i.addr32 8 i.second
  let result = formula i.width (cut i.width a) (cut 8 count) w.regs.flags
  done (put_operand w.regs i.addr32 i.width i.first result.0 (with_flags result.1 w))

-- a formula of SHLD or SHRD
abbrev pub DoubleFormula : Type 0
DoubleFormula = ℕ → ℕ → ℕ → ℕ → Flags → ℕ × Flags

-- SHLD, SHRD: bits of the second operand come in, by the count in the third
unfoldable pub shift_in : DoubleFormula → World → Insn → Act
shift_in formula w i = do
  a ← source w.regs i.addr32 i.width i.first
  b ← source w.regs i.addr32 i.width i.second
  count ← source w.regs i.addr32 8 i.third
  let result = formula i.width (cut i.width a) (cut i.width b) (cut 8 count) w.regs.flags
  done (put_operand w.regs i.addr32 i.width i.first result.0 (with_flags result.1 w))
