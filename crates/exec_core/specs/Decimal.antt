-- Decimal adjustment of AX.
-- Source: 80386 Programmer's Reference Manual, ch. 17, AAA, AAD, AAM, AAS, DAA, DAS; the formulas are those of cpu_alu.
use Rattle.std.specs.Prelude.{ℕ, Option, None, Some}
use Rattle.client_world.specs.{declared.faults.TheConstants.{DIVIDE_ERROR}, declared.registers.Flags.{Flags}}
use Rattle.client_world.specs.{declared.registers.Regs.{Regs}, Access.{fault_with}, Registers.{low_half}, World.{World}}
use Rattle.cpu_alu.specs.Decimal.{aad_of, aam_of}
use Rattle.cpu_values.specs.Word.{cut}
use Rattle.insn_forms.specs.declared.insn.Insn.{Insn}
use Rattle.insn_plan.specs.{Act.{Act, ◌>>=◌, Pending, done, raise, unchanged, with_regs}, Operands.{source}, Registers.{with_register}}

-- the registers with another AX and other flags
abbrev pub with_ax_in : Regs → ℕ × Flags → Regs
with_ax_in r result = with_register (record r { flags = result.1 }) 16 0 result.0

abbrev pub with_ax_and_flags : World → ℕ × Flags → Pending
with_ax_and_flags w result = with_regs (with_ax_in w.regs result) (unchanged w)

-- DAA, DAS, AAA, AAS
unfoldable pub adjust : (ℕ → Flags → ℕ × Flags) → World → Act
adjust formula w = done (with_ax_and_flags w (formula (low_half w.regs.eax) w.regs.flags))

-- AAD: the operand is the base
unfoldable pub aad : World → Insn → Act
aad w i = do
  base ← source w.regs i.addr32 8 i.first
  done (with_ax_and_flags w (aad_of (low_half w.regs.eax) (cut 8 base) w.regs.flags))

-- AAM: exception 0 for base 0
abbrev pub aam_done : World → Option (ℕ × Flags) → Act
aam_done w None = raise (fault_with DIVIDE_ERROR 0)
aam_done w (Some result) = done (with_ax_and_flags w result)

unfoldable pub aam : World → Insn → Act
aam w i = do
  base ← source w.regs i.addr32 8 i.first
  aam_done w (aam_of (low_half w.regs.eax) (cut 8 base) w.regs.flags)
