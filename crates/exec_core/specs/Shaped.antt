-- What the shape of an instruction tells its row. Source: own.
use Rattle.std.specs.Prelude.{◌≡◌, ℕ, Ok}
use Rattle.client_world.specs.{declared.registers.Flags.{Flags}, World.{World}}
use Rattle.guest_space.specs.Registers.{with_registers}
use Rattle.host_memory.specs.View.{MachineView}
use Rattle.insn_forms.specs.{declared.insn.Insn.{Insn}, declared.insn.Operand.{Operand}}
use Rattle.insn_plan.specs.{Act.{value_of}, Operands.{source}, Registers.{with_register}}

-- the instruction's width is `size`, its first operand is `destination`, and its second gives b; if that is in memory, then at the width
-- `read`
pub record HasOperands (w : World) (i : Insn) (size read : ℕ) (destination : Operand) (b : ℕ) : Type 0 where
  pub width : i.width ≡ size
  pub first : i.first ≡ destination
  pub second : value_of w (source w.regs i.addr32 read i.second) ≡ Ok b

-- the machine with a result in the register n of a width, and with its flags
abbrev pub with_result : ℕ → ℕ → ℕ × Flags → MachineView → MachineView
with_result size n result v = with_registers (with_register (record v.world.regs { flags = result.1 }) size n result.0) v
