-- A machine whose registers alone are changed. Source: own.
use Rattle.client_world.specs.declared.registers.Regs.{Regs}
use Rattle.host_memory.specs.View.{MachineView}

-- the machine with other registers
abbrev pub with_registers : Regs → MachineView → MachineView
with_registers r v = record v { world = record v.world { regs = r } }
