use Rattle.{std.proofs.Common.{rules}, mode_gates.specs.Entry.{entry_registers}}
use Rattle.mode_gates.proofs.entering.entry_registers.Goals.{returns as goal}

pub returns : goal
unfolding entry_registers
returns c = search rules
