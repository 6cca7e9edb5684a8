use Rattle.{std.proofs.Common.{rules}, insn_plan.specs.Registers.{with_register}}
use Rattle.insn_plan.proofs.registers.set_register.Goals.{returns-then-width-eq16 as goal}

pub returns-then-width-eq16 : goal
unfolding with_register
returns-then-width-eq16 c = search rules
