use Rattle.{std.proofs.Common.{rules}, insn_plan.specs.Registers.{with_register}}
use Rattle.insn_plan.proofs.operands.put_register.Goals.{returns-after-high as goal}

pub returns-after-high : goal
unfolding with_register
returns-after-high c = search rules
