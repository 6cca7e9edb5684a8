use Rattle.{std.proofs.Common.{rules}, insn_plan.specs.Act.{value_of}}
use Rattle.insn_plan.proofs.read.number_or_fault.Goals.{returns-in_ok-read-in-1 as goal}

pub returns-in_ok-read-in-1 : goal
unfolding value_of
returns-in_ok-read-in-1 c = search rules
