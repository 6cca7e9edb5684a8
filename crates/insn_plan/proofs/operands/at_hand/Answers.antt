use Rattle.{std.proofs.Common.{rules}, insn_plan.specs.{Operands.{source}, Act.{value_of}}}
use Rattle.insn_plan.proofs.operands.at_hand.Goals.{returns-then-own-width as goal}

pub returns-then-own-width : goal
unfolding source value_of
returns-then-own-width c = search rules
