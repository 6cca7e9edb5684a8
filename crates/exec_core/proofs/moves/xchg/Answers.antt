use Rattle.{std.proofs.Common.{rules}, exec_core.specs.Moves.{xchg}, insn_plan.specs.Plan.{after_plan}}
use Rattle.exec_core.proofs.moves.xchg.Goals.{returns as goal}

pub returns : goal
unfolding xchg after_plan
returns c = search rules
