use Rattle.{std.proofs.Common.{rules}, insn_plan.proofs.operands.noted_place.Goals.{returns-clause-run as goal}}

pub returns-clause-run : goal
returns-clause-run c = search rules
