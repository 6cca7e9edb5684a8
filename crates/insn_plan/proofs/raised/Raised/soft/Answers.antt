use Rattle.{std.proofs.Common.{rules}, insn_plan.proofs.raised.Raised.soft.Goals.{returns as goal}}

pub returns : goal
returns c = search rules
