use Rattle.{std.proofs.Common.{rules}, insn_plan.proofs.raised.Raised.event.Goals.{returns-then-self-eq0 as goal}}

pub returns-then-self-eq0 : goal
returns-then-self-eq0 c = search rules
