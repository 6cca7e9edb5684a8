use Rattle.{std.proofs.Common.{rules}, insn_plan.proofs.stack.pointer_down.Goals.{returns-clause-value as goal}}

pub returns-clause-value : goal
returns-clause-value c = search rules
