use Rattle.{std.proofs.Common.{rules}, insn_plan.specs.Plan.{after_commit}}
use Rattle.insn_plan.proofs.next.Next.settle.Goals.{returns-in_err-write_all as goal}

pub returns-in_err-write_all : goal
unfolding after_commit
returns-in_err-write_all c = search rules
