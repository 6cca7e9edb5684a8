use Rattle.{std.proofs.Common.{rules}, exec_core.specs.Stacks.{popa}, insn_plan.specs.Accesses.{accesses_after}}
use Rattle.exec_core.proofs.touches.popa.Goals.{returns as goal}

pub returns : goal
unfolding popa accesses_after
returns c = search rules
