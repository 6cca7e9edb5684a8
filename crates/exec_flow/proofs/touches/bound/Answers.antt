use Rattle.{std.proofs.Common.{rules}, exec_flow.specs.Frames.{bound}, insn_plan.specs.Accesses.{accesses_after}}
use Rattle.exec_flow.proofs.touches.bound.Goals.{returns-else-is_less_signed-2 as goal}

pub returns-else-is_less_signed-2 : goal
unfolding bound accesses_after
returns-else-is_less_signed-2 c = search rules
