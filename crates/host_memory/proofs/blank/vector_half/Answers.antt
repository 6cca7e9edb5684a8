use Rattle.{std.proofs.Common.{rules}, host_memory.proofs.blank.vector_half.Goals.{returns-then-k-eq0 as goal}}

pub returns-then-k-eq0 : goal
returns-then-k-eq0 c = search rules
