use Rattle.{std.proofs.Common.{rules}, block_memory.proofs.counts.is_locked.Goals.{returns as goal}}

pub returns : goal
returns c = search rules
