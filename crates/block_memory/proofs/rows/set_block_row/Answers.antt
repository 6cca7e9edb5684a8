use Rattle.{std.proofs.Common.{rules}, block_memory.proofs.rows.set_block_row.Goals.{returns as goal}}

pub returns : goal
returns c = search rules
