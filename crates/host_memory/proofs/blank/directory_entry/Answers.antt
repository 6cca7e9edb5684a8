use Rattle.std.proofs.Common.{rules}
use Rattle.host_memory.proofs.blank.directory_entry.Goals as goal

pub returns-then-index-le-BLOCK_TABLE_FRAMES : goal.returns-then-index-le-BLOCK_TABLE_FRAMES
returns-then-index-le-BLOCK_TABLE_FRAMES c = search rules

pub returns-then-index : goal.returns-then-index
returns-then-index c = search rules
