use Rattle.{std.proofs.Common.{rules}, block_memory.proofs.blocks.base_of_pages.Goals.{returns-then-pages-eq0 as goal}}

pub returns-then-pages-eq0 : goal
returns-then-pages-eq0 c = search rules
