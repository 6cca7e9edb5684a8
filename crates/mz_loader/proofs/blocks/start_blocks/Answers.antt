use Rattle.{std.proofs.Common.{rules}, mz_loader.proofs.blocks.start_blocks.Goals.{returns-then-paras-ne-MOST_PARAS as goal}}

pub returns-then-paras-ne-MOST_PARAS : goal
returns-then-paras-ne-MOST_PARAS c = search rules
