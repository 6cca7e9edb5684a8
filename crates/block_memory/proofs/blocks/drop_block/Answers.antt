use Rattle.block_memory.proofs.BlockCalls.{dropped}
use Rattle.block_memory.proofs.blocks.drop_block.Goals as goal

pub cut_block-requires-clause-pages : goal.cut_block-requires-clause-pages
cut_block-requires-clause-pages c =
    record { budget = c.requires.budget; holds = c.requires.holds; has = c.block_row-base.ensures c.requires.budget c.requires.holds.holds }

pub returns : goal.returns
returns c = dropped c.args.ram.now c.cut_block.new.ram c.args.place c.cut_block.ensures.block
