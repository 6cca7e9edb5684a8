use Rattle.block_memory.proofs.BlockCalls.{block_moved, block_stays}
use Rattle.block_memory.proofs.blocks.move_block.Goals as goal

pub returns : goal.returns
returns c =
    block_moved c.args.ram.now c.slide.new.ram c.slide-2.new.ram c.set_block_row.new.ram c.args.place c.args.from c.args.base c.args.n
    c.requires.room
    c.slide.ensures.bytes c.slide-2.ensures.bytes c.set_block_row.ensures

pub returns-then-from-base : goal.returns-then-from-base
returns-then-from-base c = block_stays c.args.ram.now c.args.place c.args.from c.args.base c.args.n c.requires.room c.if-from-base.true
