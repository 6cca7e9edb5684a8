use Rattle.block_memory.proofs.BlockCalls.{block_resized, grows_after, moves_after, sizing}
use Rattle.block_memory.proofs.blocks.resize_block.Goals as goal

pub block_row-from-requires : goal.block_row-from-requires
block_row-from-requires c =
    record { budget = c.requires.budget; holds = c.requires.holds; within = c.requires.within; held = c.requires.can.held }

pub cut_block-requires-clause-pages : goal.cut_block-requires-clause-pages
cut_block-requires-clause-pages c =
    record { budget = c.requires.budget; holds = c.requires.holds; has = c.block_row-from.ensures c.requires.budget c.requires.holds.holds }

pub move_block-requires : goal.move_block-requires
move_block-requires c =
    let b = c.args.ram.now in
    let s = sizing b c.args.place c.block_row-from.result.0 c.block_row-from.result.1 c.args.base c.args.pages c.min-kept.result c.requires
    (c.block_row-from.ensures c.requires.budget c.requires.holds.holds) c.min-kept.ensures in
    record {
      room = moves_after b c.cut_block.new.ram c.args.place c.block_row-from.result.0 c.block_row-from.result.1 c.args.base c.args.pages
          c.min-kept.result c.requires s
          c.cut_block.ensures.block c.cut_block.ensures.pages;
    }

pub extend_block-requires-clause-room : goal.extend_block-requires-clause-room
extend_block-requires-clause-room c =
    let b = c.args.ram.now in
    let s = sizing b c.args.place c.block_row-from.result.0 c.block_row-from.result.1 c.args.base c.args.pages c.min-kept.result c.requires
    (c.block_row-from.ensures c.requires.budget c.requires.holds.holds) c.min-kept.ensures in
    grows_after b c.cut_block.new.ram c.move_block.new.ram c.args.place c.block_row-from.result.0 c.block_row-from.result.1 c.args.base
    c.args.pages c.min-kept.result
    c.requires s c.cut_block.ensures.block c.cut_block.ensures.pages c.move_block.ensures

pub returns : goal.returns
returns c =
    let b = c.args.ram.now in
    let s = sizing b c.args.place c.block_row-from.result.0 c.block_row-from.result.1 c.args.base c.args.pages c.min-kept.result c.requires
    (c.block_row-from.ensures c.requires.budget c.requires.holds.holds) c.min-kept.ensures in
    block_resized b c.cut_block.new.ram c.move_block.new.ram c.extend_block.new.ram c.args.place c.block_row-from.result.0
    c.block_row-from.result.1 c.args.base
    c.args.pages c.min-kept.result c.requires s c.cut_block.ensures.block c.move_block.ensures c.extend_block.ensures
