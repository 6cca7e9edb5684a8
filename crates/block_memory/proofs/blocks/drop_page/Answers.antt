use Rattle.{block_memory.proofs.BlockSteps.{can_give, is_mapped, page_removed, tables_there}, std.proofs.Common.{◌+◌, rules}}
use Rattle.block_memory.proofs.blocks.drop_page.Goals as goal

pub unmap-frame-requires-clause-tables : goal.unmap-frame-requires-clause-tables
unmap-frame-requires-clause-tables c = tables_there c.args.ram.now c.args.place c.args.base (c.args.n + 1) c.requires.pages

pub unmap-frame-requires-clause-mapped : goal.unmap-frame-requires-clause-mapped
unmap-frame-requires-clause-mapped c = is_mapped c.args.ram.now c.args.place c.args.base c.args.n c.requires.pages

pub give_frame-requires : goal.give_frame-requires
give_frame-requires c =
    let give = can_give c.args.ram.now c.args.place c.args.base c.args.n c.requires.pages c.unmap-frame.new.ram c.unmap-frame.ensures.bytes
    c.unmap-frame.result c.unmap-frame.ensures.frame in
    record { frames = search rules; list = give.list; budget = give.is; taken = give.taken; unmapped = give.nowhere }

pub returns : goal.returns
returns c =
    page_removed c.args.ram.now c.unmap-frame.new.ram c.give_frame.new.ram c.set16.new.self c.set_block_row.new.ram c.args.place
    c.args.base c.args.n
    c.unmap-frame.result c.base_of_pages.result c.requires.pages c.unmap-frame.ensures.bytes c.give_frame.ensures.bytes
    c.unmap-frame.ensures.frame
    c.set16.ensures.bytes c.set_block_row.ensures c.base_of_pages.ensures
