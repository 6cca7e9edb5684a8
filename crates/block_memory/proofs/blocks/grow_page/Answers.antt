use Rattle.{std.proofs.Common.{refl}, block_memory.proofs.BlockSteps.{can_map, frame_free, free_list, page_added}}
use Rattle.block_memory.proofs.blocks.grow_page.Goals as goal

pub take_frame-requires-clause-list : goal.take_frame-requires-clause-list
take_frame-requires-clause-list c = free_list c.args.ram.now c.requires.room.budget c.requires.room.holds.holds

pub map-requires-clause-tables : goal.map-requires-clause-tables
map-requires-clause-tables c =
    (can_map c.args.ram.now c.args.place c.args.base c.args.n c.in-Some.frame c.requires.room c.in-Some.ensures.budget c.take_frame.new.ram
    c.fill.new.self
    c.in-Some.ensures.bytes c.fill.ensures.bytes).tables

pub map-requires-clause-covered : goal.map-requires-clause-covered
map-requires-clause-covered c =
    (can_map c.args.ram.now c.args.place c.args.base c.args.n c.in-Some.frame c.requires.room c.in-Some.ensures.budget c.take_frame.new.ram
    c.fill.new.self
    c.in-Some.ensures.bytes c.fill.ensures.bytes).covered

pub map-requires-clause-unmapped : goal.map-requires-clause-unmapped
map-requires-clause-unmapped c =
    (can_map c.args.ram.now c.args.place c.args.base c.args.n c.in-Some.frame c.requires.room c.in-Some.ensures.budget c.take_frame.new.ram
    c.fill.new.self
    c.in-Some.ensures.bytes c.fill.ensures.bytes).unmapped

pub unreachable-requires : goal.unreachable-requires
unreachable-requires c = frame_free c.args.ram.now c.args.place c.args.base c.args.n c.requires.room (c.in-None.ensures.none.0 refl)

pub returns : goal.returns
returns c =
    page_added c.args.ram.now c.take_frame.new.ram c.fill.new.self c.map.new.ram c.set_block_row.new.ram c.args.place c.args.base c.args.n
    c.in-Some.frame
    c.requires.room c.in-Some.ensures.budget c.in-Some.ensures.free c.in-Some.ensures.head c.in-Some.ensures.bytes c.fill.ensures.bytes
    c.map.ensures.bytes c.set_block_row.ensures
