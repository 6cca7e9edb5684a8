use Rattle.page_tables.proofs.{FreeFrames.{frame_given}, budget.give_frame.Goals.{returns-clause-list as goal}}

pub returns-clause-list : goal
returns-clause-list c =
    frame_given c.args.ram.now c.set32.new.self c.set32-2.new.self c.set8.new.self c.args.frame c.get32-head.result
    c.taken_place-place.result c.requires.frames
    c.requires.list c.requires.budget c.requires.taken c.get32-head.ensures c.taken_place-place.ensures.place c.set32.ensures.bytes
    c.set32-2.ensures.bytes
    c.set8.ensures.bytes
