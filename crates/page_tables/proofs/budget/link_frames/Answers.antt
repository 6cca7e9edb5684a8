use Rattle.{std.proofs.Common.{◌+◌, ◌-◌, ◌/◌, arith}, client_world.specs.declared.host_frames.TheConstants.{PAGE_SIZE}}
use Rattle.page_tables.proofs.FreeFrames.{all_linked, one_linked}
use Rattle.page_tables.proofs.budget.link_frames.Goals as goal

pub loop-linked-preserved : goal.loop-linked-preserved
loop-linked-preserved c =
    let more = c.loop-linked-test.true in let size = c.len-frames.ensures in
    one_linked c.args.ram.now c.loop-linked.ram c.set32.new.self c.loop-linked.first
    (c.len-frames.result / PAGE_SIZE - c.loop-linked.linked)
    (c.len-frames.result / PAGE_SIZE) (c.len-frames.result / PAGE_SIZE - 1 - c.loop-linked.linked)
    (c.len-frames.result / PAGE_SIZE - (c.loop-linked.linked + 1))
    c.loop-linked.invariant (omega arith) (omega arith) (omega arith) (omega arith) c.set32.ensures.bytes

pub returns-clause-list : goal.returns-clause-list
returns-clause-list c =
    let last = c.loop-linked-test.false in let end = c.loop-linked.auto.linked-end in let host = c.requires.frames.host in
    let size = c.len-frames.ensures in
    all_linked c.args.ram.now c.loop-linked.ram c.set32-2.new.self c.loop-linked.first
    (c.len-frames.result / PAGE_SIZE - c.loop-linked.linked)
    (c.len-frames.result / PAGE_SIZE) c.requires.frames c.requires.free (omega arith) (omega arith) c.loop-linked.invariant
    c.set32-2.ensures.bytes
