use Rattle.client_world.specs.declared.memory_map.TheConstants.{SEGMENT_SIZE}
use Rattle.dos_calls.proofs.{ConsoleLaws.{nothing_added, byte_added, byte_refused, all_added}, ByteLaws.{text_all, text_next, text_end}}
use Rattle.dos_calls.proofs.ByteLaws.{text_none}
use Rattle.dos_calls.proofs.bytes.print_text.Goals as goal

pub loop-n-init : goal.loop-n-init
loop-n-init c = nothing_added _ _ _ (text_all c.args.m.now.world.dos c.args.segment c.args.offset SEGMENT_SIZE)

pub returns-then-byte-eq36 : goal.returns-then-byte-eq36
returns-then-byte-eq36 c =
    let end = all_added c.args.console.now _ c.loop-n.console _
    (text_end c.args.m.now.world.dos c.args.segment c.args.offset SEGMENT_SIZE c.loop-n.n _ c.loop-n-test.true c.byte_at-byte.ensures
    c.if-byte-eq36.true)
    c.loop-n.invariant c.limit.ensures in
    record { room = end.0; bytes = end.1 }

pub returns-then-not-add : goal.returns-then-not-add
returns-then-not-add c =
    let end = byte_refused c.args.console.now _ c.loop-n.console _ _ c.add.new.self _ c.add.result
    (text_next c.args.m.now.world.dos c.args.segment c.args.offset SEGMENT_SIZE c.loop-n.n _ c.loop-n-test.true c.byte_at-byte.ensures
    c.if-byte-eq36.false)
    c.loop-n.invariant c.add.ensures.room c.add.ensures.bytes c.if-not-add.true in
    record { room = end.0; bytes = end.1 }

pub loop-n-preserved : goal.loop-n-preserved
loop-n-preserved c =
    byte_added c.args.console.now _ c.loop-n.console _ _ c.add.new.self _ c.add.result
    (text_next c.args.m.now.world.dos c.args.segment c.args.offset SEGMENT_SIZE c.loop-n.n _ c.loop-n-test.true c.byte_at-byte.ensures
    c.if-byte-eq36.false)
    c.loop-n.invariant c.add.ensures.room c.add.ensures.bytes c.if-not-add.false

pub returns : goal.returns
returns c =
    let end = all_added c.args.console.now _ c.loop-n.console _
    (text_none c.args.m.now.world.dos c.args.segment c.args.offset SEGMENT_SIZE c.loop-n.n c.loop-n-test.false) c.loop-n.invariant
    c.limit-2.ensures in
    record { room = end.0; bytes = end.1 }
