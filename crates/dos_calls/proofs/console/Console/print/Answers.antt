use Rattle.std.proofs.{Common.{◌+◌, drop, refl}, lemmas.List.{drop_all}}
use Rattle.dos_calls.proofs.{ConsoleLaws.{byte_added, byte_refused, all_added}, LineLaws.{rest_is}}
use Rattle.dos_calls.proofs.console.Console.print.Goals as goal

pub loop-byte-init : goal.loop-byte-init
loop-byte-init c = record { room = refl; items = refl }

pub returns-then-not-add : goal.returns-then-not-add
returns-then-not-add c =
    let end = byte_refused c.args.self.now c.args.bytes.now c.loop-byte.self _ (drop (c.loop-byte.byte-index + 1) c.args.bytes.now)
    c.add.new.self _ c.add.result
    (rest_is c.args.bytes.now c.loop-byte.byte-index c.loop-byte-test.true) c.loop-byte.invariant c.add.ensures.room c.add.ensures.bytes
    c.if-not-add.true in
    record { room = end.0; bytes = end.1 }

pub loop-byte-preserved : goal.loop-byte-preserved
loop-byte-preserved c =
    byte_added c.args.self.now c.args.bytes.now c.loop-byte.self _ (drop (c.loop-byte.byte-index + 1) c.args.bytes.now) c.add.new.self _
    c.add.result
    (rest_is c.args.bytes.now c.loop-byte.byte-index c.loop-byte-test.true) c.loop-byte.invariant c.add.ensures.room c.add.ensures.bytes
    c.if-not-add.false

pub returns : goal.returns
returns c =
    let end = all_added c.args.self.now c.args.bytes.now c.loop-byte.self _
    (drop_all c.loop-byte.byte-index c.args.bytes.now c.loop-byte-test.false) c.loop-byte.invariant c.limit.ensures in
    record { room = end.0; bytes = end.1 }
