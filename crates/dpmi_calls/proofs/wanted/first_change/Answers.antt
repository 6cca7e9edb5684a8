use Rattle.{std.proofs.Common.{arith}, dpmi_calls.specs.{Memory.{seen}, Stops.{is_changed}}}
use Rattle.dpmi_calls.proofs.Places.{differs, found, not_found}
use Rattle.dpmi_calls.proofs.wanted.first_change.Goals as goal

pub returns-then-seen-before : goal.returns-then-seen-before
returns-then-seen-before c = λ w was.
    found (is_changed w c.args.m.now.world) c.args.bytes.now c.loop-i.i (c.loop-i.invariant w was) (omega (arith, c.loop-i-test.true))
    (differs (seen w) (seen c.args.m.now.world) c.args.bytes.now c.args.before.now c.loop-i.i c.seen.result was
    (omega (arith, c.loop-i-test.true)) c.seen.ensures c.if-seen-before.true)

pub returns : goal.returns
returns c = λ w was.
    not_found (is_changed w c.args.m.now.world) c.args.bytes.now c.loop-i.i (c.loop-i.invariant w was)
    (omega (arith, c.loop-i-test.false))
