use Rattle.{std.proofs.Common.{◌+◌, ◌-◌, ◌%◌, ◌^◌, slice_index_or, arith}, guest_space.proofs.WriteRuns.{write_in_run, runs_not_refused}}
use Rattle.guest_space.proofs.machine.Machine.shift_of.Goals as goal

pub returns-clause-runs : goal.returns-clause-runs
returns-clause-runs c = λ k d within.
    write_in_run c.holds_world.ensures.processor c.args.self.now c.in_ok-seg.field-0.now.seg c.in_ok-low.low c.in_ok-low.high
    (c.in_ok-low.high - c.from-start.result) c.in_ok-at.at
    (slice_index_or c.args.writes.now k d) c.holds_world.ensures.machine c.in_ok-at.ensures (omega arith) (omega arith)
    (c.in_ok-low.ensures k d within)

pub returns-clause-none : goal.returns-clause-none
returns-clause-none c =
    runs_not_refused c.holds_world.ensures.processor c.args.self.now ((c.in_ok-at.at + (2 ^ 32 - c.in_ok-low.low)) % 2 ^ 32)
    c.args.writes.now
    c.holds_world.ensures.machine (λ k d within. (
    write_in_run c.holds_world.ensures.processor c.args.self.now c.in_ok-seg.field-0.now.seg c.in_ok-low.low c.in_ok-low.high
    (c.in_ok-low.high - c.from-start.result) c.in_ok-at.at
    (slice_index_or c.args.writes.now k d) c.holds_world.ensures.machine c.in_ok-at.ensures (omega arith) (omega arith)
    (c.in_ok-low.ensures k d within)))
