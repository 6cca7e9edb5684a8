use Rattle.std.proofs.Common.{◌≡◌, ◌≤◌, ◌+◌, None}
use Rattle.host_run.specs.View.{machine_view}
use Rattle.timer_run.specs.Rounds.{timed_rounds}
use Rattle.watch_run.specs.Turn.{HasUnwatchedWindow}
use Rattle.timer_run.proofs.rounds.timed_run.Given as goal

abbrev pub invariant-loop-count : goal.invariant-loop-count
invariant-loop-count l =
    (record { watched = record { host = l.host.world; watching = l.watches }; count = l.timer.count; waits = l.timer.waits }
    ≡ timed_rounds l.every l.fn.host.world l.count)
    × (l.timer.every ≡ l.every)
    × (l.host.world.steps ≤ l.fn.host.world.steps + l.count)
    × (l.host.world.exit ≡ None)
    × HasUnwatchedWindow (machine_view l.host) l.watches l.window
