use Rattle.std.proofs.Common.{◌≡◌, ◌≤◌, ◌+◌, None}
use Rattle.host_run.specs.View.{machine_view}
use Rattle.watch_run.specs.Turn.{HasUnwatchedWindow, turns_with_watchpoints}
use Rattle.watch_run.proofs.turn.run_with_watchpoints.Given as goal

abbrev pub invariant-loop-count : goal.invariant-loop-count
invariant-loop-count l =
    (record { host = l.h.world; watching = l.w } ≡ turns_with_watchpoints (record { host = l.fn.h.world; watching = l.fn.w }) l.count)
    × (l.h.world.steps ≤ l.fn.h.world.steps + l.count)
    × (l.h.world.exit ≡ None)
    × HasUnwatchedWindow (machine_view l.h) l.w l.window
