use Rattle.std.proofs.Common.{◌≡◌, ◌≤◌, ◌+◌, ◌-◌, None}
use Rattle.client_world.specs.declared.limits.TheConstants.{MAX_STEPS}
use Rattle.host_run.specs.View.{machine_view}
use Rattle.pair_run.specs.Run.{turns_of}
use Rattle.watch_run.specs.Turn.{HasUnwatchedWindow, turn_with_watchpoints}
use Rattle.dpmi_cli.proofs.watched_host.WatchedHostTurns.go.Given as goal

abbrev pub invariant-loop-count : goal.invariant-loop-count
invariant-loop-count l = record {
  world : record { host = l.self.host.world; watching = l.self.watches }
      ≡ turns_of turn_with_watchpoints l.count (record { host = l.initial.self.host.world; watching = l.initial.self.watches });
  room : l.self.host.world.steps + (l.n - l.count) ≤ MAX_STEPS;
  no_exit : l.self.host.world.exit ≡ None;
  window : HasUnwatchedWindow (machine_view l.self.host) l.self.watches l.window;
}
