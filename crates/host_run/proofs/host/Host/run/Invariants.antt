use Rattle.std.proofs.Common.{◌≡◌, ◌≤◌, ◌+◌, None}
use Rattle.host_run.specs.{Run.{turns}, View.{machine_view}, Windows.{HasWindow}}
use Rattle.host_run.proofs.host.Host.run.Given as goal

abbrev pub invariant-loop-count : goal.invariant-loop-count
invariant-loop-count l =
    (l.self.world ≡ turns l.fn.self.world l.count) × (l.self.world.steps ≤ l.fn.self.world.steps + l.count)
    × (l.self.world.exit ≡ None) × HasWindow (machine_view l.self) l.window
