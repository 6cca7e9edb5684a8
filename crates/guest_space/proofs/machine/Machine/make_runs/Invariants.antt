use Rattle.std.proofs.Common.{◌≡◌, drop}
use Rattle.guest_space.specs.{Pending.{after_writes}, WriteRuns.{AreRuns}}
use Rattle.guest_space.proofs.machine.Machine.make_runs.Given as goal

abbrev pub invariant-loop-x : goal.invariant-loop-x
invariant-loop-x l = record {
  runs : AreRuns l.self l.shift l.writes;
  left : after_writes l.self (drop l.x-index l.writes) ≡ after_writes l.fn.self l.writes;
}
