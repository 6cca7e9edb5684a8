use Rattle.std.proofs.Common.{◌≡◌, None}
use Rattle.dpmi_calls.specs.Runs.{IsRun}
use Rattle.dpmi_calls.proofs.run.ClientRun.make_turns.Given as goal

abbrev pub invariant-loop-done : goal.invariant-loop-done
invariant-loop-done l =
    IsRun l.self × (l.self.client ≡ l.fn.self.client) × (l.self.turns ≡ l.done) × (l.self.host.world.exit ≡ None)
