use Rattle.std.proofs.Common.{◌≡◌, ◌≤◌, ◌+◌, None}
use Rattle.pair_run.specs.Run.{turns_of}
use Rattle.unit_tests.specs.Scripted.{scripted_turn, scripted_world}
use Rattle.unit_tests.proofs.turns.ScriptedTurns.go.Given as goal

abbrev pub invariant-loop-count : goal.invariant-loop-count
invariant-loop-count l = record {
  world : scripted_world l.self.script.now l.self.console.items l.self.steps l.self.exit
      ≡ turns_of scripted_turn l.count
      (scripted_world l.initial.self.script.now l.initial.self.console.items l.initial.self.steps l.initial.self.exit);
  few : l.self.steps ≤ l.initial.self.steps + l.count;
  was_on : l.self.exit ≡ None → l.initial.self.exit ≡ None;
}
