use Rattle.{std.proofs.Common.{arith, sym, ap, ◌∙◌}, unit_tests.specs.Scripted.{scripted_turn, scripted_world}}
use Rattle.pair_run.proofs.OwnRuns.{turns_more, turns_none}
use Rattle.unit_tests.proofs.turns.ScriptedTurns.go.Goals as goal

pub loop-count-init : goal.loop-count-init
loop-count-init c = record { world = sym (turns_none scripted_turn _); few = omega arith; was_on = λ none. none }

pub loop-count-preserved : goal.loop-count-preserved
loop-count-preserved c = record {
  world = c.take_turn.ensures.world ∙ ap scripted_turn c.loop-count.invariant.world
      ∙ sym (turns_more scripted_turn c.loop-count.count
      (scripted_world c.args.self.now.script.now c.args.self.now.console.items c.args.self.now.steps c.args.self.now.exit));
  few = omega (arith, c.take_turn.ensures.few);
  was_on = λ none. c.loop-count.invariant.was_on (c.take_turn.ensures.was_on none);
}
