use Rattle.std.proofs.Common.{◌-◌, ◌≡◌, ◌≤◌, true, IsSome}
use Rattle.dpmi_io.specs.Content.{Gains}
use Rattle.pair_run.specs.{Run.{turns_of}, Slices.{both_lines, lines_text, lines_up_to, own_run}}
use Rattle.pair_run.proofs.PairTexts.{Begins}
use Rattle.pair_run.proofs.slices.run_slices.Given as goal

abbrev pub invariant-loop-done : goal.invariant-loop-done
invariant-loop-done g l =
    let world = g.T.Turns.world in
    let turn = g.T.Turns.turn in
    let run = own_run turn g.T.Turns.console_of g.T.Turns.steps_of l.bound in
    record {
      begins : Begins l.slice l.bound l.number l.done;
      few : l.number ≤ l.done;
      a : world l.a ≡ turns_of turn l.done (world l.initial.a);
      b : world l.b ≡ turns_of turn l.done (world l.initial.b);
      a_ended : l.ended ≡ true → IsSome (g.T.Turns.exit_of (world l.a));
      b_ended : l.ended ≡ true → IsSome (g.T.Turns.exit_of (world l.b));
      text : Gains (g.O.Sink.taken l.initial.out) (g.O.Sink.taken l.out)
          (lines_text (lines_up_to (both_lines l.slice (run (world l.initial.a)) (run (world l.initial.b))) l.number));
      quiet : g.O.Sink.faults l.out ≡ g.O.Sink.faults l.initial.out;
    }

abbrev pub decreases-loop-done : goal.decreases-loop-done
decreases-loop-done g l = l.bound - l.done
