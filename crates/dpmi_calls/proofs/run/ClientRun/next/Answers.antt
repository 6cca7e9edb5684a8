use Rattle.{std.proofs.Common.{refl}, dpmi_calls.proofs.Starts.{stepped_plain, stepped_timed}}
use Rattle.dpmi_calls.proofs.run.ClientRun.next.Goals as goal

pub returns-in-Ok-clause-run : goal.returns-in-Ok-clause-run
returns-in-Ok-clause-run c =
    let turn = c.next_watched_turn.ensures in
    stepped_plain c.args.self.now _ c.requires.run c.in-None.is c.in-None.is refl refl turn.turn.world turn.window turn.turn.steps

pub returns-in-Err-clause-run : goal.returns-in-Err-clause-run
returns-in-Err-clause-run c =
    let turn = c.next_watched_turn.ensures in
    stepped_plain c.args.self.now _ c.requires.run c.in-None.is c.in-None.is refl refl turn.turn.world turn.window turn.turn.steps

pub returns-in-Ok-next_round-clause-run : goal.returns-in-Ok-next_round-clause-run
returns-in-Ok-next_round-clause-run c =
    let made = c.next_round.ensures in
    stepped_timed c.args.self.now _ c.in-Some.timer c.next_round.new.timer c.requires.run c.in-Some.is refl made.every refl refl
    made.round.world made.window made.round.steps

pub returns-in-Err-next_round-clause-run : goal.returns-in-Err-next_round-clause-run
returns-in-Err-next_round-clause-run c =
    let made = c.next_round.ensures in
    stepped_timed c.args.self.now _ c.in-Some.timer c.next_round.new.timer c.requires.run c.in-Some.is refl made.every refl refl
    made.round.world made.window made.round.steps
