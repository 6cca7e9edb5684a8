use Rattle.dpmi_calls.proofs.{Starts.{at_turn}, run.ClientRun.advance_to.Goals.{returns-clause-run as goal}}

pub returns-clause-run : goal
returns-clause-run c =
    let made = c.make_turns.ensures in at_turn c.make_turns.new.self c.args.turn made.run made.turns made.over
