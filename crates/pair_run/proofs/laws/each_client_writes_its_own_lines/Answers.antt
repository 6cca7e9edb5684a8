use Rattle.pair_run.proofs.{OwnRuns.{client_of}, SliceTexts.{lines_of_a, lines_of_b}}
use Rattle.pair_run.proofs.laws.each_client_writes_its_own_lines.Goals as goal

pub returns-clause-a : goal.returns-clause-a
returns-clause-a g c w b n bound some first =
    lines_of_a (client_of g.met.T.Turns.ended_stays g.met.T.Turns.turn_is_counted g.met.T.Turns.console_extends) w n bound b some first

pub returns-clause-b : goal.returns-clause-b
returns-clause-b g c a w n bound some first =
    lines_of_b (client_of g.met.T.Turns.ended_stays g.met.T.Turns.turn_is_counted g.met.T.Turns.console_extends) w n bound a some first
