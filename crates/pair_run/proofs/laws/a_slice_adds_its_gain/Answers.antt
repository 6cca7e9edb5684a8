use Rattle.pair_run.proofs.{OwnRuns.{client_of}, SliceTexts.{slice_appends}, laws.a_slice_adds_its_gain.Goals.{returns as goal}}

pub returns : goal
returns g c w n bound k =
    slice_appends (client_of g.met.T.Turns.ended_stays g.met.T.Turns.turn_is_counted g.met.T.Turns.console_extends) w n bound k
