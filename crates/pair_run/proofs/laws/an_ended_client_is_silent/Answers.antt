use Rattle.pair_run.proofs.{OwnRuns.{client_of}, SliceTexts.{silent_slice}, laws.an_ended_client_is_silent.Goals.{returns as goal}}

pub returns : goal
returns g c w n bound k m le ended =
    silent_slice (client_of g.met.T.Turns.ended_stays g.met.T.Turns.turn_is_counted g.met.T.Turns.console_extends) w n bound k m le ended
