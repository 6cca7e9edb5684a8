use Rattle.host_run.proofs.{Growth.{turn_counted, turns_counted}, laws.every_turn_is_counted.Goals.{returns as goal}}

pub returns : goal
returns c = record { turn = turn_counted; turns = turns_counted }
