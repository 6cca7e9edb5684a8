use Rattle.watch_run.proofs.WatchedTurns.{turn_calls, turns_calls}
use Rattle.watch_run.proofs.laws.every_watched_turn_changes_the_innermost_record_at_most.Goals.{returns as goal}

pub returns : goal
returns c = record { turn = turn_calls; turns = turns_calls }
