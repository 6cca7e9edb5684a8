use Rattle.watch_run.proofs.WatchedTurns.{counts, extends, turn_exit, turn_exit_outside}
use Rattle.watch_run.proofs.laws.every_watched_turn_is_counted.Goals.{returns as goal}

pub returns : goal
returns c = record { counted = counts; console = extends; exit = turn_exit; outside = turn_exit_outside }
