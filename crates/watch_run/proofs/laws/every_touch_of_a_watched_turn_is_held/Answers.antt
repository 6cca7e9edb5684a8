use Rattle.watch_run.proofs.{WatchedTurns.{touches_held}, laws.every_touch_of_a_watched_turn_is_held.Goals.{returns as goal}}

pub returns : goal
returns c = touches_held c.every_touch_is_held.ensures
