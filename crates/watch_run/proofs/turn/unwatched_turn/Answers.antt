use Rattle.watch_run.proofs.turn.unwatched_turn.Goals.{returns-clause-window as goal}

pub returns-clause-window : goal
returns-clause-window c some = (c.turn_in_window.ensures.window some, c.requires.unwatched)
