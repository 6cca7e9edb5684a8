use Rattle.timer_run.proofs.{RoundLaws.{round_touches}, laws.every_touch_of_a_round_is_held.Goals.{returns as goal}}

pub returns : goal
returns c = round_touches c.every_touch_of_a_watched_turn_is_held.ensures
