use Rattle.host_run.proofs.{Touches.{touch_held}, laws.every_touch_is_held.Goals.{returns as goal}}

pub returns : goal
returns c = touch_held c.every_touched_place_is_held.ensures
