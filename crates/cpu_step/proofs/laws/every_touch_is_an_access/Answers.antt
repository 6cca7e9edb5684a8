use Rattle.cpu_step.proofs.{Joined.{touches_join, touches_inside}, EventTouches.{written_touches_are}}
use Rattle.cpu_step.proofs.laws.every_touch_is_an_access.Goals.{returns as goal}

pub returns : goal
returns c = record { places = touches_join; written = written_touches_are; inside = touches_inside }
