use Rattle.cpu_step.proofs.{Held.{touched_held}, laws.every_touched_place_is_held.Goals.{returns as goal}}

pub returns : goal
returns c = touched_held
