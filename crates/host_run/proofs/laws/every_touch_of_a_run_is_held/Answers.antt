use Rattle.{host_run.specs.Run.{turns}, host_run.proofs.laws.every_touch_of_a_run_is_held.Goals.{returns as goal}}

pub returns : goal
returns c = λ w n. c.every_touch_is_held.ensures (turns w n)
