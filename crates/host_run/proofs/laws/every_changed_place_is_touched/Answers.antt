use Rattle.host_run.proofs.Touches.{pushed_by_turn, written_by_turn}
use Rattle.host_run.proofs.laws.every_changed_place_is_touched.Goals as goal

pub returns-clause-written : goal.returns-clause-written
returns-clause-written c = written_by_turn c.every_written_place_is_touched_and_held.ensures.touched

pub returns-clause-pushed : goal.returns-clause-pushed
returns-clause-pushed c = pushed_by_turn c.every_written_place_is_touched_and_held.ensures.pushed_touched
