use Rattle.fault_service.proofs.WrittenTouches.{pushed_held, pushed_touched, written_held, written_touched}
use Rattle.fault_service.proofs.laws.every_written_place_is_touched_and_held.Goals.{returns as goal}

pub returns : goal
returns c = record { touched = written_touched; pushed_touched = pushed_touched; held = written_held; pushed = pushed_held }
