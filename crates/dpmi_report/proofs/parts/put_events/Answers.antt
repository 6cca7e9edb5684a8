use Rattle.dpmi_report.proofs.parts.put_events.Goals.{returns as goal}

pub returns : goal
returns g c = rw c.kept.ensures at c.put_first_events.ensures
