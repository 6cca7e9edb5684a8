use Rattle.dpmi_report.proofs.report.write_state_of.Goals.{returns as goal}

pub returns : goal
returns g c = rw c.machine.ensures at c.write_state.ensures
