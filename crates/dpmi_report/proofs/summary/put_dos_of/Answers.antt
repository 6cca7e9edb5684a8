use Rattle.dpmi_report.proofs.summary.put_dos_of.Goals.{returns as goal}

pub returns : goal
returns g c = rw c.machine.ensures at c.put_dos.ensures
