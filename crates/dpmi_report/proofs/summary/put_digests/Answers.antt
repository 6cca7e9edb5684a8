use Rattle.dpmi_io.proofs.Output.{puts_cut, puts_then}
use Rattle.dpmi_report.proofs.summary.put_digests.Goals as goal

pub returns-in_err-put_console_digest : goal.returns-in_err-put_console_digest
returns-in_err-put_console_digest g c = puts_cut _ _ c.from_residual.ensures.0 c.in_err-put_console_digest.ensures

pub returns : goal.returns
returns g c = puts_then _ c.in_ok-put_console_digest.ensures c.put_dos_of.ensures
