use Rattle.dpmi_io.proofs.Output.{puts_cut, puts_then}
use Rattle.dpmi_report.proofs.summary.write_summary.Goals as goal

pub returns-in_err-put_counts : goal.returns-in_err-put_counts
returns-in_err-put_counts g c = puts_cut _ _ c.from_residual.ensures.0 c.in_err-put_counts.ensures

pub returns : goal.returns
returns g c = puts_then _ c.in_ok-put_counts.ensures c.put_digests.ensures
