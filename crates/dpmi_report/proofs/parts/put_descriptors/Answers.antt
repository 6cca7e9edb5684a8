use Rattle.dpmi_io.proofs.Output.{puts_cut, puts_then}
use Rattle.dpmi_report.proofs.parts.put_descriptors.Goals as goal

pub returns-in_err-put_descriptors_head : goal.returns-in_err-put_descriptors_head
returns-in_err-put_descriptors_head g c = puts_cut _ _ c.from_residual.ensures.0 c.in_err-put_descriptors_head.ensures

pub returns : goal.returns
returns g c = puts_then _ c.in_ok-put_descriptors_head.ensures c.put_rows.ensures
