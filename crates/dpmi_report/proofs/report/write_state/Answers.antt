use Rattle.dpmi_io.proofs.Output.{puts_cut, puts_then}
use Rattle.dpmi_report.proofs.report.write_state.Goals as goal

pub returns-in_err-put_processor : goal.returns-in_err-put_processor
returns-in_err-put_processor g c = puts_cut _ _ c.from_residual.ensures.0 c.in_err-put_processor.ensures

pub returns : goal.returns
returns g c = puts_then _ c.in_ok-put_processor.ensures c.put_descriptors.ensures
