use Rattle.dpmi_io.proofs.Output.{puts_cut, puts_then}
use Rattle.dpmi_report.proofs.report.write_memory.Goals as goal

pub returns-in_err-put_blocks : goal.returns-in_err-put_blocks
returns-in_err-put_blocks g c = puts_cut _ _ c.from_residual.ensures.0 c.in_err-put_blocks.ensures

pub returns : goal.returns
returns g c = puts_then _ c.in_ok-put_blocks.ensures c.put_dos.ensures
