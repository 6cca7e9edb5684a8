use Rattle.dpmi_io.proofs.Output.{puts_cut, puts_cut_early, puts_then}
use Rattle.dpmi_report.proofs.parts.put_console.Goals as goal

pub returns-in_err-put_console_head : goal.returns-in_err-put_console_head
returns-in_err-put_console_head g c = puts_cut_early _ _ _ c.from_residual.ensures.0 c.in_err-put_console_head.ensures

pub returns-in_err-put_console_bytes : goal.returns-in_err-put_console_bytes
returns-in_err-put_console_bytes g c = puts_cut _ _ c.from_residual-in_err-put_console_bytes.ensures.0
    (puts_then _ c.in_ok-put_console_head.ensures c.in_err-put_console_bytes.ensures)

pub returns : goal.returns
returns g c = puts_then _ (puts_then _ c.in_ok-put_console_head.ensures c.in_ok-put_console_bytes.ensures) c.put_line_end.ensures
