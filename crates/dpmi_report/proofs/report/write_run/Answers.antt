use Rattle.dpmi_io.proofs.Output.{puts_cut, puts_cut_early, puts_then}
use Rattle.dpmi_report.proofs.report.write_run.Goals as goal

pub returns-in_err-put_console : goal.returns-in_err-put_console
returns-in_err-put_console g c = puts_cut_early _ _ _ c.from_residual.ensures.0 c.in_err-put_console.ensures

pub returns-in_err-put_trace : goal.returns-in_err-put_trace
returns-in_err-put_trace g c =
    puts_cut _ _ c.from_residual-in_err-put_trace.ensures.0 (puts_then _ c.in_ok-put_console.ensures c.in_err-put_trace.ensures)

pub returns : goal.returns
returns g c = puts_then _ (puts_then _ c.in_ok-put_console.ensures c.in_ok-put_trace.ensures) c.put_end.ensures
