use Rattle.dpmi_io.proofs.Output.{puts_cut, puts_then}
use Rattle.dpmi_report.proofs.parts.put_trace.Goals as goal

pub returns-in_err-put_trace_head : goal.returns-in_err-put_trace_head
returns-in_err-put_trace_head g c = puts_cut _ _ c.from_residual.ensures.0 c.in_err-put_trace_head.ensures

pub returns : goal.returns
returns g c = puts_then _ c.in_ok-put_trace_head.ensures c.put_events.ensures
