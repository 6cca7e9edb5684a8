use Rattle.{std.proofs.Common.{◌∙◌, refl}, dpmi_report.specs.Trace.{trace_row}}
use Rattle.dpmi_report.proofs.Sequence.{gains_none, row_cut, row_gained}
use Rattle.dpmi_report.proofs.parts.put_first_events.Goals as goal

pub loop-i-init : goal.loop-i-init
loop-i-init g c = (gains_none (trace_row c.args.host.now.world.kept) _, refl)

pub loop-i-preserved : goal.loop-i-preserved
loop-i-preserved g c = (
  row_gained (trace_row c.args.host.now.world.kept) c.loop-i.i _ _ _ c.loop-i.invariant.0 c.in_ok-put_event.ensures.whole,
  c.in_ok-put_event.ensures.quiet ∙ c.loop-i.invariant.1,
)

pub returns-in_err-put_event : goal.returns-in_err-put_event
returns-in_err-put_event g c =
    row_cut (trace_row c.args.host.now.world.kept) c.loop-i.i c.args.kept _ c.from_residual.ensures.0 c.loop-i-test.true
    c.loop-i.invariant.0
    c.loop-i.invariant.1 c.in_err-put_event.ensures
