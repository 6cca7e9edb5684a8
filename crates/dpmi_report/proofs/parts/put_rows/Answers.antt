use Rattle.{std.proofs.Common.{◌∙◌, refl}, client_world.specs.declared.host_frames.TheConstants.{DESCRIPTORS}}
use Rattle.{dpmi_report.specs.Lines.{desc_row}, dpmi_report.proofs.Sequence.{gains_none, row_cut, row_gained}}
use Rattle.dpmi_report.proofs.parts.put_rows.Goals as goal

pub loop-index-init : goal.loop-index-init
loop-index-init g c = (gains_none (desc_row c.args.machine.now.world.descriptors) _, refl)

pub loop-index-preserved : goal.loop-index-preserved
loop-index-preserved g c = (
  row_gained (desc_row c.args.machine.now.world.descriptors) c.loop-index.index _ _ _ c.loop-index.invariant.0
      c.in_ok-put_row.ensures.whole,
  c.in_ok-put_row.ensures.quiet ∙ c.loop-index.invariant.1,
)

pub returns-in_err-put_row : goal.returns-in_err-put_row
returns-in_err-put_row g c =
    row_cut (desc_row c.args.machine.now.world.descriptors) c.loop-index.index DESCRIPTORS _ c.from_residual.ensures.0
    c.loop-index-test.true c.loop-index.invariant.0
    c.loop-index.invariant.1 c.in_err-put_row.ensures
