use Rattle.{std.proofs.Common.{◌∙◌, refl}, client_world.specs.declared.limits.TheConstants.{MAX_BLOCKS}}
use Rattle.{dpmi_report.specs.Lines.{block_row}, dpmi_report.proofs.Sequence.{gains_none, row_cut, row_gained}}
use Rattle.dpmi_report.proofs.blocks.put_block_rows.Goals as goal

pub loop-place-init : goal.loop-place-init
loop-place-init g c = (gains_none (block_row c.args.machine.now.world.blocks) _, refl)

pub loop-place-preserved : goal.loop-place-preserved
loop-place-preserved g c = (
  row_gained (block_row c.args.machine.now.world.blocks) c.loop-place.place _ _ _ c.loop-place.invariant.0 c.in_ok-put_block.ensures.whole,
  c.in_ok-put_block.ensures.quiet ∙ c.loop-place.invariant.1,
)

pub returns-in_err-put_block : goal.returns-in_err-put_block
returns-in_err-put_block g c =
    row_cut (block_row c.args.machine.now.world.blocks) c.loop-place.place MAX_BLOCKS _ c.from_residual.ensures.0 c.loop-place-test.true
    c.loop-place.invariant.0
    c.loop-place.invariant.1 c.in_err-put_block.ensures
