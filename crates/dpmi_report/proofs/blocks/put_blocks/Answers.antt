use Rattle.dpmi_io.proofs.Output.{puts_cut, puts_then}
use Rattle.dpmi_report.proofs.blocks.put_blocks.Goals as goal

pub returns-in_err-put_blocks_head : goal.returns-in_err-put_blocks_head
returns-in_err-put_blocks_head g c = puts_cut _ _ c.from_residual.ensures.0 c.in_err-put_blocks_head.ensures

pub returns : goal.returns
returns g c = puts_then _ c.in_ok-put_blocks_head.ensures c.put_block_rows.ensures
