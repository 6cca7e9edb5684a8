use Rattle.std.proofs.Common.{arith}
use Rattle.dpmi_report.proofs.{BlockBytes.{page_below}, blocks.block_line_of.Goals.{block_digest-digest-requires-clause-few as goal}}

pub block_digest-digest-requires-clause-few : goal
block_digest-digest-requires-clause-few c =
    let below = page_below c.args.machine.now.world.blocks c.args.machine.now.world.budget c.args.handle c.args.row.base c.args.row.pages
    c.soundness.ensures.blocks c.requires in
    omega arith
