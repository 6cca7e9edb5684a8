use Rattle.{std.proofs.Common.{◌∙◌, sym}, client_world.specs.declared.host_frames.TheConstants.{DESCRIPTORS}}
use Rattle.{dos_blocks.specs.Blocks.{descriptor_of_block}, service_rows.proofs.RunLaws.{index_found, index_missed, index_passed}}
use Rattle.dos_blocks.proofs.BlockRuns.{is_of_block}
use Rattle.dos_blocks.proofs.selectors.descriptor_of_block.Goals as goal

pub returns-then-is_of_block : goal.returns-then-is_of_block
unfolding descriptor_of_block
returns-then-is_of_block c =
    sym (sym c.loop-index.invariant ∙ index_found (is_of_block c.args.m.now.world.descriptors c.args.segment) c.loop-index.index DESCRIPTORS
    c.loop-index-test.true (sym c.is_of_block.ensures ∙ c.if-is_of_block.true))

pub loop-index-preserved : goal.loop-index-preserved
loop-index-preserved c =
    sym (index_passed (is_of_block c.args.m.now.world.descriptors c.args.segment) c.loop-index.index DESCRIPTORS c.loop-index-test.true
    (sym c.is_of_block.ensures ∙ c.if-is_of_block.false))
    ∙ c.loop-index.invariant

pub returns : goal.returns
unfolding descriptor_of_block
returns c =
    sym (sym c.loop-index.invariant
    ∙ index_missed (is_of_block c.args.m.now.world.descriptors c.args.segment) c.loop-index.index DESCRIPTORS
    c.loop-index-test.false)
