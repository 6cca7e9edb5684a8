use Rattle.std.proofs.Common.{◌≡◌, ◌-◌}
use Rattle.client_world.specs.declared.host_frames.TheConstants.{DESCRIPTORS}
use Rattle.service_rows.specs.FirstIndex.{first_index}
use Rattle.dos_blocks.proofs.BlockRuns.{is_of_block}
use Rattle.dos_blocks.proofs.selectors.descriptor_of_block.Given as goal

abbrev pub invariant-loop-index : goal.invariant-loop-index
invariant-loop-index l =
    first_index (is_of_block l.m.world.descriptors l.segment) l.index (DESCRIPTORS - l.index)
    ≡ first_index (is_of_block l.m.world.descriptors l.segment) 0 DESCRIPTORS
