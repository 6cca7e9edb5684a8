use Rattle.std.proofs.Common.{◌≡◌, ◌+◌, ◌-◌}
use Rattle.client_world.specs.declared.limits.TheConstants.{MAX_BLOCKS}
use Rattle.service_rows.specs.FirstIndex.{first_index}
use Rattle.block_services.proofs.SpanLists.{is_free}
use Rattle.block_services.proofs.gaps.lowest_handle.Given as goal

abbrev pub invariant-loop-handle : goal.invariant-loop-handle
invariant-loop-handle l =
    first_index (is_free l.m.world.blocks) l.handle (1 + MAX_BLOCKS - l.handle) ≡ first_index (is_free l.m.world.blocks) 1 MAX_BLOCKS
