use Rattle.std.proofs.Common.{◌≡◌, ◌+◌, ◌-◌}
use Rattle.client_world.specs.declared.limits.TheConstants.{MAX_BLOCKS}
use Rattle.service_rows.specs.FirstIndex.{first_index}
use Rattle.block_services.specs.Gaps.{is_in_way}
use Rattle.block_services.proofs.gaps.block_in_way.Given as goal

abbrev pub invariant-loop-handle : goal.invariant-loop-handle
invariant-loop-handle l =
    first_index (is_in_way l.m.world.blocks l.own l.base l.pages) l.handle (1 + MAX_BLOCKS - l.handle)
    ≡ first_index (is_in_way l.m.world.blocks l.own l.base l.pages) 1 MAX_BLOCKS
