use Rattle.std.proofs.Common.{◌≡◌, ◌≤◌, take}
use Rattle.std.specs.Prelude.{count_by, nat_lt}
use Rattle.client_world.specs.World.{block_at}
use Rattle.block_memory.specs.BlockSizes.{locks_of_block}
use Rattle.dpmi_report.proofs.blocks.count_locked.Given as goal

abbrev pub invariant-loop-page : goal.invariant-loop-page
invariant-loop-page l = (l.count ≡ count_by (nat_lt 0) (take l.page (locks_of_block (block_at l.machine.world.blocks l.handle))))
    × (l.count ≤ l.page)
