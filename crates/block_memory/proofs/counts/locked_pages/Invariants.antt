use Rattle.std.proofs.Common.{◌≡◌}
use Rattle.std.specs.List.{range_with_len}
use Rattle.guest_ram.specs.Count.{total}
use Rattle.block_memory.specs.BlockSizes.{locked_of}
use Rattle.host_memory.specs.Layout.{handles_part, locks_part}
use Rattle.block_memory.proofs.counts.locked_pages.Given as goal

abbrev pub invariant-loop-place : goal.invariant-loop-place
invariant-loop-place l = record { so_far : l.locked ≡ total (locked_of (handles_part l.ram) (locks_part l.ram)) (range_with_len 0 l.place) }
