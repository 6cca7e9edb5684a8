use Rattle.std.proofs.Common.{◌≡◌}
use Rattle.std.specs.List.{range_with_len}
use Rattle.guest_ram.specs.Count.{total}
use Rattle.host_memory.specs.Layout.{handles_part, pages_of}
use Rattle.block_memory.proofs.counts.used_pages.Given as goal

abbrev pub invariant-loop-place : goal.invariant-loop-place
invariant-loop-place l = record { so_far : l.used ≡ total (pages_of (handles_part l.ram)) (range_with_len 0 l.place) }
