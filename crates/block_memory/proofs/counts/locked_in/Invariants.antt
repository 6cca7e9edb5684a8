use Rattle.std.proofs.Common.{◌≡◌}
use Rattle.block_memory.specs.BlockSizes.{locked_run}
use Rattle.host_memory.specs.Layout.{locks_part}
use Rattle.block_memory.proofs.counts.locked_in.Given as goal

abbrev pub invariant-loop-page : goal.invariant-loop-page
invariant-loop-page l = record { so_far : l.count ≡ locked_run (locks_part l.ram) l.first l.page }
