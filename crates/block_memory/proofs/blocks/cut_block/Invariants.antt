use Rattle.std.proofs.Common.{◌-◌}
use Rattle.block_memory.proofs.BlockRuns.{Cutting}
use Rattle.block_memory.proofs.blocks.cut_block.Given as goal

abbrev pub invariant-loop-gone : goal.invariant-loop-gone
invariant-loop-gone l = Cutting l.fn.ram l.ram l.place l.base (l.from - l.gone)
