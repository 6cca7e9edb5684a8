use Rattle.block_memory.proofs.BlockRuns.{Extending}
use Rattle.block_memory.proofs.blocks.extend_block.Given as goal

abbrev pub invariant-loop-n : goal.invariant-loop-n
invariant-loop-n l = Extending l.fn.ram l.ram l.place l.base l.from l.n l.to
