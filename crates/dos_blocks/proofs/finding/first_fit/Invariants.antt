use Rattle.std.proofs.Common.{◌≡◌, drop}
use Rattle.dos_blocks.specs.Blocks.{first_fit}
use Rattle.dos_blocks.proofs.finding.first_fit.Given as goal

abbrev pub invariant-loop-place : goal.invariant-loop-place
invariant-loop-place l = first_fit (drop l.place l.m.world.arena) l.n l.place ≡ first_fit l.m.world.arena l.n 0
