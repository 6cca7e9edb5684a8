use Rattle.std.proofs.Common.{◌≡◌, drop, max}
use Rattle.dos_blocks.specs.Blocks.{largest}
use Rattle.dos_blocks.proofs.finding.largest.Given as goal

abbrev pub invariant-loop-place : goal.invariant-loop-place
invariant-loop-place l = max l.best (largest (drop l.place l.m.world.arena)) ≡ largest l.m.world.arena
