use Rattle.std.proofs.Common.{◌≡◌, drop}
use Rattle.dos_blocks.specs.Blocks.{place_of_block}
use Rattle.dos_blocks.proofs.finding.place_of_block.Given as goal

abbrev pub invariant-loop-place : goal.invariant-loop-place
invariant-loop-place l = place_of_block l.for_dpmi (drop l.place l.m.world.arena) l.segment l.place
    ≡ place_of_block l.for_dpmi l.m.world.arena l.segment 0
