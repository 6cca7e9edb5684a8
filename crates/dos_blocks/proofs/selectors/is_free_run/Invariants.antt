use Rattle.std.proofs.Common.{◌≡◌, ◌+◌, ◌-◌}
use Rattle.service_rows.specs.FreeRun.{are_free}
use Rattle.dos_blocks.proofs.selectors.is_free_run.Given as goal

abbrev pub invariant-loop-place : goal.invariant-loop-place
invariant-loop-place l = are_free l.m.world.descriptors (l.first + l.place) (l.n - l.place) ≡ are_free l.m.world.descriptors l.first l.n
