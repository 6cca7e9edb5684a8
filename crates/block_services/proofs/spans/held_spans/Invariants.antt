use Rattle.std.proofs.Common.{◌≡◌}
use Rattle.block_services.specs.Spans.{held_spans}
use Rattle.block_services.proofs.spans.held_spans.Given as goal

abbrev pub invariant-loop-place : goal.invariant-loop-place
invariant-loop-place l = l.spans.items ≡ held_spans l.m.world.blocks l.place
