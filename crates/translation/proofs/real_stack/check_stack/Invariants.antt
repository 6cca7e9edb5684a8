use Rattle.std.proofs.Common.{◌≡◌, ◌-◌, ◌<◌}
use Rattle.client_world.specs.declared.memory_map.TheConstants.{SEGMENT_SIZE}
use Rattle.translation.specs.RealStack.{are_writable_words}
use Rattle.translation.proofs.real_stack.check_stack.Given as goal

abbrev pub invariant-loop : goal.invariant-loop
invariant-loop l = record {
  fits : l.at < SEGMENT_SIZE;
  writable : are_writable_words l.segment l.offset l.n ≡ are_writable_words l.segment l.at (l.n - l.counter);
}
