use Rattle.std.proofs.Common.{◌≡◌, ℕ, ◌+◌, ◌<◌, length, slice_index, true, false}
use Rattle.client_world.specs.Access.{may_touch, place_in, byte_of, linear}
use Rattle.guest_space.proofs.machine.Machine.load.Given as goal

abbrev pub invariant-loop-i : goal.invariant-loop-i
invariant-loop-i g l = record {
  size : length l.bytes ≡ g.row.N;
  may : (k : ℕ) → k < l.i → may_touch (place_in l.self.world.blocks (linear (l.lin + k))) false ≡ true;
  each : (k : ℕ) → k < l.i → slice_index l.bytes k ≡ byte_of l.self.world (place_in l.self.world.blocks (linear (l.lin + k)));
}
