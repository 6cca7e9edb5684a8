use Rattle.std.proofs.Common.{◌≡◌, ℕ, ◌+◌, ◌<◌, slice_index}
use Rattle.client_world.specs.Access.{place_in, byte_of, linear}
use Rattle.guest_space.proofs.machine.Machine.load_into.Given as goal

abbrev pub invariant-loop-i : goal.invariant-loop-i
invariant-loop-i l = (k : ℕ) → k < l.i → slice_index l.into k ≡ byte_of l.self.world (place_in l.self.world.blocks (linear (l.lin + k)))
