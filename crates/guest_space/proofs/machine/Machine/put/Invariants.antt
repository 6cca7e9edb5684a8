use Rattle.std.proofs.Common.{◌≡◌, ℕ, length, drop}
use Rattle.client_world.specs.Access.{place_in, places_from}
use Rattle.guest_space.specs.Transfer.{with_places}
use Rattle.guest_space.proofs.machine.Machine.put.Given as goal

abbrev pub invariant-loop-i : goal.invariant-loop-i
invariant-loop-i l = record {
  left : with_places l.self (drop l.i (places_from l.fn.self.world.blocks l.lin (length l.bytes))) (drop l.i l.bytes)
      ≡ with_places l.fn.self (places_from l.fn.self.world.blocks l.lin (length l.bytes)) l.bytes;
  places : (at : ℕ) → place_in l.self.world.blocks at ≡ place_in l.fn.self.world.blocks at;
}
