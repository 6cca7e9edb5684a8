use Rattle.std.proofs.Common.{◌≡◌, map, drop}
use Rattle.std.specs.List.{position_from}
use Rattle.client_world.specs.World.{World}
use Rattle.dpmi_calls.specs.{Memory.{seen}, Stops.{is_changed}}
use Rattle.dpmi_calls.proofs.wanted.first_change.Given as goal

abbrev pub invariant-loop-i : goal.invariant-loop-i
invariant-loop-i l = (w : World) → l.before ≡ map (seen w) l.bytes →
    position_from (is_changed w l.m.world) 0 l.bytes ≡ position_from (is_changed w l.m.world) l.i (drop l.i l.bytes)
