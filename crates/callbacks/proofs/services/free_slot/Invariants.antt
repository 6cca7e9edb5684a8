use Rattle.std.proofs.Common.{◌≡◌, ◌-◌}
use Rattle.client_world.specs.declared.limits.TheConstants.{CALLBACKS}
use Rattle.service_rows.specs.FirstIndex.{first_index}
use Rattle.callbacks.proofs.Served.{is_free}
use Rattle.callbacks.proofs.services.free_slot.Given as goal

abbrev pub invariant-loop-slot : goal.invariant-loop-slot
invariant-loop-slot l =
    first_index (is_free l.m.world.callbacks) l.slot (CALLBACKS - l.slot) ≡ first_index (is_free l.m.world.callbacks) 0 CALLBACKS
