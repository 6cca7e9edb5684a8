use Rattle.std.proofs.Common.{◌≤◌, ◌<◌, ◌+◌, ℕ, slice_index}
use Rattle.client_world.specs.declared.limits.TheConstants.{MAX_STEPS}
use Rattle.dpmi_calls.proofs.states.are_in_order.Given as goal

abbrev pub invariant-loop-i : goal.invariant-loop-i
invariant-loop-i l =
    ((k : ℕ) → k + 1 < l.i → slice_index l.turns k ≤ slice_index l.turns (k + 1)) × ((k : ℕ) → k < l.i → slice_index l.turns k ≤ MAX_STEPS)
