use Rattle.std.proofs.Common.{◌≡◌, ◌<◌, ◌+◌, ◌*◌, ℕ, length, slice_index, slice_index_or}
use Rattle.dpmi_calls.specs.{Clients.{given}, Memory.{seen}, Runs.{IsRun}, Turns.{host_of}, States.{IsState}, declared.state.State.{State}}
use Rattle.dpmi_calls.proofs.states.note_states.Given as goal

abbrev pub invariant-loop-i : goal.invariant-loop-i
invariant-loop-i l =
    IsRun l.run × (l.run.client ≡ l.fn.run.client) × (l.i ≡ 0 → l.run.turns ≡ 0)
    × ((k : ℕ) → l.i ≡ k + 1 → l.run.turns ≡ slice_index l.turns k)
    × ((k : ℕ) (other : State) → k < l.i →
    IsState (slice_index_or l.rows k other) (host_of (given l.fn.run.client) (slice_index l.turns k)))
    × ((k j : ℕ) → k < l.i → j < length l.places → slice_index l.memory (k * length l.places + j)
    ≡ seen (host_of (given l.fn.run.client) (slice_index l.turns k)).machine (slice_index l.places j))
