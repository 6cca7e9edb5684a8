use Rattle.std.proofs.Common.{◌≡◌, ◌≤◌, ◌<◌, ◌-◌, ℕ, map, None}
use Rattle.dpmi_calls.specs.{Clients.{given}, Memory.{seen}, Runs.{IsRun}, Turns.{host_of}, Stops.{last_of, wanted_in}}
use Rattle.dpmi_calls.proofs.stops.find_last.Given as goal

abbrev pub invariant-loop-done : goal.invariant-loop-done
invariant-loop-done l =
    IsRun l.run × (l.run.client ≡ l.fn.run.client) × (l.run.turns ≡ l.done)
    × (l.before ≡ map (seen l.run.host.world.machine) l.wanted.bytes.now)
    × (l.last ≡ last_of (wanted_in l.wanted) (host_of (given l.fn.run.client)) l.fn.run.turns (l.done - l.fn.run.turns))
    × ((n : ℕ) → l.fn.run.turns ≤ n → n < l.done → (host_of (given l.fn.run.client) n).exit ≡ None)
