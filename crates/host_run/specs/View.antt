-- A host as contracts see it: its world, and the bytes of its machine's memory, which hold the machine's part of it; and how a turn's work
-- ends. Source: own.
use Rattle.std.specs.{Prelude.{◌≡◌, ◌≤◌, ◌+◌, ◌*◌, ℕ, List, MatchResult}, declared.result.Result.{Result}}
use Rattle.client_world.specs.{declared.outcome.Exit.{Exit}, World.{HostWorld}}
use Rattle.host_memory.specs.View.{MachineView}
use Rattle.host_run.specs.Turn.{Outcome, goes_on, ends}

pub record HostView : Type 0 where
  pub world : HostWorld
  pub bytes : List ℕ

-- its machine
abbrev pub machine_view : HostView → MachineView
machine_view h = record { world = h.world.machine; bytes = h.bytes }

-- the trace has room for the two lines that a turn may add
abbrev pub HasRoom : HostWorld → Type 0
HasRoom h = h.lines + 2 ≤ 2 * h.steps

-- the result of some work in a turn, and the host after it, are what was expected: the run goes on; or it ends, and the memory is as it
-- was. It counts no turn and sets no exit
abbrev pub ComesTo : HostView → HostView → Result (Unit {0}) Exit → Outcome → Type 0
ComesTo old new result expected =
    (new.world.steps ≡ old.world.steps)
    × (new.world.exit ≡ old.world.exit)
    × MatchResult result (λ _. expected ≡ goes_on new.world) (λ exit. (expected ≡ ends new.world exit) × (new.bytes ≡ old.bytes))
