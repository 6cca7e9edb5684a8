-- A run: turns up to an exit, or as many as its bound. Source: own.
use Rattle.std.specs.Prelude.{ℕ, None, Some, zero, suc}
use Rattle.client_world.specs.{declared.outcome.Exit.TheVariants.{Bound}, World.{HostWorld}}
use Rattle.host_run.specs.Turn.{turn}

-- the world after that many turns
unfoldable pub turns : HostWorld → ℕ → HostWorld
turns w zero = w
turns w (suc n) = turn (turns w n)

-- a world without an exit ends with the bound of its run
abbrev pub with_bound_exit : HostWorld → HostWorld
with_bound_exit w = elim w.exit [ Some _ ↦ w | None ↦ record w { exit = Some Bound } ]

-- the world at the end of a run of at most that many turns
abbrev pub run : HostWorld → ℕ → HostWorld
run w n = with_bound_exit (turns w n)
