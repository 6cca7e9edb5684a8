-- The run of a client that takes turns, on its own. Source: own.
use Rattle.std.specs.{Prelude.{◌≡◌, ℕ, zero, suc, List, [], None, Some}, declared.option.Option.{Option}}
use Rattle.client_world.specs.{declared.outcome.Exit.{Exit}, WatchWorld.{WatchWorld}}

-- the world after n turns; a turn leaves a world with an exit, so these are n turns or those up to the exit
unfoldable pub turns_of : (WatchWorld → WatchWorld) → ℕ → WatchWorld → WatchWorld
turns_of turn zero w = w
turns_of turn (suc n) w = turn (turns_of turn n w)

-- a world without an exit is closed
abbrev pub closed_by : (WatchWorld → WatchWorld) → (WatchWorld → Option Exit) → WatchWorld → WatchWorld
closed_by close exit w = elim (exit w) [ None ↦ close w | Some _ ↦ w ]

-- the world at the end of a run of at most n turns
abbrev pub run_of : (WatchWorld → WatchWorld) → (WatchWorld → WatchWorld) → (WatchWorld → Option Exit) → ℕ → WatchWorld → WatchWorld
run_of turn close exit n w = closed_by close exit (turns_of turn n w)

-- the world of a client that has made no turn
pub record IsFirst (console : WatchWorld → List ℕ) (exit : WatchWorld → Option Exit) (steps : WatchWorld → ℕ) (w : WatchWorld)
    : Type 0 where
  pub no_exit : exit w ≡ None
  pub no_steps : steps w ≡ 0
  pub no_bytes : console w ≡ []
