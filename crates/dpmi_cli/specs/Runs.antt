-- The runs of one client that the command makes: with the client's watchpoints, and with a timer where the words have one. Source: own.
use Rattle.std.specs.{Prelude.{ℕ, None, Some}, declared.option.Option.{Option}}
use Rattle.client_world.specs.World.{HostWorld}
use Rattle.timer_run.specs.Rounds.{timed_run}
use Rattle.watch_run.specs.Turn.{watched_run}

-- the host at the end of a run of at most that many turns, with a timer or without one
abbrev pub host_at_end : HostWorld → Option ℕ → ℕ → HostWorld
host_at_end h None n = watched_run h n
host_at_end h (Some every) n = timed_run every h n
