-- A client's turns, with its watchpoints, and with a timer or without one. Source: own.
use Rattle.std.specs.{Prelude.{ℕ, zero, suc, None, Some}, declared.option.Option.{Option}}
use Rattle.client_world.specs.{WatchWorld.{host_without_watches}, World.{HostWorld}}
use Rattle.dpmi_calls.specs.Clients.{ClientGiven, client_at_start, timer_given}
use Rattle.timer_run.specs.Rounds.{TimedWorld, round_with_timer, with_new_timer}
use Rattle.watch_run.specs.Turn.{turn_with_watchpoints}

-- one turn without a timer, or one round with it
abbrev pub next_turn : Option ℕ → TimedWorld → TimedWorld
next_turn None w = record w { watched = turn_with_watchpoints w.watched }
next_turn (Some every) w = round_with_timer every w

-- the world after that many
unfoldable pub turns_from : Option ℕ → TimedWorld → ℕ → TimedWorld
turns_from timer w zero = w
turns_from timer w (suc n) = next_turn timer (turns_from timer w n)

-- before the first turn of a client that starts in this host
abbrev pub before_turns : HostWorld → TimedWorld
before_turns h = with_new_timer (host_without_watches h)

-- the host after that many turns; after an exit nothing changes
abbrev pub host_after : Option ℕ → HostWorld → ℕ → HostWorld
host_after timer h n = (turns_from timer (before_turns h) n).watched.host

-- ---- a client's, with its timer

-- the world of a client after that many turns
abbrev pub client_after : ClientGiven → ℕ → TimedWorld
client_after c n = turns_from (timer_given c.timer) (before_turns (client_at_start c 0)) n

-- its host then
abbrev pub host_of : ClientGiven → ℕ → HostWorld
host_of c n = host_after (timer_given c.timer) (client_at_start c 0) n
