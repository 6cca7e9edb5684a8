-- Rounds of a run with a timer. Each is the timer's part, and a turn with watchpoints where that part wasn't the whole round. Source: own.
use Rattle.std.specs.{Prelude.{ℕ, zero, suc, Bool, false, List, [], if◌then◌else◌, None, Some}, declared.result.Result.{Result}}
use Rattle.client_world.specs.{declared.outcome.Exit.{Exit}, declared.place.Place.{Place}, WatchWorld.{WatchWorld, Watching}}
use Rattle.client_world.specs.{WatchWorld.{host_without_watches}, World.{HostWorld}}
use Rattle.host_run.specs.{Footprint.{Footprint}, MakesTurn.{MakesTurn}, RealCalls.{InterruptSource, from_client, from_outside}}
use Rattle.host_run.specs.{Run.{with_bound_exit}, View.{HostView}}
use Rattle.timer_run.specs.Timer.{TimerPart, TimerState, timer_footprint, timer_part}
use Rattle.watch_run.specs.Turn.{touched_by_watch_turn, turn_with_watchpoints, watch_footprint}

-- a host with watchpoints, how many rounds the timer has counted, and whether its interrupt waits
pub record TimedWorld : Type 0 where
  pub watched : WatchWorld
  pub count : ℕ
  pub waits : Bool

-- before the first round
abbrev pub with_new_timer : WatchWorld → TimedWorld
with_new_timer w = record { watched = w; count = 0; waits = false }

-- a timer with a host and its watchpoints
abbrev pub timed : TimerState → WatchWorld → TimedWorld
timed t w = record { watched = w; count = t.count; waits = t.waits }

-- its timer
abbrev pub timer_of : ℕ → TimedWorld → TimerState
timer_of every w = record { every = every; count = w.count; waits = w.waits }

-- ---- rounds

-- after the timer's part: the round was the interrupt, or the turn is made
abbrev pub after_part : TimedWorld → TimerPart → TimedWorld
after_part w p = record {
  watched = if p.taken then record w.watched { host = p.host } else turn_with_watchpoints w.watched;
  count = p.timer.count;
  waits = p.timer.waits;
}

-- one round; after an exit nothing changes
unfoldable pub round_with_timer : ℕ → TimedWorld → TimedWorld
round_with_timer every w = elim w.watched.host.exit [
  | Some _ ↦ w
  | None ↦ after_part w (timer_part (timer_of every w) w.watched.host)
]

-- the world after that many rounds
unfoldable pub rounds : ℕ → TimedWorld → ℕ → TimedWorld
rounds every w zero = w
rounds every w (suc n) = round_with_timer every (rounds every w n)

-- whether a round is the interrupt
abbrev pub is_interrupt : ℕ → TimedWorld → Bool
is_interrupt every w = (timer_part (timer_of every w) w.watched.host).taken

-- whose interrupt a round may reflect: the timer's, which has pushed no frame, where the round is the interrupt; else the client's
abbrev pub source_of_round : ℕ → TimedWorld → InterruptSource
source_of_round every w = if is_interrupt every w then from_outside else from_client

-- the places that the client instruction of a round touches: none where the round is the interrupt
abbrev pub touched_by_round : ℕ → TimedWorld → List Place
touched_by_round every w = if is_interrupt every w then [] else touched_by_watch_turn w.watched

-- the bytes of the memory that a round may change: those of the interrupt, or those of the turn
abbrev pub round_footprint : ℕ → TimedWorld → Footprint
round_footprint every w = if is_interrupt every w then timer_footprint w.watched.host else watch_footprint w.watched

-- such a round, of a host with these watchpoints and this timer before and after it
abbrev pub MakesRound : HostView → HostView → Watching → Watching → TimerState → TimerState → Result (Unit {0}) Exit → Type 0
MakesRound old new watching watching_after timer timer_after result =
    let w = timed timer (record { host = old.world; watching = watching }) in
    let after = timed timer_after (record { host = new.world; watching = watching_after }) in
    MakesTurn old new result after (round_with_timer timer.every w) (round_footprint timer.every w)

-- ---- from a host whose client has set no watchpoint

-- the world after that many rounds
abbrev pub timed_rounds : ℕ → HostWorld → ℕ → TimedWorld
timed_rounds every h n = rounds every (with_new_timer (host_without_watches h)) n

-- the host after that many rounds
abbrev pub timed_turns : ℕ → HostWorld → ℕ → HostWorld
timed_turns every h n = (timed_rounds every h n).watched.host

-- the host at the end of a run of at most that many rounds
unfoldable pub timed_run : ℕ → HostWorld → ℕ → HostWorld
timed_run every h n = with_bound_exit (timed_turns every h n)
