-- What the run of a client in the code holds. Source: own.
use Rattle.std.specs.{Prelude.{◌≡◌, ◌≤◌, ℕ, None, Some}, declared.option.Option.{Option}}
use Rattle.client_world.specs.WatchWorld.{WatchWorld}
use Rattle.dpmi_calls.specs.{Clients.{given, timer_given}, Turns.{client_after}, declared.run.ClientRun.{ClientRun}}
use Rattle.host_run.specs.View.{machine_view}
use Rattle.watch_run.specs.Turn.{HasUnwatchedWindow}
use Rattle.timer_run.specs.{Rounds.{TimedWorld, timed, with_new_timer}, Timer.{TimerState}}

-- after how many rounds the timer's interrupt becomes due, if there is a timer
abbrev pub every_by : Option TimerState → Option ℕ
every_by None = None
every_by (Some t) = Some t.every

abbrev pub every_of : ClientRun → Option ℕ
every_of r = every_by r.timer

-- the host with the watchpoints, and what the timer has counted
abbrev pub world_by : Option TimerState → WatchWorld → TimedWorld
world_by None w = with_new_timer w
world_by (Some t) w = timed t w

abbrev pub world_of : ClientRun → TimedWorld
world_of r = world_by r.timer (record { host = r.host.world; watching = r.watches })

-- the run is that of its client, after as many turns as it counts
pub record IsRun (r : ClientRun) : Type 0 where
  pub timer : every_of r ≡ timer_given r.client.timer
  pub world : world_of r ≡ client_after (given r.client) r.turns
  pub window : HasUnwatchedWindow (machine_view r.host) r.watches r.window
  pub steps : r.host.world.steps ≤ r.turns
