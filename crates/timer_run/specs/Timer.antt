-- The timer, and its part of a round. Source: own.
use Rattle.std.specs.Prelude.{ℕ, ◌+◌, Bool, true, false, ◌&&◌, nat_eq, nat_lt, if◌then◌else◌, None, Some, Ok, Err}
use Rattle.std.specs.declared.result.Result.{Result}
use Rattle.client_world.specs.{declared.limits.TheConstants.{GREATEST_DEPTH}, declared.outcome.Exit.{Exit}}
use Rattle.client_world.specs.{declared.registers.Mode.TheVariants.{Real, Protected}, World.{World, HostWorld, depth}}
use Rattle.host_run.specs.{Footprint.{Footprint}, OtherTurns.{interrupt_turn, outside_interrupt_footprint}}
use Rattle.timer_run.specs.declared.timer.TheConstants.{TIMER_INTERRUPT}

-- a timer: after how many rounds its interrupt becomes due, how many of these have passed, and whether an interrupt waits
pub record TimerState : Type 0 where
  pub every : ℕ
  pub count : ℕ
  pub waits : Bool

-- one more round has passed. The last one makes an interrupt wait; at most one does
abbrev pub with_round_counted : TimerState → TimerState
with_round_counted t = if nat_eq (t.count + 1) t.every then record t { count = 0; waits = true } else record t { count = t.count + 1 }

-- the client can be interrupted: virtual interrupts are enabled, and in protected mode the depth is below the greatest
abbrev pub takes_interrupts : World → Bool
takes_interrupts w = w.vif && elim w.mode [ Real ↦ true | Protected ↦ nat_lt (depth w) GREATEST_DEPTH ]

-- the timer and the host after the timer's part, and whether that part was the whole round
pub record TimerPart : Type 0 where
  pub timer : TimerState
  pub host : HostWorld
  pub taken : Bool

-- the round is the interrupt where one waits that the client takes; else the turn is still to be made
abbrev pub after_tick : TimerState → HostWorld → TimerPart
after_tick t h =
    if t.waits && takes_interrupts h.machine
    then record { timer = record t { waits = false }; host = interrupt_turn h TIMER_INTERRUPT; taken = true }
    else record { timer = t; host = h; taken = false }

-- after an exit nothing changes
unfoldable pub timer_part : TimerState → HostWorld → TimerPart
timer_part t h = elim h.exit [ Some _ ↦ record { timer = t; host = h; taken = false } | None ↦ after_tick (with_round_counted t) h ]

-- the bytes of the memory that the interrupt may change
abbrev pub timer_footprint : HostWorld → Footprint
timer_footprint h = outside_interrupt_footprint h.machine TIMER_INTERRUPT

-- whether the round was the interrupt, or the exit that there is
abbrev pub timer_answer : TimerPart → Result Bool Exit
timer_answer p = elim p.host.exit [ Some exit ↦ Err exit | None ↦ Ok p.taken ]
