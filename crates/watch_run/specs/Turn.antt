-- One turn of a host with watchpoints, and runs. A hit sets the watchpoint's status, and in protected mode raises exception 1 in a turn of
-- its own after the instruction; one in real mode waits for protected mode. Source: own.
use Rattle.std.specs.Prelude.{◌≡◌, ◌<◌, ℕ, zero, suc, Bool, true, false, ◌&&◌, ◌||◌, List, [], if◌then◌else◌, None, Some}
use Rattle.std.specs.{declared.option.Option.{Option}, declared.result.Result.{Result}}
use Rattle.client_world.specs.{declared.faults.TheConstants.{DEBUG}, declared.outcome.Exit.{Exit}}
use Rattle.client_world.specs.{declared.registers.Mode.TheVariants.{Real, Protected}, declared.watchpoints.Touch.{Touch}}
use Rattle.client_world.specs.{Access.{fault_with}, declared.place.Place.{Place}, WatchWorld.{WatchWorld, Watching, host_without_watches}}
use Rattle.client_world.specs.{WatchWorld.{no_watches}, World.{HostWorld, World}}
use Rattle.guest_space.specs.declared.windows.CodeWindow.{CodeWindow}
use Rattle.host_memory.specs.View.{MachineView}
use Rattle.host_run.specs.{Footprint.{Footprint, at_places, delivery_footprint, turn_footprint}, OtherTurns.{exception_turn, int31_call}}
use Rattle.host_run.specs.{OtherTurns.{int31_turn}, MakesTurn.{MakesTurn}, Run.{with_bound_exit}, Touched.{touched_by_turn}}
use Rattle.host_run.specs.{Traps.{current_trap, is_trap}, Turn.{turn}, View.{HostView}, Windows.{IsTrapFree}}
use Rattle.watch_run.specs.{Hits.{instruction_address, next_touches, with_hits}, Services.{WatchAnswer, is_watch_function, watch_service}}

-- ---- hits

-- the touches of the client instruction that a turn runs; none at a trap, or where the instruction is an event
abbrev pub turn_touches : World → Option (List Touch)
turn_touches w = if is_trap (current_trap w) then None else next_touches w

-- the watchpoints after a turn from a world
unfoldable pub watches_after : World → Watching → Watching
watches_after w s = with_hits (instruction_address w) (turn_touches w) s

-- ---- the functions on watchpoints

-- the next turn would serve a call of INT 31h, and it is one of them
abbrev pub is_watch_call : Option ℕ → Bool
is_watch_call None = false
is_watch_call (Some ax) = is_watch_function ax

-- one of them is served: EAX, EBX and the carry are those that it returns
abbrev pub after_watch_call : WatchWorld → WatchAnswer → WatchWorld
after_watch_call w a = record { host = int31_turn w.host a.regs a.carry; watching = a.watching }

-- ---- turns

-- exception 1 is delivered, and no hit waits any more
abbrev pub after_hit_exception : WatchWorld → WatchWorld
after_hit_exception w = record { host = exception_turn w.host (fault_with DEBUG 0); watching = record w.watching { due = false } }

-- a turn of the host, or a function on watchpoints
abbrev pub after_turn_or_call : WatchWorld → WatchWorld
after_turn_or_call w =
    if is_watch_call (int31_call w.host) then after_watch_call w (watch_service w.host.machine.regs w.watching)
    else record { host = turn w.host; watching = watches_after w.host.machine w.watching }

-- a hit is due, and the mode is protected
abbrev pub delivers_hit : WatchWorld → Bool
delivers_hit w = w.watching.due && elim w.host.machine.mode [ Real ↦ false | Protected ↦ true ]

-- one turn; a world with an exit stays as it is
unfoldable pub turn_with_watchpoints : WatchWorld → WatchWorld
turn_with_watchpoints w = elim w.host.exit [
  | Some _ ↦ w
  | None ↦ if delivers_hit w then after_hit_exception w else after_turn_or_call w
]

-- the bytes of the memory that it may change, by the exit that there is, whether a hit is delivered, and whether a function on watchpoints
-- is served
abbrev pub footprint_by : Option Exit → Bool → Bool → HostWorld → Footprint
footprint_by (Some exit) delivers serves h = at_places []
footprint_by None true serves h = delivery_footprint Protected h.machine
footprint_by None false true h = at_places []
footprint_by None false false h = turn_footprint h

abbrev pub watch_footprint : WatchWorld → Footprint
watch_footprint w = footprint_by w.host.exit (delivers_hit w) (is_watch_call (int31_call w.host)) w.host

-- such a turn, of a host with these watchpoints before and after it
abbrev pub MakesWatchedTurn : HostView → HostView → Watching → Watching → Result (Unit {0}) Exit → Type 0
MakesWatchedTurn old new watching watching_after result =
    let w : WatchWorld = record { host = old.world; watching = watching } in
    let after : WatchWorld = record { host = new.world; watching = watching_after } in
    MakesTurn old new result after (turn_with_watchpoints w) (watch_footprint w)

-- the window has no starts; or it is one of the machine's code and has no trap, no watchpoint is held, and no hit waits
abbrev pub HasUnwatchedWindow : MachineView → Watching → CodeWindow → Type 0
HasUnwatchedWindow v s w = 0 < w.starts → IsTrapFree v w × (s ≡ no_watches)

-- ---- runs

-- the world after that many turns
unfoldable pub turns_with_watchpoints : WatchWorld → ℕ → WatchWorld
turns_with_watchpoints w zero = w
turns_with_watchpoints w (suc n) = turn_with_watchpoints (turns_with_watchpoints w n)

-- the world at the end of a run of at most that many turns
abbrev pub run_with_watchpoints : WatchWorld → ℕ → WatchWorld
run_with_watchpoints w n =
    let end = turns_with_watchpoints w n in
    record end { host = with_bound_exit end.host }

-- ---- from a host whose client has set no watchpoint

-- the host after that many turns
abbrev pub watched_turns : HostWorld → ℕ → HostWorld
watched_turns h n = (turns_with_watchpoints (host_without_watches h) n).host

-- the host at the end of a run of at most that many turns
unfoldable pub watched_run : HostWorld → ℕ → HostWorld
watched_run h n = (run_with_watchpoints (host_without_watches h) n).host

-- the places that the client instruction of a turn touches: none where a hit is delivered or a function on watchpoints is served
abbrev pub touched_by_watch_turn : WatchWorld → List Place
touched_by_watch_turn w = if delivers_hit w || is_watch_call (int31_call w.host) then [] else touched_by_turn w.host
