-- The bytes of the memory that a turn may change: its footprint. Source: own.
use Rattle.std.specs.{Prelude.{ℕ, ◌-◌, List, [], None, Some, Ok, Err}, declared.result.Result.{Result}}
use Rattle.client_world.specs.{declared.faults.Event.{Event}, declared.faults.Fault.{Fault}, declared.outcome.Exit.{Exit}}
use Rattle.client_world.specs.{declared.place.Place.{Place}, declared.registers.Mode.{Mode}, declared.registers.Mode.TheVariants.{Real}}
use Rattle.client_world.specs.{declared.registers.Mode.TheVariants.{Protected}, World.{World, HostWorld, depth}}
use Rattle.cpu_step.specs.Step.{client_step}
use Rattle.interrupts.specs.{Delivery.{software_interrupt}, Worlds.{world_interrupt, world_step}}
use Rattle.guest_space.specs.Records.{OnlyAtAndRow}
use Rattle.host_memory.specs.View.{MachineView, OnlyAt}
use Rattle.fault_service.specs.{ByMode.{delivery}, Memory.{frame_places}, StepMemory.{interrupt_places, written_places}}
use Rattle.host_run.specs.{declared.traps.Trap.{Trap}, declared.traps.Trap.TheVariants.{RealVector, Entry, CallReturn, Callback}}
use Rattle.host_run.specs.{declared.traps.Trap.TheVariants.{ProtectedVector, ExceptionReturn, CallbackReturn, NoTrap}, Traps.{current_trap}}
use Rattle.client_world.specs.declared.faults.Event.TheVariants as events

-- the bytes of some places, and the host's frames keep theirs; or besides the bytes of the row of a record; or nothing is said
pub data Footprint : Type 0 where
  at_places : List Place → Footprint
  at_places_and_row : List Place → ℕ → Footprint
  unsaid : Footprint

-- no other bytes changed
abbrev pub ChangesOnly : Footprint → List ℕ → List ℕ → Type 0
ChangesOnly (at_places places) old new = OnlyAt places old new
ChangesOnly (at_places_and_row places row) old new = OnlyAtAndRow places row old new
ChangesOnly unsaid old new = Unit {0}

-- an exception: in real mode what is pushed, in protected mode the frame and the record
abbrev pub delivery_footprint : Mode → World → Footprint
delivery_footprint Real w = at_places (interrupt_places w 0)
delivery_footprint Protected w = at_places_and_row (frame_places w) (depth w)

-- a software interrupt whose instruction has `len` bytes: what is pushed; or the exception that it raises
abbrev pub interrupt_footprint : World → ℕ → Result World Fault → Footprint
interrupt_footprint w len (Ok u) = at_places (interrupt_places w len)
interrupt_footprint w len (Err f) = delivery_footprint w.mode w

-- a client instruction: the places that it writes, and none that it only reads; or its event
abbrev pub event_footprint : World → Result World Event → Footprint
event_footprint w (Ok u) = at_places (written_places w)
event_footprint w (Err (events.Fault f)) = delivery_footprint w.mode w
event_footprint w (Err (events.Soft number len)) = interrupt_footprint w len (world_interrupt w number len)

unfoldable pub client_footprint : World → Footprint
client_footprint w = event_footprint w (world_step w)

-- by the kind of the turn. At the trap of an exception's return the row of the innermost record changes. Of the host's work at a default
-- vector, at the entry, at the return from a call, and at a callback and its return nothing is said. At all other traps no byte changes
abbrev pub trap_footprint : World → Trap → Footprint
trap_footprint w NoTrap = client_footprint w
trap_footprint w ExceptionReturn = at_places_and_row [] (depth w - 1)
trap_footprint w (RealVector n) = unsaid
trap_footprint w Entry = unsaid
trap_footprint w CallReturn = unsaid
trap_footprint w (Callback slot) = unsaid
trap_footprint w (ProtectedVector n) = unsaid
trap_footprint w CallbackReturn = unsaid
trap_footprint w _ = at_places []

unfoldable pub work_footprint : World → Footprint
work_footprint w = trap_footprint w (current_trap w)

-- once the run has ended, nothing changes
abbrev pub turn_footprint : HostWorld → Footprint
turn_footprint w = elim w.exit [ Some _ ↦ at_places [] | None ↦ work_footprint w.machine ]

-- ---- the client's part of a turn, of a machine with its bytes

abbrev pub after_client_interrupt : MachineView → Result MachineView Fault → Result MachineView Exit
after_client_interrupt v (Ok u) = Ok u
after_client_interrupt v (Err f) = delivery v f

abbrev pub after_client_event : MachineView → Result MachineView Event → Result MachineView Exit
after_client_event v (Ok u) = Ok u
after_client_event v (Err (events.Fault f)) = delivery v f
after_client_event v (Err (events.Soft number len)) = after_client_interrupt v (software_interrupt v number len)

-- the client's next instruction, with its software interrupt or its exception; or the exit
unfoldable pub client_turn : MachineView → Result MachineView Exit
client_turn v = after_client_event v (client_step v)
