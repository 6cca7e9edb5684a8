-- Which bytes of the memory a delivery and a return change. Source: own.
use Rattle.std.specs.Prelude.{◌≡◌, ℕ, ◌+◌, ◌-◌, ◌*◌, ◌<◌, ◌≤◌, Bool, true, List, [], length, slice_index_or, Ok}
use Rattle.client_world.specs.{declared.faults.Fault.{Fault}, declared.memory_map.TheConstants.{PROTECTED_STACKS, PROTECTED_STACK_SIZE}}
use Rattle.client_world.specs.{declared.place.Place.{Place}, declared.place.Place.TheVariants.{Dos, Nothing}, Access.{far_access}}
use Rattle.client_world.specs.{Access.{may_touch, place_of}, Soundness.{IsSound}, World.{World, depth}}
use Rattle.guest_space.specs.{Records.{OnlyAtAndRow}, Transfer.{places_of_access}}
use Rattle.host_memory.specs.{HoldsWorld.{HoldsWorld}, Law.{StandsAt}, View.{MachineView}}
use Rattle.fault_service.specs.{Delivery.{exception_frame_start, exception_frame_size, protected_delivery}, Return.{exception_return}}

-- what every machine promises of its view (`Machine::ram`): its world is sound, its bytes hold that world, and the byte of each place that
-- the client may touch is at the place's address, which lies in none of the host's frames
pub record IsMachineView (v : MachineView) : Type 0 where
  pub sound : IsSound v.world
  pub holds : HoldsWorld v.bytes v.world
  pub places : (lin : ℕ) (write : Bool) → may_touch (place_of v.world lin) write ≡ true → StandsAt v.bytes v.world (place_of v.world lin)

-- the places of the frame of an exception
abbrev pub frame_places : World → List Place
frame_places w = places_of_access (far_access w (exception_frame_start w) (exception_frame_size w) true)

-- each byte of the frame lies in the megabyte, in the host's stack of the depth
pub record LiesInStack (w : World) : Type 0 where
  pub size : length (frame_places w) ≡ exception_frame_size w
  pub each : (i : ℕ) → i < exception_frame_size w →
      slice_index_or (frame_places w) i Nothing ≡ Dos (PROTECTED_STACKS + (exception_frame_start w).off + i)
  pub from : PROTECTED_STACK_SIZE * depth w ≤ (exception_frame_start w).off
  pub to : (exception_frame_start w).off + exception_frame_size w ≡ PROTECTED_STACK_SIZE * (depth w + 1)

-- a delivery changes at most the bytes of its frame and those of its record's row
abbrev pub DeliveryLaw : MachineView → Type 0
DeliveryLaw v = (f : Fault) (u : MachineView) → protected_delivery v f ≡ Ok u →
    OnlyAtAndRow (frame_places v.world) (depth v.world) v.bytes u.bytes

-- a return changes at most the bytes of the row of the record that it pops
abbrev pub ReturnLaw : MachineView → Type 0
ReturnLaw v = (u : MachineView) → exception_return v ≡ Ok u → OnlyAtAndRow [] (depth v.world - 1) v.bytes u.bytes
