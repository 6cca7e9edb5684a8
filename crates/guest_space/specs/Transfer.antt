-- What reads and writes through a segment register return, and the machine after them. These words stay closed above this crate.
-- Source: 80386 Programmer's Reference Manual, ch. 2, "Memory Organization and Segmentation", and ch. 5.
use Rattle.std.specs.Prelude.{◌≡◌, ℕ, Bool, true, false, List, [], ◌∷◌, None, Some, Ok, Err, if◌then◌else◌, slice_set}
use Rattle.std.specs.{declared.option.Option.{Option}, declared.result.Result.{Result}}
use Rattle.client_world.specs.{declared.faults.Fault.{Fault}, declared.place.Place.{Place}, declared.segments.SegReg.{SegReg}}
use Rattle.client_world.specs.Access.{access, bytes_of, with_bytes_of, may_touch, is_present, page_fault, place_of, places_from}
use Rattle.client_world.specs.{Access.{touched_places}, World.{World}}
use Rattle.host_memory.specs.{Layout.{address_of}, View.{MachineView}}

-- the bytes that a read of n bytes gives, or its fault
abbrev pub bytes_at : World → Result (List Place) Fault → Result (List ℕ) Fault
bytes_at w (Ok places) = Ok (bytes_of w places)
bytes_at w (Err fault) = Err fault

unfoldable pub read_result : World → SegReg → ℕ → ℕ → Result (List ℕ) Fault
read_result w seg offset n = bytes_at w (access w seg offset n false)

-- the fault of an access to n bytes, if it has one
abbrev pub fault_of : Result (List Place) Fault → Option Fault
fault_of (Ok places) = None
fault_of (Err fault) = Some fault

unfoldable pub access_fault : World → SegReg → ℕ → ℕ → Bool → Option Fault
access_fault w seg offset n write = fault_of (access w seg offset n write)

-- the memory with other bytes at places, the first one first
abbrev pub with_bytes_at : List ℕ → List Place → List ℕ → List ℕ
with_bytes_at b [] bytes = b
with_bytes_at b (place ∷ places) [] = b
with_bytes_at b (place ∷ places) (byte ∷ bytes) = with_bytes_at (slice_set b (address_of b place) byte) places bytes

-- the machine with other bytes at places
unfoldable pub with_places : MachineView → List Place → List ℕ → MachineView
with_places v places bytes = record {
  world = with_bytes_of v.world places bytes;
  bytes = with_bytes_at v.bytes places bytes;
}

-- the places of an access, where it has no fault
abbrev pub places_of_access : Result (List Place) Fault → List Place
places_of_access (Ok places) = places
places_of_access (Err fault) = []

-- the machine after a write
unfoldable pub after_store : MachineView → SegReg → ℕ → ℕ → List ℕ → MachineView
after_store v seg offset n bytes = with_places v (places_of_access (access v.world seg offset n true)) bytes

-- where the byte of a linear address lies in the memory, or the page fault of its access
unfoldable pub translated : MachineView → ℕ → Bool → Result ℕ Fault
translated v at write =
    if may_touch (place_of v.world at) write then Ok (address_of v.bytes (place_of v.world at))
    else Err (page_fault (is_present (place_of v.world at)) write)

-- an access to n bytes from a linear address on
abbrev pub linear_access : World → ℕ → ℕ → Bool → Result (List Place) Fault
linear_access w at n write = touched_places (places_from w.blocks at n) write

-- the world is another one at most in what the client's memory holds
abbrev pub HasOtherMemory : World → World → Type 0
HasOtherMemory w u = u ≡ record w { dos = u.dos; blocks = u.blocks }
