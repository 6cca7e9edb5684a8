-- Writes that are asked for one after another: all of them are probed first, and then all are made. Source: own.
use Rattle.std.specs.Prelude.{◌≡◌, ◌⊎◌, ℕ, ◌%◌, ◌^◌, true, List, [], ◌∷◌, ◌++◌, None, Some, nat_eq, if◌then◌else◌}
use Rattle.std.specs.declared.option.Option.{Option}
use Rattle.client_world.specs.{declared.faults.Fault.{Fault}, declared.place.Place.{Place}, Access.{access}, World.{World}}
use Rattle.guest_ram.specs.Bytes.{dword_bytes}
use Rattle.host_memory.specs.{Vectors.{word_bytes}, View.{MachineView}}
use Rattle.guest_space.specs.{declared.pending.Write.{Write}, Transfer.{places_of_access, access_fault, after_store}}

-- the bytes of a number of 8, 16 or 32 bits, least byte first
abbrev pub number_bytes : ℕ → ℕ → List ℕ
number_bytes width value =
    if nat_eq width 8 then value % 0x100 ∷ [] else
    if nat_eq width 16 then word_bytes (value % 0x10000) else
    dword_bytes (value % 2 ^ 32)

-- the bytes of a width
abbrev pub byte_count : ℕ → ℕ
byte_count width = if nat_eq width 8 then 1 else if nat_eq width 16 then 2 else 4

-- those of the widths 8, 16 and 32
abbrev pub IsCountOfWidth : ℕ → Type 0
IsCountOfWidth n = (n ≡ 1) ⊎ (n ≡ 2) ⊎ (n ≡ 4)

-- the fault of a write, if it has one
unfoldable pub write_fault : World → Write → Option Fault
write_fault w x = access_fault w x.seg x.off (byte_count x.width) true

-- the machine after it
unfoldable pub after_write : MachineView → Write → MachineView
after_write v x = after_store v x.seg x.off (byte_count x.width) (number_bytes x.width x.value)

-- the fault of the first of some writes that has one. Each is asked in the world before all of them: a write moves no place
unfoldable pub first_write_fault : World → List Write → Option Fault
first_write_fault w [] = None
first_write_fault w (x ∷ xs) = elim (write_fault w x) [ Some fault ↦ Some fault | None ↦ first_write_fault w xs ]

-- the machine after all of them
unfoldable pub after_writes : MachineView → List Write → MachineView
after_writes v [] = v
after_writes v (x ∷ xs) = after_writes (after_write v x) xs

-- the places of some writes, in the world before all of them; one that has a fault has none
abbrev pub places_of_writes : World → List Write → List Place
places_of_writes w [] = []
places_of_writes w (x ∷ xs) = places_of_access (access w x.seg x.off (byte_count x.width) true) ++ places_of_writes w xs
