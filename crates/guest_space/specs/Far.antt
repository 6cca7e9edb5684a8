-- Bytes at far pointers, by the rules of protected mode, whatever the mode is. These words stay closed above this crate.
-- Source: own.
use Rattle.std.specs.Prelude.{ℕ, ◌+◌, true, false, List}
use Rattle.client_world.specs.{declared.segments.FarPtr.{FarPtr}, Access.{far_access, bytes_of, with_bytes_of}, World.{World}}
use Rattle.host_memory.specs.View.{MachineView}
use Rattle.guest_space.specs.Transfer.{places_of_access, with_places}

-- the n bytes at a pointer that is reachable
unfoldable pub far_bytes : World → FarPtr → ℕ → List ℕ
far_bytes w p n = bytes_of w (places_of_access (far_access w p n false))

-- the world with other bytes at a pointer that is reachable for writing
unfoldable pub world_after_far_write : World → FarPtr → ℕ → List ℕ → World
world_after_far_write w p n bytes = with_bytes_of w (places_of_access (far_access w p n true)) bytes

-- and the machine
unfoldable pub after_far_write : MachineView → FarPtr → ℕ → List ℕ → MachineView
after_far_write v p n bytes = with_places v (places_of_access (far_access v.world p n true)) bytes

-- the pointer n bytes further on
abbrev pub further : FarPtr → ℕ → FarPtr
further p n = record { sel = p.sel; off = p.off + n }
