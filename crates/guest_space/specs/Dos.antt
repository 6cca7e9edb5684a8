-- Bytes of the DOS megabyte by their address, and the vectors of real mode.
-- Source: 80386 Programmer's Reference Manual, ch. 17, INT/INTO; that the last 64 KB are read-only is own.
use Rattle.std.specs.Prelude.{ℕ, ◌+◌, ◌*◌, List, nat_lt, if◌then◌else◌, slice_set}
use Rattle.client_world.specs.{declared.memory_map.TheConstants.{ROM_START}, declared.segments.FarPtr.{FarPtr}, World.{World}}
use Rattle.guest_ram.specs.Bytes.{word_of}

-- the bytes with another one at an address of the megabyte; read-only memory stays
abbrev pub with_dos_byte : List ℕ → ℕ → ℕ → List ℕ
with_dos_byte bytes at v = if nat_lt at ROM_START then slice_set bytes at v else bytes

-- the address of the vector of real mode of an interrupt
abbrev pub real_vector_address : ℕ → ℕ
real_vector_address n = 4 * n

-- the vector: an offset, and after it a segment, both words
abbrev pub real_vector : World → ℕ → FarPtr
real_vector w n = record { sel = word_of w.dos (real_vector_address n + 2); off = word_of w.dos (real_vector_address n) }
