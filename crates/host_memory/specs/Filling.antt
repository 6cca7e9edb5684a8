-- What a new memory is filled with, table by table. Source: own.
use Rattle.std.specs.Prelude.{◌≡◌, ℕ, ◌+◌, ◌-◌, ◌*◌, ◌/◌, ◌%◌, ◌<◌, ◌≤◌, ◌⊎◌, nat_eq, if◌then◌else◌, List, length, slice_index}
use Rattle.client_world.specs.declared.host_frames.TheConstants.{LOW_TABLE, PAGE_DIRECTORY, PAGE_SIZE, TABLE_ENTRIES, VECTORS, WINDOW_TABLE}
use Rattle.client_world.specs.declared.limits.TheConstants.{EXCEPTION_VECTORS, INTERRUPT_VECTORS}
use Rattle.client_world.specs.declared.memory_map.TheConstants.{ROM_START, ROM_SEGMENT, SEGMENT_SIZE}
use Rattle.client_world.specs.{declared.selectors.TheConstants.{HOST_CODE}, declared.traps.TheConstants.{PROTECTED_VECTOR_TRAPS}}
use Rattle.client_world.specs.Selector.{selector_of}
use Rattle.guest_ram.specs.Bytes.{dword_bytes}
use Rattle.host_memory.specs.{declared.blank.Table.{Table}, declared.blank.Table.TheVariants.{RealVectors, Directory, Low, Window}}
use Rattle.host_memory.specs.{declared.blank.Table.TheVariants.{ProtectedVectors}, Tables.{directory_entry_at, low_entry_at}}
use Rattle.host_memory.specs.Tables.{window_entry_at}

-- the doublewords f 0, f 1 and so on were written from an address on, n of them, and nothing else
pub record Written (f : ℕ → ℕ) (from count : ℕ) (old new : List ℕ) : Type 0 where
  pub size : length new ≡ length old
  pub each : (k at : ℕ) → k < count → at < 4 → slice_index new (from + (4 * k + at)) ≡ slice_index (dword_bytes (f k)) at
  pub others : (at : ℕ) → (at < from) ⊎ (from + 4 * count ≤ at) → slice_index new at ≡ slice_index old at

-- a real vector: an offset in the segment of read-only memory, which its upper half names
abbrev pub real_vector_at : ℕ → ℕ
real_vector_at n = SEGMENT_SIZE * ROM_SEGMENT + n

-- the doublewords of the protected vectors, two for each: an offset, and the selector of the host's code. The trap bytes of the exception
-- vectors follow those of the interrupt vectors, as their pointers do
abbrev pub vector_half_at : ℕ → ℕ
vector_half_at k =
    if nat_eq (k % 2) 0 then PROTECTED_VECTOR_TRAPS - ROM_START + k / 2 else selector_of HOST_CODE

-- the tables: their addresses, how many doublewords each has, and which
abbrev pub table_start : Table → ℕ
table_start RealVectors = 0
table_start Directory = PAGE_SIZE * PAGE_DIRECTORY
table_start Low = PAGE_SIZE * LOW_TABLE
table_start Window = PAGE_SIZE * WINDOW_TABLE
table_start ProtectedVectors = PAGE_SIZE * VECTORS

abbrev pub table_size : Table → ℕ
table_size RealVectors = INTERRUPT_VECTORS
table_size Directory = TABLE_ENTRIES
table_size Low = TABLE_ENTRIES
table_size Window = TABLE_ENTRIES
table_size ProtectedVectors = 2 * (INTERRUPT_VECTORS + EXCEPTION_VECTORS)

abbrev pub table_entry : Table → ℕ → ℕ
table_entry RealVectors = real_vector_at
table_entry Directory = directory_entry_at
table_entry Low = low_entry_at
table_entry Window = window_entry_at
table_entry ProtectedVectors = vector_half_at
