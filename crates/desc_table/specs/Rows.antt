-- The rows of the client's descriptor table, a map from indices below 8192 to descriptors and their origins. Source: own.
use Rattle.std.specs.Prelude.{◌≡◌, ◌≤◌, ◌<◌, ℕ, ◌+◌, ◌*◌, ◌/◌, ◌%◌, Option, Some, None, List, [], ◌∷◌, ◌++◌, length, slice_index, nat_eq}
use Rattle.std.specs.Prelude.{if◌then◌else◌}
use Rattle.client_world.specs.{declared.descriptors.Desc.{Desc}, declared.descriptors.Origin.{Origin}}
use Rattle.client_world.specs.declared.descriptors.Origin.TheVariants.{Own, Low, Entry, Psp, Segment, Dos, Host}
use Rattle.client_world.specs.declared.host_frames.TheConstants.{PAGE_SIZE, DESCRIPTOR_ROWS, DESCRIPTORS, DESCRIPTOR_ROW_SIZE}
use Rattle.client_world.specs.{declared.host_frames.TheConstants.{FIRST_FREE_DESCRIPTOR}, Descriptor.{packed}, Selector.{Row}}
use Rattle.guest_ram.specs.{Bytes.{word_of}, Listed.{listed}}
use Rattle.desc_table.specs.Unpacked.{unpacked}

-- the code of an origin; 0 is a free row's
abbrev pub origin_code : Origin → ℕ
origin_code Own = 1
origin_code Low = 2
origin_code Entry = 3
origin_code Psp = 4
origin_code (Segment segment) = 5
origin_code (Dos segment) = 6
origin_code Host = 7

-- the segment that an origin names, 0 where it names none
abbrev pub origin_segment : Origin → ℕ
origin_segment Own = 0
origin_segment Low = 0
origin_segment Entry = 0
origin_segment Psp = 0
origin_segment (Segment segment) = segment
origin_segment (Dos segment) = segment
origin_segment Host = 0

-- the origin of a code and a segment
abbrev pub origin_of : ℕ → ℕ → Option Origin
origin_of code segment =
    if nat_eq code 1 then Some Own else
    if nat_eq code 2 then Some Low else
    if nat_eq code 3 then Some Entry else
    if nat_eq code 4 then Some Psp else
    if nat_eq code 5 then Some (Segment segment) else
    if nat_eq code 6 then Some (Dos segment) else
    if nat_eq code 7 then Some Host else None

-- the row of a descriptor and an origin, where both are there
abbrev pub row_of : Option Desc → Option Origin → Row
row_of None origin = None
row_of (Some d) None = None
row_of (Some d) (Some origin) = Some (d, origin)

-- the row that the sixteen bytes from an address on hold: eight bytes of descriptor, then at 8 the code of its origin,
-- and at 10 the word of the segment that this names
unfoldable pub row_at : List ℕ → ℕ → Row
row_at bytes at = row_of (unpacked bytes at) (origin_of (slice_index bytes (at + 8)) (word_of bytes (at + 10)))

-- the sixteen bytes of a row: those of its descriptor, the code of its origin, 0, the segment's word, and zeros;
-- all are 0 where it is free
unfoldable pub row_bytes : Row → List ℕ
row_bytes None = 0 ∷ 0 ∷ 0 ∷ 0 ∷ 0 ∷ 0 ∷ 0 ∷ 0 ∷ 0 ∷ 0 ∷ 0 ∷ 0 ∷ 0 ∷ 0 ∷ 0 ∷ 0 ∷ []
row_bytes (Some r) =
    packed r.0
    ++ (origin_code r.1 ∷ 0 ∷ origin_segment r.1 % 0x100 ∷ origin_segment r.1 / 0x100 ∷ 0 ∷ 0 ∷ 0 ∷ 0 ∷ [])

-- the rows of a table from an address on, by their indices
unfoldable pub rows_from : List ℕ → ℕ → List Row
rows_from bytes at = listed DESCRIPTORS (λ index. row_at bytes (at + DESCRIPTOR_ROW_SIZE * index))

-- the address of the table
abbrev pub rows_start : ℕ
rows_start = DESCRIPTOR_ROWS * PAGE_SIZE

-- the address of a row
abbrev pub row_address : ℕ → ℕ
row_address index = rows_start + DESCRIPTOR_ROW_SIZE * index

-- the memory has the frames of all rows
abbrev pub HasRows : List ℕ → Type 0
HasRows bytes = row_address DESCRIPTORS ≤ length bytes

-- the n rows from an index on are there and free
pub record IsFreeRun (bytes : List ℕ) (first n : ℕ) : Type 0 where
  pub within : first + n ≤ DESCRIPTORS
  pub free : (index : ℕ) → first ≤ index → index < first + n → row_at bytes (row_address index) ≡ None

-- and no such run begins below that index, from 64 on
pub record IsFirstFreeRun (bytes : List ℕ) (first n : ℕ) : Type 0 where
  pub from : FIRST_FREE_DESCRIPTOR ≤ first
  pub run : IsFreeRun bytes first n
  pub least : (below : ℕ) → FIRST_FREE_DESCRIPTOR ≤ below → below < first → ¬ IsFreeRun bytes below n
