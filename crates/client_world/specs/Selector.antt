-- Selectors, and the descriptors that they name.
-- Source: 80386 Programmer's Reference Manual, ch. 5, "Selectors", figure 5-6.
use Rattle.std.specs.Prelude.{⊤, ℕ, ◌+◌, ◌-◌, ◌*◌, ◌/◌, ◌%◌, Bool, List, None, Some, nat_eq, nat_lt, if◌then◌else◌, slice_index_or}
use Rattle.std.specs.declared.option.Option.{Option}
use Rattle.client_world.specs.{declared.descriptors.Desc.{Desc}, declared.descriptors.Origin.{Origin}}
use Rattle.client_world.specs.declared.selectors.TheConstants.{CLIENT_PRIVILEGE, SELECTOR_STEP, SELECTOR_BITS}
use Rattle.client_world.specs.Descriptor.{FitsDescriptor}

-- a place of the client's table: a descriptor and its origin, or nothing
abbrev pub Row : Type 0
Row = Option (Desc × Origin)

-- the base of the row's descriptor has 32 bits, and its limit 20
abbrev pub FitsRow : Row → Type 0
FitsRow None = ⊤
FitsRow (Some row) = FitsDescriptor row.0

-- the row at an index
abbrev pub row_at_index : List Row → ℕ → Row
row_at_index rows index = slice_index_or rows index None

-- the requested privilege level: bits 1 and 0
abbrev pub privilege_of : ℕ → ℕ
privilege_of sel = sel % 4

-- the index: bits 15 to 3
abbrev pub index_of : ℕ → ℕ
index_of sel = sel / 8

-- TI, bit 2, is set: it names a row of the local table, which is the client's. The global one is empty
abbrev pub is_local : ℕ → Bool
is_local sel = nat_eq (sel / 4 % 2) 1

-- 0 to 3: index 0 of the global table
abbrev pub is_null : ℕ → Bool
is_null sel = nat_lt sel 4

-- the row that a selector names; the selector is held where there is a descriptor
abbrev pub row_of_selector : List Row → ℕ → Row
row_of_selector rows sel = if is_local sel then row_at_index rows (index_of sel) else None

-- the selector as an error code: without the requested privilege level
abbrev pub selector_code : ℕ → ℕ
selector_code sel = sel - sel % 4

-- the selector with the client's privilege level, whichever it asks for
abbrev pub client_selector : ℕ → ℕ
client_selector sel = selector_code sel + CLIENT_PRIVILEGE

-- the selector that the host hands out for an index (own)
abbrev pub selector_of : ℕ → ℕ
selector_of index = index * SELECTOR_STEP + SELECTOR_BITS
