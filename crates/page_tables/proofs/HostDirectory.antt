-- The directory of the host is one that `map` and `unmap` may work on. First zero doublewords, and zero entries of it.
use Rattle.std.proofs.Common.{◌≡◌, ℕ, ◌+◌, ◌<◌, List, get_or, true, false, arith, add-zero, ◌≢◌, ◌-◌, ◌*◌, ◌/◌, ◌≤◌, ◌⊎◌, length, zero, suc}
use Rattle.std.proofs.{Common.{add-one}, lemmas.Bool.{cases_eq, cases_lt}}
use Rattle.guest_ram.specs.Bytes.{dword}
use Rattle.page_tables.specs.{Mapping.{NamesTable, directory_word, HasTables}, Walk.{frame_of}, declared.entry.TheConstants.{TABLE_SPAN}}
use Rattle.page_tables.specs.declared.entry.TheConstants.{SUPERVISOR_WRITABLE, USER_WRITABLE}
use Rattle.client_world.specs.{declared.memory_map.TheConstants.{HOST_WINDOW}, declared.host_frames.TheConstants.{PAGE_SIZE, LOW_TABLE}}
use Rattle.client_world.specs.declared.host_frames.TheConstants.{WINDOW_TABLE, BLOCK_TABLES, BUDGET_FRAMES, BLOCK_TABLE_FRAMES}
use Rattle.client_world.specs.declared.host_frames.TheConstants.{DESCRIPTOR_ROWS, PAGE_DIRECTORY, TABLE_ENTRIES}

-- four zero bytes are a zero doubleword
pub dword_zero : (b : List ℕ) (p : ℕ) → ((i : ℕ) → i < 4 → get_or b (p + i) 0 ≡ 0) → dword b p ≡ 0
unfolding dword
dword_zero b p h = grind (arith, add-zero)

-- a zero entry names no table
pub names_none : (b : List ℕ) (i : ℕ) → directory_word b i ≡ 0 → NamesTable b i → ⊥
names_none b i e named = let absurdly : false ≡ true = rw e at named in cc

-- the index of the directory's entry for the table of the host's window
abbrev window_index : ℕ
window_index = HOST_WINDOW / TABLE_SPAN

-- the entries of the directory: the tables of the first megabytes, of the block region and of the host's window
pub record HasHostDirectory (bytes : List ℕ) : Type 0 where
  pub low : directory_word bytes 0 ≡ PAGE_SIZE * LOW_TABLE + USER_WRITABLE
  pub blocks : (i : ℕ) → i < BLOCK_TABLE_FRAMES → directory_word bytes (i + 1) ≡ PAGE_SIZE * (BLOCK_TABLES + i) + USER_WRITABLE
  pub window : directory_word bytes window_index ≡ PAGE_SIZE * WINDOW_TABLE + SUPERVISOR_WRITABLE
  pub others : (i : ℕ) → BLOCK_TABLE_FRAMES < i → i < TABLE_ENTRIES → i ≢ window_index → directory_word bytes i ≡ 0

-- the frame of the table that an index names
record Slot (i frame : ℕ) : Type 0 where
  low : i ≡ 0 → frame ≡ LOW_TABLE
  blocks : 0 < i → i ≤ BLOCK_TABLE_FRAMES → frame ≡ BLOCK_TABLES + (i - 1)
  window : BLOCK_TABLE_FRAMES < i → frame ≡ WINDOW_TABLE
  last : BLOCK_TABLE_FRAMES < i → i ≡ window_index

block_frame : (b : List ℕ) (i : ℕ) → HasHostDirectory b → 0 < i → i ≤ BLOCK_TABLE_FRAMES →
    frame_of (directory_word b i) ≡ BLOCK_TABLES + (i - 1)
block_frame b zero h pos most = absurd (omega arith)
block_frame b (suc i) h pos most = let e = h.blocks i (omega arith) in rw (← add-one i, e) (omega arith)

slot_of : (b : List ℕ) (i : ℕ) → HasHostDirectory b → i < TABLE_ENTRIES → NamesTable b i → Slot i (frame_of (directory_word b i))
slot_of b i h l named = grind (arith, block_frame, cases_eq, names_none)

inside_of : (b : List ℕ) (i : ℕ) → HasHostDirectory b → i < TABLE_ENTRIES → frame_of (directory_word b i) < DESCRIPTOR_ROWS
inside_of b i h l = grind (arith, block_frame, cases_eq, cases_lt)

-- the three kinds of index
kind_of : (i : ℕ) → (i ≡ 0) ⊎ ((BLOCK_TABLE_FRAMES < i) ⊎ ((0 < i) × (i ≤ BLOCK_TABLE_FRAMES)))
kind_of i = grind (arith, cases_eq, cases_lt)

slots_apart : (i j f g : ℕ) → Slot i f → Slot j g → i ≢ j → f ≢ g
slots_apart i j f g a b ne = grind (arith, kind_of)

beside_slot : (i f : ℕ) → Slot i f → f ≢ PAGE_DIRECTORY
beside_slot i f a = grind (arith, kind_of)

pub HasTables-host_directory : (b : List ℕ) → HasHostDirectory b → PAGE_SIZE * BUDGET_FRAMES ≤ length b → HasTables b
HasTables-host_directory b h long = record {
  directory = omega arith;
  inside = λ i l. (let e = inside_of b i h l in omega arith);
  beside = λ i l named. beside_slot i (frame_of (directory_word b i)) (slot_of b i h l named);
  apart = λ i j l m ne named other.
      slots_apart i j (frame_of (directory_word b i)) (frame_of (directory_word b j)) (slot_of b i h l named) (slot_of b j h m other) ne;
}
