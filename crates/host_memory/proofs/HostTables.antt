-- The host's tables: the entries that a walk meets, by the range of its linear address, and their directory.
use Rattle.std.proofs.Common.{◌≡◌, ◌≢◌, ℕ, ◌+◌, ◌-◌, ◌*◌, ◌/◌, ◌%◌, ◌<◌, ◌≤◌, ◌^◌, ◌⊎◌, Bool, true, false, List, refl, ap, ◌∙◌, sym, arith}
use Rattle.std.proofs.lemmas.Bool.{le-leb, lt-leb, ne_eqb}
use Rattle.client_world.specs.declared.host_frames.TheConstants.{PAGE_SIZE, PAGE_DIRECTORY, LOW_TABLE, WINDOW_TABLE, BLOCK_TABLES}
use Rattle.client_world.specs.declared.host_frames.TheConstants.{BLOCK_TABLE_FRAMES, FIXED_TABLE_FRAMES, PAGE_ENTRY_SIZE, TABLE_ENTRIES}
use Rattle.client_world.specs.declared.memory_map.TheConstants.{BLOCK_REGION, BLOCK_REGION_END, HOST_WINDOW}
use Rattle.guest_ram.specs.Bytes.{dword}
use Rattle.guest_ram.proofs.PutLaws.{dword-region}
use Rattle.page_tables.specs.{Entry.{page_entry}, Walk.{walked, walk_end, fault, directory_entry, entry_place, frame_of, TablesInside}}
use Rattle.page_tables.specs.{Mapping.{directory_word, HasTables}, declared.entry.TheConstants.{TABLE_SPAN}}
use Rattle.host_memory.specs.{Layout.{fixed_part, tables_part, entry_of}, Tables.{HasFixedEntries, directory_entry_at, low_entry_at}}
use Rattle.host_memory.specs.{Tables.{window_entry_at, supervisor_entry, low_table_start, window_table_start}, Holds.{Holds}}
use Rattle.host_memory.proofs.PlaceEnds.{finds_no_table}
use Rattle.page_tables.proofs.HostDirectory.{HasHostDirectory, HasTables-host_directory}

-- the entries of the directory
pub directory_is : (b : List ℕ) (index : ℕ) → HasFixedEntries (fixed_part b) → index < TABLE_ENTRIES →
    directory_word b index ≡ directory_entry_at index
directory_is b index fixed within =
    sym (dword-region b (PAGE_SIZE * PAGE_DIRECTORY) (PAGE_SIZE * FIXED_TABLE_FRAMES) (PAGE_ENTRY_SIZE * index) (omega arith))
    ∙ fixed.directory index within

pub directory_of_block : (index : ℕ) → 0 < index → index ≤ BLOCK_TABLE_FRAMES →
    directory_entry_at index ≡ page_entry (BLOCK_TABLES + (index - 1)) true
directory_of_block index from to = grind (arith, le-leb, ne_eqb)

pub directory_of_none : (index : ℕ) → BLOCK_TABLE_FRAMES < index → index ≢ HOST_WINDOW / TABLE_SPAN → directory_entry_at index ≡ 0
directory_of_none index from other = grind (arith, lt-leb, ne_eqb)

-- a walk whose directory entry is known
walk_by : (b : List ℕ) (lin directory : ℕ) (write : Bool) → directory_entry b PAGE_DIRECTORY lin ≡ directory →
    walked b PAGE_DIRECTORY lin write
    ≡ walk_end directory (dword b (entry_place (frame_of directory) (lin / PAGE_SIZE % TABLE_ENTRIES))) lin write
unfolding walked
walk_by b lin directory write e = rw e refl

-- below 4 MB
pub low_walk : (b : List ℕ) (lin : ℕ) (write : Bool) → HasFixedEntries (fixed_part b) → lin < BLOCK_REGION →
    walked b PAGE_DIRECTORY lin write ≡ walk_end (page_entry LOW_TABLE true) (low_entry_at (lin / PAGE_SIZE)) lin write
low_walk b lin write fixed below =
    let first : lin / TABLE_SPAN ≡ 0 = omega arith in
    let directory : directory_entry b PAGE_DIRECTORY lin ≡ page_entry LOW_TABLE true =
    directory_is b (lin / TABLE_SPAN) fixed (omega arith) ∙ ap directory_entry_at first in
    let page : lin / PAGE_SIZE % TABLE_ENTRIES ≡ lin / PAGE_SIZE = omega arith in
    let at : PAGE_SIZE * LOW_TABLE + PAGE_ENTRY_SIZE * (lin / PAGE_SIZE)
    ≡ PAGE_SIZE * PAGE_DIRECTORY + (low_table_start + PAGE_ENTRY_SIZE * (lin / PAGE_SIZE)) = omega arith in
    walk_by b lin (page_entry LOW_TABLE true) write directory
    ∙ ap (λ (entry : ℕ). walk_end (page_entry LOW_TABLE true) entry lin write) (grind (arith, dword-region))

-- in the 4 MB of the host's window
pub window_walk : (b : List ℕ) (lin : ℕ) (write : Bool) → HasFixedEntries (fixed_part b) → HOST_WINDOW ≤ lin →
    lin < HOST_WINDOW + TABLE_SPAN → walked b PAGE_DIRECTORY lin write
    ≡ walk_end (supervisor_entry WINDOW_TABLE) (window_entry_at (lin / PAGE_SIZE % TABLE_ENTRIES)) lin write
window_walk b lin write fixed from to =
    let index : lin / TABLE_SPAN ≡ HOST_WINDOW / TABLE_SPAN = omega arith in
    let directory : directory_entry b PAGE_DIRECTORY lin ≡ supervisor_entry WINDOW_TABLE =
    directory_is b (lin / TABLE_SPAN) fixed (omega arith) ∙ ap directory_entry_at index in
    let at : PAGE_SIZE * WINDOW_TABLE + PAGE_ENTRY_SIZE * (lin / PAGE_SIZE % TABLE_ENTRIES)
    ≡ PAGE_SIZE * PAGE_DIRECTORY + (window_table_start + PAGE_ENTRY_SIZE * (lin / PAGE_SIZE % TABLE_ENTRIES)) = omega arith in
    walk_by b lin (supervisor_entry WINDOW_TABLE) write directory
    ∙ ap (λ (entry : ℕ). walk_end (supervisor_entry WINDOW_TABLE) entry lin write) (grind (arith, dword-region))

-- the frame of the table of a linear address of the block region
abbrev pub block_table : ℕ → ℕ
block_table lin = BLOCK_TABLES + (lin / TABLE_SPAN - 1)

-- in the block region
pub region_walk : (b : List ℕ) (lin : ℕ) (write : Bool) → HasFixedEntries (fixed_part b) → BLOCK_REGION ≤ lin → lin < BLOCK_REGION_END →
    walked b PAGE_DIRECTORY lin write
    ≡ walk_end (page_entry (block_table lin) true) (entry_of (tables_part b) ((lin - BLOCK_REGION) / PAGE_SIZE)) lin write
region_walk b lin write fixed from to =
    let directory : directory_entry b PAGE_DIRECTORY lin ≡ page_entry (block_table lin) true =
    directory_is b (lin / TABLE_SPAN) fixed (omega arith) ∙ directory_of_block (lin / TABLE_SPAN) (omega arith) (omega arith) in
    let at : entry_place (frame_of (page_entry (block_table lin) true)) (lin / PAGE_SIZE % TABLE_ENTRIES)
    ≡ PAGE_SIZE * BLOCK_TABLES + PAGE_ENTRY_SIZE * ((lin - BLOCK_REGION) / PAGE_SIZE) = omega arith in
    walk_by b lin (page_entry (block_table lin) true) write directory
    ∙ ap (λ (entry : ℕ). walk_end (page_entry (block_table lin) true) entry lin write) (grind (arith, dword-region))

-- elsewhere
pub no_walk : (b : List ℕ) (lin : ℕ) (write : Bool) → HasFixedEntries (fixed_part b) → lin < 2 ^ 32 → BLOCK_REGION_END ≤ lin →
    (lin < HOST_WINDOW) ⊎ (HOST_WINDOW + TABLE_SPAN ≤ lin) → walked b PAGE_DIRECTORY lin write ≡ fault false
no_walk b lin write fixed small from out =
    let other : lin / TABLE_SPAN ≢ HOST_WINDOW / TABLE_SPAN = omega arith in
    let directory : directory_entry b PAGE_DIRECTORY lin ≡ 0 =
    directory_is b (lin / TABLE_SPAN) fixed (omega arith) ∙ directory_of_none (lin / TABLE_SPAN) (omega arith) other in
    walk_by b lin 0 write directory ∙ finds_no_table _ lin write

-- the entries of the directory are those of the host
pub host_directory : (b : List ℕ) → HasFixedEntries (fixed_part b) → HasHostDirectory b
host_directory b fixed = record {
  low = directory_is b 0 fixed (omega arith);
  blocks = λ i within. directory_is b (i + 1) fixed (omega arith) ∙ directory_of_block (i + 1) (omega arith) (omega arith)
      ∙ ap (λ (k : ℕ). page_entry (BLOCK_TABLES + k) true) (let e : i + 1 - 1 ≡ i = omega arith in e);
  window = directory_is b (HOST_WINDOW / TABLE_SPAN) fixed (omega arith);
  others = λ i above within other. directory_is b i fixed within ∙ directory_of_none i above other;
}

-- so its page tables are as `map` and `unmap` want them
pub has_tables : (b : List ℕ) (budget : ℕ) → Holds b budget → HasTables b
has_tables b budget holds = let size = holds.size in HasTables-host_directory b (host_directory b holds.fixed) (omega arith)

-- and as the walk wants them
pub tables_inside : (b : List ℕ) (budget : ℕ) → Holds b budget → TablesInside b PAGE_DIRECTORY
tables_inside b budget holds = (has_tables b budget holds).inside
