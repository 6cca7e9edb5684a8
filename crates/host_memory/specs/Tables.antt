-- The page entries of the host, and what those of the block region must be. Source: own.
use Rattle.std.specs.Prelude.{◌≡◌, ◌≢◌, ℕ, ◌+◌, ◌-◌, ◌*◌, ◌/◌, ◌<◌, ◌≤◌, true, false, nat_eq, nat_lt, nat_le, if◌then◌else◌, List}
use Rattle.std.specs.Prelude.{slice_index}
use Rattle.client_world.specs.declared.host_frames.TheConstants.{PAGE_SIZE, DOS_FRAMES, PAGE_DIRECTORY, LOW_TABLE, WINDOW_TABLE}
use Rattle.client_world.specs.declared.host_frames.TheConstants.{BLOCK_TABLES, BLOCK_TABLE_FRAMES, BUDGET_FRAMES, PAGE_ENTRY_SIZE}
use Rattle.client_world.specs.{declared.host_frames.TheConstants.{TABLE_ENTRIES}, declared.limits.TheConstants.{MAX_BLOCKS, MAX_PAGES}}
use Rattle.client_world.specs.declared.memory_map.TheConstants.{DOS_VIEW_PAGES, ROM_START, BLOCK_REGION_PAGES, HOST_WINDOW}
use Rattle.guest_ram.specs.Bytes.{dword}
use Rattle.page_tables.specs.{Entry.{page_entry}, declared.entry.TheConstants.{TABLE_SPAN, SUPERVISOR_WRITABLE}}
use Rattle.host_memory.specs.Layout.{entry_of, pages_of, first_page_of}

-- the entry of a frame that the supervisor alone may touch
abbrev pub supervisor_entry : ℕ → ℕ
supervisor_entry frame = PAGE_SIZE * frame + SUPERVISOR_WRITABLE

-- the directory: the table of the first 4 MB, those of the block region after it, and that of the host's window
abbrev pub directory_entry_at : ℕ → ℕ
directory_entry_at index =
    if nat_eq index 0 then page_entry LOW_TABLE true else
    if nat_le index BLOCK_TABLE_FRAMES then page_entry (BLOCK_TABLES + (index - 1)) true else
    if nat_eq index (HOST_WINDOW / TABLE_SPAN) then supervisor_entry WINDOW_TABLE else
    0

-- the first 4 MB: the DOS megabyte, read-only from F0000h on, and after it its first 64 KB again
abbrev pub low_entry_at : ℕ → ℕ
low_entry_at page =
    if nat_lt page (ROM_START / PAGE_SIZE) then page_entry page true else
    if nat_lt page DOS_FRAMES then page_entry page false else
    if nat_lt page DOS_VIEW_PAGES then page_entry (page - DOS_FRAMES) true else
    0

-- the window: the host's frames
abbrev pub window_entry_at : ℕ → ℕ
window_entry_at page = if nat_lt page (BUDGET_FRAMES - PAGE_DIRECTORY) then supervisor_entry (PAGE_DIRECTORY + page) else 0

-- where the two page tables begin in the part of the directory
abbrev pub low_table_start : ℕ
low_table_start = PAGE_SIZE * (LOW_TABLE - PAGE_DIRECTORY)

abbrev pub window_table_start : ℕ
window_table_start = PAGE_SIZE * (WINDOW_TABLE - PAGE_DIRECTORY)

-- the entries that never change lie in the directory and in the two tables after it
pub record HasFixedEntries (fixed : List ℕ) : Type 0 where
  pub directory : (index : ℕ) → index < TABLE_ENTRIES → dword fixed (PAGE_ENTRY_SIZE * index) ≡ directory_entry_at index
  pub low : (page : ℕ) → page < TABLE_ENTRIES → dword fixed (low_table_start + PAGE_ENTRY_SIZE * page) ≡ low_entry_at page
  pub window : (page : ℕ) → page < TABLE_ENTRIES → dword fixed (window_table_start + PAGE_ENTRY_SIZE * page) ≡ window_entry_at page

-- the entry names a budget frame, which the client may read and write
pub record NamesBudgetFrame (budget entry : ℕ) : Type 0 where
  pub writable : entry ≡ page_entry (entry / PAGE_SIZE) true
  pub from : BUDGET_FRAMES ≤ entry / PAGE_SIZE
  pub to : entry / PAGE_SIZE < BUDGET_FRAMES + budget

-- the page of the block region belongs to no block
abbrev pub IsOutside : List ℕ → ℕ → Type 0
IsOutside handles page = (place offset : ℕ) → place < MAX_BLOCKS → offset < pages_of handles place →
    page ≢ first_page_of handles place + offset

-- the entry of a page of the block region names that frame of the budget
pub record NamesFrame (tables : List ℕ) (frame : ℕ) : Type 0 where
  pub page : ℕ
  pub inside : page < BLOCK_REGION_PAGES
  pub named : entry_of tables page ≡ page_entry (BUDGET_FRAMES + frame) true

-- a frame of the budget whose taken byte is 0
pub record IsIdle (taken : List ℕ) (budget frame : ℕ) : Type 0 where
  pub from : BUDGET_FRAMES ≤ frame
  pub to : frame < BUDGET_FRAMES + budget
  pub idle : slice_index taken (frame - BUDGET_FRAMES) ≡ 0

-- the frame that follows it in the list of free frames: its first doubleword
abbrev pub next_frame : List ℕ → ℕ → ℕ
next_frame frames frame = dword frames (PAGE_SIZE * (frame - BUDGET_FRAMES))

-- the pages of blocks lie in budget frames, each in one of its own, and exactly these frames are taken
pub record HasBlockEntries (handles tables taken : List ℕ) (budget : ℕ) : Type 0 where
  pub named : (place offset : ℕ) → place < MAX_BLOCKS → offset < pages_of handles place →
      NamesBudgetFrame budget (entry_of tables (first_page_of handles place + offset))
  pub absent : (page : ℕ) → page < BLOCK_REGION_PAGES → IsOutside handles page → entry_of tables page ≡ 0
  pub once : (page other : ℕ) → page < BLOCK_REGION_PAGES → other < BLOCK_REGION_PAGES → page ≢ other →
      entry_of tables page ≢ 0 → entry_of tables page ≢ entry_of tables other
  pub idle : (frame page : ℕ) → frame < budget → page < BLOCK_REGION_PAGES → slice_index taken frame ≡ 0 →
      entry_of tables page ≢ page_entry (BUDGET_FRAMES + frame) true
  pub busy : (frame : ℕ) → frame < budget → slice_index taken frame ≢ 0 → NamesFrame tables frame
  pub bits : (frame : ℕ) → slice_index taken frame < 2
  pub beyond : (frame : ℕ) → budget ≤ frame → frame < MAX_PAGES → slice_index taken frame ≡ 0
