-- The walk of the two-level page tables, with user rights.
-- Source: 80386 Programmer's Reference Manual, ch. 5, "Page Translation", and ch. 6, "Page-Level Protection".
use Rattle.std.specs.Prelude.{ℕ, ◌+◌, ◌*◌, ◌/◌, ◌%◌, ◌<◌, ◌≤◌, Bool, true, false, ◌&&◌, ◌||◌, not, if◌then◌else◌, Result, Ok, Err, List}
use Rattle.std.specs.Prelude.{length}
use Rattle.client_world.specs.{Registers.{has_bit}, declared.faults.PageFault.{PageFault}, declared.host_frames.TheConstants.{PAGE_SIZE}}
use Rattle.client_world.specs.declared.host_frames.TheConstants.{PAGE_ENTRY_SIZE, TABLE_ENTRIES}
use Rattle.guest_ram.specs.Bytes.{dword}
use Rattle.page_tables.specs.{Entry.{allows}, declared.entry.TheConstants.{TABLE_SPAN, PRESENT}}

-- the frame lies inside the memory
abbrev pub IsFrame : List ℕ → ℕ → Type 0
IsFrame bytes frame = PAGE_SIZE * frame + PAGE_SIZE ≤ length bytes

-- the frame that an entry names
abbrev pub frame_of : ℕ → ℕ
frame_of entry = entry / PAGE_SIZE

-- the page of a linear address
abbrev pub page_of : ℕ → ℕ
page_of lin = lin / PAGE_SIZE

-- the address of an entry of the table in a frame
abbrev pub entry_place : ℕ → ℕ → ℕ
entry_place frame index = PAGE_SIZE * frame + PAGE_ENTRY_SIZE * index

-- the directory entry of a linear address: bits 31 to 22 are its index
abbrev pub directory_entry : List ℕ → ℕ → ℕ → ℕ
directory_entry bytes root lin = dword bytes (entry_place root (lin / TABLE_SPAN))

-- the address of its table entry: bits 21 to 12 are its index
abbrev pub table_place : List ℕ → ℕ → ℕ → ℕ
table_place bytes root lin =
    entry_place (frame_of (directory_entry bytes root lin)) (lin / PAGE_SIZE % TABLE_ENTRIES)

-- its table entry
abbrev pub table_entry : List ℕ → ℕ → ℕ → ℕ
table_entry bytes root lin = dword bytes (table_place bytes root lin)

-- each entry of the directory names a frame inside the memory
abbrev pub TablesInside : List ℕ → ℕ → Type 0
TablesInside bytes root =
    (index : ℕ) → index < TABLE_ENTRIES → IsFrame bytes (frame_of (dword bytes (entry_place root index)))

-- a walk that fails: whether both entries were present
abbrev pub fault : Bool → Result ℕ PageFault
fault both = Err (record { present = both })

-- where an access ends that meets these two entries. Presence is asked of both before rights of both
unfoldable pub walk_end : ℕ → ℕ → ℕ → Bool → Result ℕ PageFault
walk_end directory table lin write =
    if not (has_bit directory PRESENT) || not (has_bit table PRESENT) then fault false
    else if allows directory write && allows table write then Ok (PAGE_SIZE * frame_of table + lin % PAGE_SIZE)
    else fault true

-- where an access to a linear address ends, by the directory in frame root
unfoldable pub walked : List ℕ → ℕ → ℕ → Bool → Result ℕ PageFault
walked bytes root lin write = walk_end (directory_entry bytes root lin) (table_entry bytes root lin) lin write
