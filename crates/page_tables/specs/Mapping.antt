-- What maps a page, and what that changes. The directory is the host's own.
-- Source: 80386 Programmer's Reference Manual, ch. 5, "Page Translation"; own.
use Rattle.std.specs.Prelude.{◌≡◌, ◌≢◌, ℕ, ◌+◌, ◌*◌, ◌%◌, ◌<◌, ◌^◌, Bool, true, false, ◌&&◌, ◌||◌, not, if◌then◌else◌, IsTrue, Result, Ok}
use Rattle.std.specs.Prelude.{List}
use Rattle.client_world.specs.{Registers.{has_bit}, declared.faults.PageFault.{PageFault}, declared.host_frames.TheConstants.{PAGE_SIZE}}
use Rattle.client_world.specs.declared.host_frames.TheConstants.{PAGE_DIRECTORY, TABLE_ENTRIES}
use Rattle.guest_ram.specs.Bytes.{dword}
use Rattle.page_tables.specs.{Entry.{allows}, Walk.{IsFrame, TablesInside, fault, frame_of, page_of, entry_place, directory_entry}}
use Rattle.page_tables.specs.{Walk.{table_entry, walked}, declared.entry.TheConstants.{PRESENT}}

-- an entry of the directory
abbrev pub directory_word : List ℕ → ℕ → ℕ
directory_word bytes index = dword bytes (entry_place PAGE_DIRECTORY index)

-- it names a page table
abbrev pub NamesTable : List ℕ → ℕ → Type 0
NamesTable bytes index = IsTrue (has_bit (directory_word bytes index) PRESENT)

-- the directory and its page tables lie inside the memory, each in a frame of its own
pub record HasTables (bytes : List ℕ) : Type 0 where
  pub directory : IsFrame bytes PAGE_DIRECTORY
  pub inside : TablesInside bytes PAGE_DIRECTORY
  pub beside : (index : ℕ) → index < TABLE_ENTRIES → NamesTable bytes index →
      frame_of (directory_word bytes index) ≢ PAGE_DIRECTORY
  pub apart : (index other : ℕ) → index < TABLE_ENTRIES → other < TABLE_ENTRIES → index ≢ other →
      NamesTable bytes index → NamesTable bytes other →
      frame_of (directory_word bytes index) ≢ frame_of (directory_word bytes other)

-- a page table covers the linear address
abbrev pub IsCovered : List ℕ → ℕ → Type 0
IsCovered bytes lin = IsTrue (has_bit (directory_entry bytes PAGE_DIRECTORY lin) PRESENT)

-- its page is nowhere
abbrev pub IsUnmapped : List ℕ → ℕ → Type 0
IsUnmapped bytes lin = has_bit (table_entry bytes PAGE_DIRECTORY lin) PRESENT ≡ false

-- its page lies in a frame
pub record IsMapped (bytes : List ℕ) (lin : ℕ) : Type 0 where
  pub covered : IsCovered bytes lin
  pub present : IsTrue (has_bit (table_entry bytes PAGE_DIRECTORY lin) PRESENT)

-- where an access ends in a mapped page: its directory entry, and whether the page is writable, decide
unfoldable pub ended_in_frame : ℕ → ℕ → Bool → ℕ → Bool → Result ℕ PageFault
ended_in_frame directory frame writable lin write =
    if allows directory write && (not write || writable) then Ok (PAGE_SIZE * frame + lin % PAGE_SIZE)
    else fault true

-- each walk of that page ends in the frame
abbrev pub EndsInFrame : List ℕ → List ℕ → ℕ → ℕ → Bool → Type 0
EndsInFrame old new lin frame writable = (other : ℕ) (write : Bool) → page_of other ≡ page_of lin →
    walked new PAGE_DIRECTORY other write
    ≡ ended_in_frame (directory_entry old PAGE_DIRECTORY lin) frame writable other write

-- no walk of that page ends, since nothing is present there
abbrev pub EndsNowhere : List ℕ → ℕ → Type 0
EndsNowhere new lin = (other : ℕ) (write : Bool) → page_of other ≡ page_of lin →
    walked new PAGE_DIRECTORY other write ≡ fault false

-- each walk of another page ends as before
abbrev pub KeepsOtherPages : List ℕ → List ℕ → ℕ → Type 0
KeepsOtherPages old new lin = (other : ℕ) (write : Bool) → other < 2 ^ 32 → page_of other ≢ page_of lin →
    walked new PAGE_DIRECTORY other write ≡ walked old PAGE_DIRECTORY other write
