-- The cache of translations: what an entry in use says, and its place. That entries are forgotten when blocks change is own.
-- Source: 80386 Programmer's Reference Manual, ch. 5, "Page Translation Cache".
use Rattle.std.specs.Prelude.{◌≡◌, ℕ, ◌+◌, ◌*◌, ◌%◌, ◌<◌, Bool, true, false, nat_lt, List, length, Ok, Err, slice_index_or, if◌then◌else◌}
use Rattle.std.specs.declared.result.Result.{Result}
use Rattle.client_world.specs.{declared.faults.PageFault.{PageFault}, declared.host_frames.TheConstants.{PAGE_SIZE, PAGE_DIRECTORY}}
use Rattle.page_tables.specs.Walk.{fault, walked}
use Rattle.guest_space.specs.{declared.pages.CacheEntry.{CacheEntry}, declared.pages.TheConstants.{CACHE_SIZE}}

-- the number of pages of the linear addresses, and of frames that a page entry can name
abbrev pub pages_in_all : ℕ
pages_in_all = 0x100000

-- whether a walk ends, and doesn't fail
abbrev pub ends : Result ℕ PageFault → Bool
ends (Ok address) = true
ends (Err f) = false

-- what an entry says of a byte of its page: it may be read, and written where the entry says so
abbrev pub cached_answer : CacheEntry → ℕ → Bool → Result ℕ PageFault
cached_answer entry at true = if entry.writable then Ok (PAGE_SIZE * entry.frame + at) else fault true
cached_answer entry at false = Ok (PAGE_SIZE * entry.frame + at)

-- this is what the walk gives at each byte of the page
pub record Hit (b : List ℕ) (entry : CacheEntry) : Type 0 where
  pub page : entry.page < pages_in_all
  pub frame : entry.frame < pages_in_all
  pub same : (at : ℕ) (write : Bool) → at < PAGE_SIZE →
      walked b PAGE_DIRECTORY (PAGE_SIZE * entry.page + at) write ≡ cached_answer entry at write

-- an entry that isn't in use has a number that no page has
abbrev pub empty_entry : CacheEntry
empty_entry = record { used = false; page = pages_in_all; frame = 0; writable = false }

-- the entry at a place; of one past the end nothing is said
abbrev pub entry_at : List CacheEntry → ℕ → CacheEntry
entry_at cache i = slice_index_or cache i (record { used = false; page = 0; frame = 0; writable = false })

-- so it is for each entry in use, which is one with the number of a page; and that of page p is entry p modulo the number of entries
pub record Warm (b : List ℕ) (cache : List CacheEntry) : Type 0 where
  pub long : length cache ≡ CACHE_SIZE
  pub flag : (i : ℕ) → i < CACHE_SIZE → (entry_at cache i).used ≡ nat_lt (entry_at cache i).page pages_in_all
  pub hit : (i : ℕ) → i < CACHE_SIZE → (entry_at cache i).page < pages_in_all → Hit b (entry_at cache i)
  pub place : (i : ℕ) → i < CACHE_SIZE → (entry_at cache i).page < pages_in_all → (entry_at cache i).page % CACHE_SIZE ≡ i
