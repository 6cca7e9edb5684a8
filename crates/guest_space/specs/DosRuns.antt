-- The descriptors of a block of DOS memory, and the arena changed together with them.
-- Source: DPMI 0.9, INT 31h functions 0100h to 0102h, of a 32-bit host; that a last descriptor of whole 64 KB has the limit FFFFh is own.
use Rattle.std.specs.Prelude.{◌≡◌, ◌≢◌, ℕ, zero, suc, ◌+◌, ◌-◌, ◌*◌, ◌≤◌, true, false, List, [], ◌∷◌, length, take, drop, None, Some, max}
use Rattle.std.specs.Prelude.{min, nat_eq, nat_lt, if◌then◌else◌, slice_set}
use Rattle.client_world.specs.{declared.descriptors.Desc.{Desc}, declared.descriptors.Kind.TheVariants.{Data}}
use Rattle.client_world.specs.{declared.descriptors.Origin.TheVariants.{Dos}, declared.dos_memory.DosEntry.{DosEntry}}
use Rattle.client_world.specs.{declared.dos_memory.DosRun.{DosRun}, declared.host_frames.TheConstants.{FIRST_FREE_DESCRIPTOR}}
use Rattle.client_world.specs.{declared.memory_map.TheConstants.{PARAGRAPH_SIZE}, Descriptor.{plain}, DosMemory.{IsArena, is_dpmi}}
use Rattle.client_world.specs.{DosMemory.{block_segment}, FreeRuns.{IsFreeRunOf}, Selector.{Row}, Soundness.{IsRunOf, descriptors_for}}
use Rattle.client_world.specs.World.{World}
use Rattle.guest_ram.specs.Bytes.{put}
use Rattle.desc_table.specs.Rows.{row_address, row_bytes}
use Rattle.guest_space.specs.Arena.{with_replaced_entries, with_entries}

-- the limit of descriptor j of a block of n paragraphs: the first has the whole block, the others 64 KB of it, the last of them the rest
abbrev pub dos_limit : ℕ → ℕ → ℕ
dos_limit n j = if nat_eq j 0 then PARAGRAPH_SIZE * n - 1 else min 0xFFFF (PARAGRAPH_SIZE * n - 0x10000 * j - 1)

-- present, writable data
abbrev pub dos_descriptor : ℕ → ℕ → ℕ → Desc
dos_descriptor segment n j = plain (Data true false) (PARAGRAPH_SIZE * segment + 0x10000 * j) (dos_limit n j) false

-- descriptor j of the block, nothing where it has fewer
unfoldable pub dos_row : ℕ → ℕ → ℕ → Row
dos_row segment n j = if nat_lt j (descriptors_for n) then Some (dos_descriptor segment n j, Dos segment) else None

-- the rows with the first ones of a run put
unfoldable pub with_dos_rows : List Row → DosRun → ℕ → List Row
with_dos_rows rows run zero = rows
with_dos_rows rows run (suc j) = slice_set (with_dos_rows rows run j) (run.first + j) (dos_row run.seg run.after j)

-- as many are put as the block has before and after
abbrev pub rows_of_run : DosRun → ℕ
rows_of_run run = max (descriptors_for run.before) (descriptors_for run.after)

-- the world with other entries in place of some, and the descriptors of the block among them
abbrev pub with_entries_and_run : World → ℕ → ℕ → List DosEntry → DosRun → World
with_entries_and_run w place old new run =
    record (with_entries w place old new) { descriptors = with_dos_rows w.descriptors run (rows_of_run run) }

-- the bytes of the same rows
unfoldable pub with_run_bytes : List ℕ → DosRun → ℕ → List ℕ
with_run_bytes b run zero = b
with_run_bytes b run (suc j) = put (with_run_bytes b run j) (row_address (run.first + j)) (row_bytes (dos_row run.seg run.after j))

-- the blocks of function 0100h among entries: the segment and the paragraphs of each
abbrev pub made_blocks : List DosEntry → List (ℕ × ℕ)
made_blocks [] = []
made_blocks (entry ∷ entries) =
    if is_dpmi entry.state then (block_segment entry, entry.paras) ∷ made_blocks entries else made_blocks entries

-- a block alone, or none where it has no paragraphs
abbrev pub block_alone : ℕ → ℕ → List (ℕ × ℕ)
block_alone segment n = if nat_eq n 0 then [] else (segment, n) ∷ []

-- the entries may be put together with the run: of the blocks of function 0100h they change that one alone, its descriptors begin where the
-- run says, and those that are added are free
pub record CanPutRun (w : World) (place old : ℕ) (new : List DosEntry) (run : DosRun) : Type 0 where
  pub width : w.width ≢ None
  pub within : place + old ≤ length w.arena
  pub arena : IsArena (with_replaced_entries w.arena place old new)
  pub old_block : made_blocks (take old (drop place w.arena)) ≡ block_alone run.seg run.before
  pub new_block : made_blocks new ≡ block_alone run.seg run.after
  pub from : FIRST_FREE_DESCRIPTOR ≤ run.first
  pub old_run : IsRunOf w.descriptors (Dos run.seg) run.first (descriptors_for run.before)
  pub added : IsFreeRunOf w.descriptors (run.first + descriptors_for run.before) (descriptors_for run.after - descriptors_for run.before)
