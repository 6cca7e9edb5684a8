-- The memory holds a world: its bytes are exactly those that the world asks for. Source: own.
use Rattle.std.specs.{Prelude.{◌≡◌, ℕ, ◌+◌, ◌*◌, ◌<◌, ◌≤◌, List, length, slice_index}, List.{range_with_len}}
use Rattle.client_world.specs.declared.host_frames.TheConstants.{PAGE_SIZE, BUDGET_FRAMES, DESCRIPTORS, DESCRIPTOR_ROW_SIZE, BLOCK_ROW_SIZE}
use Rattle.client_world.specs.{declared.limits.TheConstants.{MAX_BLOCKS, MAX_PAGES}, declared.memory_map.TheConstants.{BLOCK_REGION_PAGES}}
use Rattle.guest_ram.specs.{Bytes.{dword}, Count.{used, total}}
use Rattle.desc_table.specs.Rows.{row_at, row_bytes}
use Rattle.page_tables.specs.FreeList.{ListsFree}
use Rattle.host_memory.specs.Layout.{fixed_part, tables_part, rows_part, vectors_part, records_part, handles_part, locks_part, arena_part}
use Rattle.host_memory.specs.{Layout.{taken_part, budget_part, pages_of, lock_of}, Vectors.{KeepsVectors, head_start}}
use Rattle.host_memory.specs.{Records.{KeepsRecords}, DosList.{KeepsArena}, Tables.{HasFixedEntries, HasBlockEntries, IsIdle, IsOutside}}
use Rattle.host_memory.specs.Tables.{next_frame}

-- each row of descriptors is exactly the bytes of what it holds
pub record KeepsRows (rows : List ℕ) : Type 0 where
  pub each : (index at : ℕ) → index < DESCRIPTORS → at < DESCRIPTOR_ROW_SIZE →
      slice_index rows (DESCRIPTOR_ROW_SIZE * index + at) ≡ slice_index (row_bytes (row_at rows (DESCRIPTOR_ROW_SIZE * index))) at

-- the row of a block is its linear address and its pages; the row of a free handle is 0
pub record KeepsHandles (handles : List ℕ) : Type 0 where
  pub rest : (place at : ℕ) → place < MAX_BLOCKS → 8 ≤ at → at < BLOCK_ROW_SIZE → slice_index handles (BLOCK_ROW_SIZE * place + at) ≡ 0
  pub free : (place at : ℕ) → place < MAX_BLOCKS → pages_of handles place ≡ 0 → at < BLOCK_ROW_SIZE →
      slice_index handles (BLOCK_ROW_SIZE * place + at) ≡ 0

-- the pages of all blocks
unfoldable pub all_pages : List ℕ → ℕ
all_pages handles = total (pages_of handles) (range_with_len 0 MAX_BLOCKS)

-- from the head on follow exactly the frames of the budget whose taken byte is 0, each once: the first doubleword of each names the next
-- one
abbrev pub ListsFreeFrames : List ℕ → List ℕ → List ℕ → ℕ → Type 0
ListsFreeFrames vectors taken frames budget = ListsFree (dword vectors head_start) (next_frame frames) (IsIdle taken budget)

-- pages that no block holds have no lock
pub record KeepsLocks (handles locks : List ℕ) : Type 0 where
  pub outside : (page : ℕ) → page < BLOCK_REGION_PAGES → IsOutside handles page → lock_of locks page ≡ 0

-- the memory holds a world of that page budget. Which world it is, `world_of` reads
pub record Holds (b : List ℕ) (budget : ℕ) : Type 0 where
  pub size : length b ≡ PAGE_SIZE * (BUDGET_FRAMES + budget)
  pub most : budget ≤ MAX_PAGES
  pub fixed : HasFixedEntries (fixed_part b)
  pub rows : KeepsRows (rows_part b)
  pub vectors : KeepsVectors (vectors_part b)
  pub records : KeepsRecords (records_part b)
  pub handles : KeepsHandles (handles_part b)
  pub blocks : HasBlockEntries (handles_part b) (tables_part b) (taken_part b) budget
  pub free : ListsFreeFrames (vectors_part b) (taken_part b) (budget_part b budget) budget
  pub count : used (taken_part b) ≡ all_pages (handles_part b)
  pub locks : KeepsLocks (handles_part b) (locks_part b)
  pub arena : KeepsArena (arena_part b)
