-- The memory holds a world, said of its bytes with no decoding: a reader of this page need not trust how `world_of` reads them.
-- Source: own; the entries of pages by the 80386 Programmer's Reference Manual, ch. 5, "Page Translation".
use Rattle.std.specs.Prelude.{◌≡◌, ◌≢◌, ℕ, ◌+◌, ◌-◌, ◌*◌, ◌/◌, ◌%◌, ◌<◌, ◌≤◌, true, false, cond, List, length, None, Some, slice_index}
use Rattle.std.specs.{Prelude.{slice_index_or, slice_get}, declared.option.Option.{Option}}
use Rattle.client_world.specs.{declared.segments.FarPtr.{FarPtr}, declared.dos_memory.DosEntry.{DosEntry}, declared.calls.Record.{Record}}
use Rattle.client_world.specs.declared.host_frames.TheConstants.{PAGE_SIZE, PAGE_DIRECTORY, LOW_TABLE, WINDOW_TABLE, BLOCK_TABLES}
use Rattle.client_world.specs.declared.host_frames.TheConstants.{DESCRIPTOR_ROWS, VECTORS, RECORDS, BLOCK_ROWS, LOCK_COUNTS, DOS_LIST}
use Rattle.client_world.specs.declared.host_frames.TheConstants.{TAKEN_FRAMES, BUDGET_FRAMES, DESCRIPTORS, DESCRIPTOR_ROW_SIZE}
use Rattle.client_world.specs.declared.host_frames.TheConstants.{BLOCK_ROW_SIZE, CALLBACK_SIZE, LOCK_COUNT_SIZE, PAGE_ENTRY_SIZE}
use Rattle.client_world.specs.declared.host_frames.TheConstants.{TABLE_ENTRIES, VECTOR_SIZE, RECORD_FRAMES, VECTOR_FRAMES}
use Rattle.client_world.specs.{declared.limits.TheConstants.{MAX_BLOCKS, MAX_PAGES, CALLBACKS}, declared.memory_map.TheConstants.{DOS_SIZE}}
use Rattle.client_world.specs.{declared.memory_map.TheConstants.{DOS_VIEW_PAGES, BLOCK_REGION, BLOCK_REGION_PAGES}, Selector.{row_at_index}}
use Rattle.client_world.specs.{Soundness.{pages_of_block}, World.{World, MemoryBlock, base_of_block, block_at}}
use Rattle.guest_ram.specs.Bytes.{dword, word_of}
use Rattle.desc_table.specs.Rows.{row_bytes}
use Rattle.page_tables.specs.{Entry.{page_entry}, FreeList.{HasFreeList}}
use Rattle.host_memory.specs.Vectors.{vector_bytes, callback_bytes, exceptions_start, callbacks_start, pageable_start, head_end}
use Rattle.host_memory.specs.{Records.{record_bytes, record_size}, DosList.{entry_bytes, entry_size, list_size}}
use Rattle.host_memory.specs.Tables.{directory_entry_at, low_entry_at, window_entry_at, NamesBudgetFrame}

-- the address of a byte of a host frame
abbrev pub frame_place : ℕ → ℕ → ℕ
frame_place frame at = PAGE_SIZE * frame + at

-- the page entry of a page of the block region
abbrev pub block_entry : List ℕ → ℕ → ℕ
block_entry b page = dword b (frame_place BLOCK_TABLES (PAGE_ENTRY_SIZE * page))

-- a page of a block, counted from the start of the block region
abbrev pub block_page : MemoryBlock → ℕ → ℕ
block_page block page = (block.base - BLOCK_REGION) / PAGE_SIZE + page

-- no block has that page of the block region
abbrev pub IsNoBlocks : World → ℕ → Type 0
IsNoBlocks w page = (handle offset : ℕ) (block : MemoryBlock) → block_at w.blocks handle ≡ Some block →
    offset < length block.locks → page ≢ block_page block offset

-- the row of a handle: its block's linear address and pages as doublewords, and zeros; all are 0 where it is free
pub record IsBlockRow (b : List ℕ) (at : ℕ) (block : Option MemoryBlock) : Type 0 where
  pub base : dword b at ≡ base_of_block block
  pub pages : dword b (at + 4) ≡ pages_of_block block
  pub rest : (offset : ℕ) → 8 ≤ offset → offset < BLOCK_ROW_SIZE → slice_index b (at + offset) ≡ 0

-- the page tables: the entries that never change, and those of the block region
pub record HoldsTables (b : List ℕ) (w : World) : Type 0 where
  pub directory : (index : ℕ) → index < TABLE_ENTRIES →
      dword b (frame_place PAGE_DIRECTORY (PAGE_ENTRY_SIZE * index)) ≡ directory_entry_at index
  pub low : (page : ℕ) → page < TABLE_ENTRIES → dword b (frame_place LOW_TABLE (PAGE_ENTRY_SIZE * page)) ≡ low_entry_at page
  pub window : (page : ℕ) → page < TABLE_ENTRIES → dword b (frame_place WINDOW_TABLE (PAGE_ENTRY_SIZE * page)) ≡ window_entry_at page
  -- each page of a block lies in a budget frame, which the client may read and write
  pub named : (handle page : ℕ) (block : MemoryBlock) → block_at w.blocks handle ≡ Some block → page < length block.locks →
      NamesBudgetFrame w.budget (block_entry b (block_page block page))
  -- each other page of the region is absent
  pub absent : (page : ℕ) → page < BLOCK_REGION_PAGES → IsNoBlocks w page → block_entry b page ≡ 0
  -- no frame is named twice
  pub once : (page other : ℕ) → page < BLOCK_REGION_PAGES → other < BLOCK_REGION_PAGES → page ≢ other →
      block_entry b page ≢ 0 → block_entry b page ≢ block_entry b other

-- what a taken byte says: 1 where a page of the block region lies in that frame of the budget, else 0
pub record HoldsTaken (b : List ℕ) (w : World) : Type 0 where
  pub taken : (page frame : ℕ) → page < BLOCK_REGION_PAGES → frame < w.budget →
      block_entry b page ≡ page_entry (BUDGET_FRAMES + frame) true → slice_index b (frame_place TAKEN_FRAMES frame) ≡ 1
  pub free : (frame : ℕ) → frame < w.budget →
      ((page : ℕ) → page < BLOCK_REGION_PAGES → block_entry b page ≢ page_entry (BUDGET_FRAMES + frame) true) →
      slice_index b (frame_place TAKEN_FRAMES frame) ≡ 0
  pub beyond : (frame : ℕ) → w.budget ≤ frame → frame < MAX_PAGES → slice_index b (frame_place TAKEN_FRAMES frame) ≡ 0

-- the blocks: their bytes in the frames of their pages, their rows, and the lock counts
pub record HoldsBlocks (b : List ℕ) (w : World) : Type 0 where
  pub bytes : (handle at : ℕ) (block : MemoryBlock) → block_at w.blocks handle ≡ Some block → at < length block.bytes →
      slice_index b (frame_place (block_entry b (block_page block (at / PAGE_SIZE)) / PAGE_SIZE) (at % PAGE_SIZE))
      ≡ slice_index block.bytes at
  pub rows : (handle : ℕ) → 0 < handle → handle ≤ MAX_BLOCKS →
      IsBlockRow b (frame_place BLOCK_ROWS (BLOCK_ROW_SIZE * (handle - 1))) (block_at w.blocks handle)
  pub locks : (handle page : ℕ) (block : MemoryBlock) → block_at w.blocks handle ≡ Some block → page < length block.locks →
      word_of b (frame_place LOCK_COUNTS (LOCK_COUNT_SIZE * block_page block page)) ≡ slice_index block.locks page
  pub unlocked : (page : ℕ) → page < BLOCK_REGION_PAGES → IsNoBlocks w page →
      word_of b (frame_place LOCK_COUNTS (LOCK_COUNT_SIZE * page)) ≡ 0

-- the frame of the vectors: each list in its place, then the head of the list of free frames, and zeros after it
pub record HoldsVectors (b : List ℕ) (w : World) : Type 0 where
  pub interrupts : (n at : ℕ) (p : FarPtr) → slice_get w.interrupt_vectors n ≡ Some p → at < VECTOR_SIZE →
      slice_index b (frame_place VECTORS (VECTOR_SIZE * n + at)) ≡ slice_index (vector_bytes p) at
  pub exceptions : (n at : ℕ) (p : FarPtr) → slice_get w.exception_vectors n ≡ Some p → at < VECTOR_SIZE →
      slice_index b (frame_place VECTORS (exceptions_start + (VECTOR_SIZE * n + at))) ≡ slice_index (vector_bytes p) at
  pub callbacks : (slot at : ℕ) → slot < CALLBACKS → at < CALLBACK_SIZE →
      slice_index b (frame_place VECTORS (callbacks_start + (CALLBACK_SIZE * slot + at)))
      ≡ slice_index (callback_bytes (slice_index_or w.callbacks slot None)) at
  pub pageable : (page : ℕ) → page < DOS_VIEW_PAGES →
      slice_index b (frame_place VECTORS (pageable_start + page)) ≡ cond (slice_index_or w.pageable page false) 1 0
  pub rest : (at : ℕ) → head_end ≤ at → at < PAGE_SIZE * VECTOR_FRAMES → slice_index b (frame_place VECTORS at) ≡ 0

-- lists whose length the world gives: their items one after another, and zeros after them
pub record HoldsLists (b : List ℕ) (w : World) : Type 0 where
  pub records : (place at : ℕ) (r : Record) → slice_get w.calls place ≡ Some r → at < record_size →
      slice_index b (frame_place RECORDS (record_size * place + at)) ≡ slice_index (record_bytes r) at
  pub no_more_records : (at : ℕ) → record_size * length w.calls ≤ at → at < PAGE_SIZE * RECORD_FRAMES →
      slice_index b (frame_place RECORDS at) ≡ 0
  pub entries : (place at : ℕ) (entry : DosEntry) → slice_get w.arena place ≡ Some entry → at < entry_size →
      slice_index b (frame_place DOS_LIST (entry_size * place + at)) ≡ slice_index (entry_bytes entry) at
  pub no_more_entries : (at : ℕ) → entry_size * length w.arena ≤ at → at < list_size → slice_index b (frame_place DOS_LIST at) ≡ 0

-- the bytes hold the world
pub record HoldsWorld (b : List ℕ) (w : World) : Type 0 where
  pub size : length b ≡ PAGE_SIZE * (BUDGET_FRAMES + w.budget)
  pub budget : w.budget ≤ MAX_PAGES
  pub megabyte : (at : ℕ) → at < DOS_SIZE → slice_index b at ≡ slice_index w.dos at
  pub tables : HoldsTables b w
  pub taken : HoldsTaken b w
  pub free : HasFreeList b
  pub descriptors : (index at : ℕ) → index < DESCRIPTORS → at < DESCRIPTOR_ROW_SIZE →
      slice_index b (frame_place DESCRIPTOR_ROWS (DESCRIPTOR_ROW_SIZE * index + at))
      ≡ slice_index (row_bytes (row_at_index w.descriptors index)) at
  pub blocks : HoldsBlocks b w
  pub vectors : HoldsVectors b w
  pub lists : HoldsLists b w
