-- The page tables, the taken bytes and the blocks of a memory that holds a world, said with no decoding; so a memory that holds a sound
-- world has exactly the bytes that the world asks for.
use Rattle.std.proofs.Common.{◌≡◌, ◌≢◌, ℕ, suc, ◌+◌, ◌-◌, ◌*◌, ◌/◌, ◌<◌, inl, inr, true, List, length, slice_index, Some, ap, ◌∙◌, sym}
use Rattle.std.proofs.{Common.{arith, zero, ◌%◌, ◌≤◌, subst, add-zero, Bool, zero-add}, lemmas.Bool.{cases_eq}}
use Rattle.std.specs.declared.option.Option.{Option}
use Rattle.client_world.specs.declared.host_frames.TheConstants.{PAGE_SIZE, PAGE_DIRECTORY, LOW_TABLE, WINDOW_TABLE, BLOCK_TABLES}
use Rattle.client_world.specs.declared.host_frames.TheConstants.{TAKEN_FRAMES, BUDGET_FRAMES, BLOCK_TABLE_FRAMES, FIXED_TABLE_FRAMES}
use Rattle.client_world.specs.declared.host_frames.TheConstants.{PAGE_ENTRY_SIZE, TAKEN_BYTE_FRAMES, BLOCK_ROWS, LOCK_COUNTS}
use Rattle.client_world.specs.declared.host_frames.TheConstants.{BLOCK_ROW_FRAMES, BLOCK_ROW_SIZE, LOCK_COUNT_FRAMES, LOCK_COUNT_SIZE}
use Rattle.client_world.specs.declared.host_frames.TheConstants.{DESCRIPTOR_ROWS, DESCRIPTORS, DESCRIPTOR_ROW_SIZE, DESCRIPTOR_ROW_FRAMES}
use Rattle.client_world.specs.{declared.memory_map.TheConstants.{BLOCK_REGION, BLOCK_REGION_PAGES, DOS_SIZE}, World.{World, MemoryBlock}}
use Rattle.client_world.specs.{World.{block_at, base_of_block}, declared.limits.TheConstants.{MAX_BLOCKS, MAX_PAGES}}
use Rattle.client_world.specs.{Soundness.{pages_of_block, IsSound, SoundBlocks}, declared.registers.Mode.{Mode}}
use Rattle.client_world.specs.{declared.registers.Regs.{Regs}, declared.registers.Width.{Width}, Selector.{row_at_index}}
use Rattle.guest_ram.specs.Bytes.{dword, word_of}
use Rattle.page_tables.specs.Entry.{page_entry}
use Rattle.host_memory.specs.{Holds.{Holds}, HoldsWorld.{HoldsTables, HoldsTaken, IsNoBlocks, block_entry, block_page, frame_place}}
use Rattle.host_memory.specs.{HoldsWorld.{HoldsBlocks, IsBlockRow, HoldsWorld}, Layout.{tables_part, handles_part, locks_part, budget_part}}
use Rattle.host_memory.specs.Layout.{taken_part, pages_of, first_page_of, entry_of, held_block, blocks_in, base_of, world_of, dos_part}
use Rattle.host_memory.specs.{Layout.{rows_part}, Tables.{NamesBudgetFrame, IsOutside, low_table_start, window_table_start}}
use Rattle.host_memory.proofs.{ClientPlaces.{page_small, IsBlockByte, page_inside, byte_frame, spot_small, spot}, BlockRows.{HeldRow}}
use Rattle.host_memory.proofs.BlockRows.{HasRanges, held_row, held_base, length-held_locks, block_there, held_byte, held_lock, block_free}
use Rattle.host_memory.proofs.{BlockRows.{ranges}, Parts.{part_byte, part_dword, part_word, list_of_parts, dos_is, arena_is, blocks_is}}
use Rattle.host_memory.proofs.Parts.{budget_is, pageable_is, descriptors_is, interrupt_vectors_is, exception_vectors_is, callbacks_is}
use Rattle.host_memory.proofs.{Parts.{calls_is}, ListsClaim.{lists_claim, vectors_claim}}
use Rattle.guest_ram.proofs.PutLaws.{at_region}
use Rattle.desc_table.specs.Rows.{row_bytes, rows_from}
use Rattle.desc_table.proofs.RowLaws.{at_rows_from}

-- the blocks of the world are those that the memory holds
abbrev pub HasBlocks : List ℕ → ℕ → World → Type 0
HasBlocks b budget w = w.blocks ≡ blocks_in (handles_part b) (tables_part b) (locks_part b) (budget_part b budget)

-- the row after a block of it
abbrev pub RowOf : List ℕ → ℕ → ℕ → MemoryBlock → Type 0
RowOf b budget handle block = HeldRow (handles_part b) (tables_part b) (locks_part b) (budget_part b budget) handle block

pub row_of_block : (b : List ℕ) (budget : ℕ) (w : World) → HasBlocks b budget w → (handle : ℕ) (block : MemoryBlock) →
    block_at w.blocks handle ≡ Some block → RowOf b budget handle block
row_of_block b budget w has handle block e = grind (arith, held_row)

-- a page of a block is that page of its row
pub page_of_row : (b : List ℕ) (budget handle : ℕ) (block : MemoryBlock) (row : RowOf b budget handle block) (page : ℕ) →
    block_page block page ≡ first_page_of (handles_part b) row.place + page
page_of_row b budget handle block row page = ap (λ (base : ℕ). (base - BLOCK_REGION) / PAGE_SIZE + page) row.gives.base

-- the entry of a page of the block region
pub entry_is : (b : List ℕ) (page : ℕ) → page < BLOCK_REGION_PAGES → block_entry b page ≡ entry_of (tables_part b) page
entry_is b page small = part_dword b BLOCK_TABLES BLOCK_TABLE_FRAMES (PAGE_ENTRY_SIZE * page) (omega arith)

-- a page that no block of the world has belongs to no row
pub outside_rows : (b : List ℕ) (budget : ℕ) (w : World) → HasBlocks b budget w → (page : ℕ) → IsNoBlocks w page →
    IsOutside (handles_part b) page
outside_rows b budget w has page none = λ place offset within small same.
    let some : pages_of (handles_part b) place ≢ 0 = omega arith in
    none (suc place) offset (block place)
    (ap (λ (blocks : List (Option MemoryBlock)). block_at blocks (suc place)) has
    ∙ block_there (handles_part b) (tables_part b) (locks_part b) (budget_part b budget) place within some)
    (let long = length-held_locks (handles_part b) (tables_part b) (locks_part b) (budget_part b budget) place in omega arith)
    (same ∙ sym (ap (λ (base : ℕ). (base - BLOCK_REGION) / PAGE_SIZE + offset)
    (held_base (handles_part b) (tables_part b) (locks_part b) (budget_part b budget) place)))
  where
    block : ℕ → MemoryBlock
    block place = held_block (handles_part b) (tables_part b) (locks_part b) (budget_part b budget) place

-- the page tables
pub tables_claim : (b : List ℕ) (budget : ℕ) (w : World) → Holds b budget → HasRanges (handles_part b) → HasBlocks b budget w →
    w.budget ≡ budget → HoldsTables b w
tables_claim b budget w holds ranges has budgets = record {
  directory = λ index small. part_dword b PAGE_DIRECTORY FIXED_TABLE_FRAMES (PAGE_ENTRY_SIZE * index) (omega arith)
      ∙ holds.fixed.directory index small;
  low = λ page small. ap (dword b) (let e : frame_place LOW_TABLE (PAGE_ENTRY_SIZE * page)
      ≡ frame_place PAGE_DIRECTORY (low_table_start + PAGE_ENTRY_SIZE * page) = omega arith in e)
      ∙ part_dword b PAGE_DIRECTORY FIXED_TABLE_FRAMES (low_table_start + PAGE_ENTRY_SIZE * page) (omega arith)
      ∙ holds.fixed.low page small;
  window = λ page small. ap (dword b) (let e : frame_place WINDOW_TABLE (PAGE_ENTRY_SIZE * page)
      ≡ frame_place PAGE_DIRECTORY (window_table_start + PAGE_ENTRY_SIZE * page) = omega arith in e)
      ∙ part_dword b PAGE_DIRECTORY FIXED_TABLE_FRAMES (window_table_start + PAGE_ENTRY_SIZE * page) (omega arith)
      ∙ holds.fixed.window page small;
  named = named;
  absent = λ page small none. entry_is b page small ∙ holds.blocks.absent page small (outside_rows b budget w has page none);
  once = λ page other small less ne there same. holds.blocks.once page other small less ne
      (λ none. there (entry_is b page small ∙ none)) (sym (entry_is b page small) ∙ same ∙ entry_is b other less);
}
  where
    named : (handle page : ℕ) (block : MemoryBlock) → block_at w.blocks handle ≡ Some block → page < length block.locks →
        NamesBudgetFrame w.budget (block_entry b (block_page block page))
    named handle page block e inside =
        let row = row_of_block b budget w has handle block e in
        let pages = row.gives.pages in
        let less : page < pages_of (handles_part b) row.place = omega arith in
        let small = page_small (handles_part b) ranges row.place page row.within less in
        rw (budgets, page_of_row b budget handle block row page, entry_is b (first_page_of (handles_part b) row.place + page) small)
        (holds.blocks.named row.place page row.within less)

-- the taken bytes
pub taken_claim : (b : List ℕ) (budget : ℕ) (w : World) → Holds b budget → w.budget ≡ budget → HoldsTaken b w
taken_claim b budget w holds budgets =
    let most = holds.most in
    record {
      taken = λ page frame small less named.
          let inside : frame < budget = omega arith in
          part_byte b TAKEN_FRAMES TAKEN_BYTE_FRAMES frame (omega arith)
          ∙ taken_one page frame small inside (sym (entry_is b page small) ∙ named);
      free = λ frame less none.
          let inside : frame < budget = omega arith in
          part_byte b TAKEN_FRAMES TAKEN_BYTE_FRAMES frame (omega arith) ∙ taken_none frame inside none;
      beyond = λ frame from less. part_byte b TAKEN_FRAMES TAKEN_BYTE_FRAMES frame (omega arith)
          ∙ holds.blocks.beyond frame (omega arith) less;
    }
  where
    taken_one : (page frame : ℕ) → page < BLOCK_REGION_PAGES → frame < budget →
        entry_of (tables_part b) page ≡ page_entry (BUDGET_FRAMES + frame) true → slice_index (taken_part b) frame ≡ 1
    taken_one page frame small inside named = grind arith

    taken_none : (frame : ℕ) → frame < budget →
        ((page : ℕ) → page < BLOCK_REGION_PAGES → block_entry b page ≢ page_entry (BUDGET_FRAMES + frame) true) →
        slice_index (taken_part b) frame ≡ 0
    taken_none frame inside none = elim (cases_eq (slice_index (taken_part b) frame) 0) [
      | inl free ↦ free
      | inr some ↦ (let busy = holds.blocks.busy frame inside some in
          absurd (none busy.page busy.inside (entry_is b busy.page busy.inside ∙ busy.named)))
    ]

-- ---- the blocks: their bytes, their rows and their lock counts

-- the byte at an offset in the frame that a page entry names
abbrev pub frame_byte : List ℕ → ℕ → ℕ → ℕ
frame_byte b entry at = slice_index b (frame_place (entry / PAGE_SIZE) (at % PAGE_SIZE))

-- each byte of a block lies in the frame of its page
pub byte_claim : (b : List ℕ) (budget : ℕ) (w : World) → Holds b budget → HasRanges (handles_part b) → HasBlocks b budget w →
    (handle at : ℕ) (block : MemoryBlock) → block_at w.blocks handle ≡ Some block → at < length block.bytes →
    frame_byte b (block_entry b (block_page block (at / PAGE_SIZE))) at ≡ slice_index block.bytes at
byte_claim b budget w holds ranges has handle at block e inside =
    let row = row_of_block b budget w has handle block e in
    let long = row.gives.bytes in
    let place = row.place in
    let byte : IsBlockByte (handles_part b) place at = record { within = row.within; inside = omega arith } in
    let page = page_inside (handles_part b) place at byte in
    let small = page_small (handles_part b) ranges place (at / PAGE_SIZE) row.within page in
    let entry = entry_of (tables_part b) (first_page_of (handles_part b) place + at / PAGE_SIZE) in
    let frame = byte_frame (handles_part b) (tables_part b) _ budget holds.blocks place at byte in
    let from = frame.from in
    let address : frame_place (entry / PAGE_SIZE) (at % PAGE_SIZE)
    ≡ PAGE_SIZE * BUDGET_FRAMES + spot (tables_part b) (first_page_of (handles_part b) place) at = omega arith in
    ap (λ (p : ℕ). frame_byte b (block_entry b p) at) (page_of_row b budget handle block row (at / PAGE_SIZE))
    ∙ ap (λ (x : ℕ). frame_byte b x at) (entry_is b (first_page_of (handles_part b) place + at / PAGE_SIZE) small)
    ∙ ap (slice_index b) address
    ∙ sym (at_region b (PAGE_SIZE * BUDGET_FRAMES) (PAGE_SIZE * budget) (spot (tables_part b) (first_page_of (handles_part b) place) at)
    (spot_small (handles_part b) (tables_part b) _ budget holds.blocks place at byte))
    ∙ sym (ap (λ (x : MemoryBlock). slice_index x.bytes at) row.gives.is
    ∙ held_byte (handles_part b) (tables_part b) (locks_part b) (budget_part b budget) place at byte.inside)

-- a doubleword of four zeros is 0
dword_zero : (b : List ℕ) (at : ℕ) → slice_index b at ≡ 0 → slice_index b (at + 1) ≡ 0 → slice_index b (at + 2) ≡ 0 →
    slice_index b (at + 3) ≡ 0 → dword b at ≡ 0
unfolding dword
dword_zero b at e f g h = omega arith

-- the row of a free handle has the linear address 0
pub base_free : (b : List ℕ) (budget : ℕ) → Holds b budget → (place : ℕ) → place < MAX_BLOCKS → pages_of (handles_part b) place ≡ 0 →
    base_of (handles_part b) place ≡ 0
base_free b budget holds place within none = dword_zero (handles_part b) (BLOCK_ROW_SIZE * place)
    (ap (slice_index (handles_part b)) (sym (add-zero (BLOCK_ROW_SIZE * place))) ∙ zeros 0 (omega arith)) (zeros 1 (omega arith))
    (zeros 2 (omega arith)) (zeros 3 (omega arith))
  where
    zeros : (at : ℕ) → at < BLOCK_ROW_SIZE → slice_index (handles_part b) (BLOCK_ROW_SIZE * place + at) ≡ 0
    zeros at less = holds.handles.free place at within none less

row_claim : (b : List ℕ) (budget : ℕ) (w : World) → Holds b budget → HasBlocks b budget w → (place : ℕ) → place < MAX_BLOCKS →
    IsBlockRow b (frame_place BLOCK_ROWS (BLOCK_ROW_SIZE * place)) (block_at w.blocks (suc place))
row_claim b budget w holds has place within = record {
  base = part_dword b BLOCK_ROWS BLOCK_ROW_FRAMES (BLOCK_ROW_SIZE * place) (omega arith) ∙ fields.0;
  pages = ap (dword b) (let e : frame_place BLOCK_ROWS (BLOCK_ROW_SIZE * place) + 4 ≡ frame_place BLOCK_ROWS (BLOCK_ROW_SIZE * place + 4) =
      omega arith in e)
      ∙ part_dword b BLOCK_ROWS BLOCK_ROW_FRAMES (BLOCK_ROW_SIZE * place + 4) (omega arith) ∙ fields.1;
  rest = λ at from less. ap (slice_index b) (let e : frame_place BLOCK_ROWS (BLOCK_ROW_SIZE * place) + at
      ≡ frame_place BLOCK_ROWS (BLOCK_ROW_SIZE * place + at) = omega arith in e)
      ∙ part_byte b BLOCK_ROWS BLOCK_ROW_FRAMES (BLOCK_ROW_SIZE * place + at) (omega arith) ∙ holds.handles.rest place at within from less;
}
  where
    block : Option MemoryBlock
    block = block_at w.blocks (suc place)

    reads : (found : Option MemoryBlock) →
        block_at (blocks_in (handles_part b) (tables_part b) (locks_part b) (budget_part b budget)) (suc place) ≡ found →
        block ≡ found
    reads found e = ap (λ (blocks : List (Option MemoryBlock)). block_at blocks (suc place)) has ∙ e

    fields : (base_of (handles_part b) place ≡ base_of_block block) × (pages_of (handles_part b) place ≡ pages_of_block block)
    fields = grind (arith, base_free, block, block_free, block_there, held_base, length-held_locks, reads)

-- the row of each handle
pub rows_claim : (b : List ℕ) (budget : ℕ) (w : World) → Holds b budget → HasBlocks b budget w → (handle : ℕ) → 0 < handle →
    handle ≤ MAX_BLOCKS → IsBlockRow b (frame_place BLOCK_ROWS (BLOCK_ROW_SIZE * (handle - 1))) (block_at w.blocks handle)
rows_claim b budget w holds has zero some most = absurd (omega arith)
rows_claim b budget w holds has (suc place) some most =
    subst (λ (at : ℕ). IsBlockRow b (frame_place BLOCK_ROWS (BLOCK_ROW_SIZE * at)) (block_at w.blocks (suc place)))
    (let e : place ≡ suc place - 1 = omega arith in e) (row_claim b budget w holds has place (omega arith))

-- the lock count of each page of a block
pub lock_claim : (b : List ℕ) (budget : ℕ) (w : World) → Holds b budget → HasRanges (handles_part b) → HasBlocks b budget w →
    (handle page : ℕ) (block : MemoryBlock) → block_at w.blocks handle ≡ Some block → page < length block.locks →
    word_of b (frame_place LOCK_COUNTS (LOCK_COUNT_SIZE * block_page block page)) ≡ slice_index block.locks page
lock_claim b budget w holds ranges has handle page block e inside =
    let row = row_of_block b budget w has handle block e in
    let pages = row.gives.pages in
    let place = row.place in
    let less : page < pages_of (handles_part b) place = omega arith in
    let small = page_small (handles_part b) ranges place page row.within less in
    ap (λ (p : ℕ). word_of b (frame_place LOCK_COUNTS (LOCK_COUNT_SIZE * p))) (page_of_row b budget handle block row page)
    ∙ part_word b LOCK_COUNTS LOCK_COUNT_FRAMES (LOCK_COUNT_SIZE * (first_page_of (handles_part b) place + page)) (omega arith)
    ∙ sym (ap (λ (x : MemoryBlock). slice_index x.locks page) row.gives.is
    ∙ held_lock (handles_part b) (tables_part b) (locks_part b) (budget_part b budget) place page less)

-- the blocks
pub blocks_claim : (b : List ℕ) (budget : ℕ) (w : World) → Holds b budget → HasRanges (handles_part b) → HasBlocks b budget w →
    HoldsBlocks b w
blocks_claim b budget w holds ranges has = record {
  bytes = byte_claim b budget w holds ranges has;
  rows = rows_claim b budget w holds has;
  locks = lock_claim b budget w holds ranges has;
  unlocked = λ page small none. part_word b LOCK_COUNTS LOCK_COUNT_FRAMES (LOCK_COUNT_SIZE * page) (omega arith)
      ∙ holds.locks.outside page small (outside_rows b budget w has page none);
}

-- ---- all bytes that the world asks for

megabyte_claim : (b : List ℕ) (w : World) → w.dos ≡ dos_part b → (at : ℕ) → at < DOS_SIZE → slice_index b at ≡ slice_index w.dos at
megabyte_claim b w dos at within =
    ap (slice_index b) (sym (zero-add at)) ∙ sym (ap (λ (xs : List ℕ). slice_index xs at) dos ∙ at_region b 0 DOS_SIZE at within)

descriptor_claim : (b : List ℕ) (budget : ℕ) (w : World) → Holds b budget → w.descriptors ≡ rows_from (rows_part b) 0 →
    (index at : ℕ) → index < DESCRIPTORS → at < DESCRIPTOR_ROW_SIZE →
    slice_index b (frame_place DESCRIPTOR_ROWS (DESCRIPTOR_ROW_SIZE * index + at))
    ≡ slice_index (row_bytes (row_at_index w.descriptors index)) at
descriptor_claim b budget w holds descriptors index at within less =
    part_byte b DESCRIPTOR_ROWS DESCRIPTOR_ROW_FRAMES (DESCRIPTOR_ROW_SIZE * index + at) (omega arith)
    ∙ holds.rows.each index at within less
    ∙ sym (grind (arith, at_rows_from, zero-add))

-- the ranges of the blocks of a sound world
ranges_of : (b : List ℕ) (budget : ℕ) (w : World) →
    w.blocks ≡ blocks_in (handles_part b) (tables_part b) (locks_part b) (budget_part b budget) →
    SoundBlocks w.blocks w.budget → HasRanges (handles_part b)
ranges_of b budget w has sound = ranges (handles_part b) (tables_part b) (locks_part b) (budget_part b budget) w.budget
    (subst (λ (blocks : List (Option MemoryBlock)). SoundBlocks blocks w.budget) has sound)

pub holds_world : (b : List ℕ) (budget : ℕ) (mode : Mode) (regs : Regs) (vif : Bool) (width : Option Width) → Holds b budget →
    IsSound (world_of b budget mode regs vif width) → HoldsWorld b (world_of b budget mode regs vif width)
holds_world b budget mode regs vif width holds sound =
    let w = world_of b budget mode regs vif width in
    let has = blocks_is b budget mode regs vif width in
    let budgets = budget_is b budget mode regs vif width in
    let in_ranges = ranges_of b budget w has sound.blocks in
    record {
      size = holds.size ∙ ap (λ (n : ℕ). PAGE_SIZE * (BUDGET_FRAMES + n)) (sym budgets);
      budget = subst (λ (n : ℕ). n ≤ MAX_PAGES) (sym budgets) holds.most;
      megabyte = megabyte_claim b w (dos_is b budget mode regs vif width);
      tables = tables_claim b budget w holds in_ranges has budgets;
      taken = taken_claim b budget w holds budgets;
      free = list_of_parts b budget (record { size = holds.size; most = holds.most }) holds.free;
      descriptors = descriptor_claim b budget w holds (descriptors_is b budget mode regs vif width);
      blocks = blocks_claim b budget w holds in_ranges has;
      vectors = vectors_claim b budget w holds (grind (arith, callbacks_is, exception_vectors_is, interrupt_vectors_is, pageable_is));
      lists = lists_claim b budget w holds (calls_is b budget mode regs vif width) (arena_is b budget mode regs vif width);
    }
