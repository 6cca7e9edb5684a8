-- A memory that holds a sound world, said with no decoding, is walked as the world says: the law, from the bytes that the world asks for.
-- First bytes that are written one after the other, each at its place: only these places change.
use Rattle.std.proofs.Common.{◌≡◌, ℕ, ◌*◌, ◌<◌, ◌≤◌, List, ◌++◌, length, slice_index, slice_index_or, slice_set, refl, arith, length-set}
use Rattle.std.proofs.Common.{get_or-set_other, zero, suc, ◌+◌, ◌-◌, ◌/◌, ◌%◌, ◌^◌, ◌⊎◌, inl, inr, Bool, true, Some, Ok, ap, ◌∙◌, sym}
use Rattle.std.proofs.{lemmas.List.{length-append, get_or-append-add, get_or_append_left, get_or_past}, lemmas.Bool.{le-leb, lt-ltb}}
use Rattle.std.proofs.lemmas.Bool.{cases_lt, ltb-true, leb-true, and_parts, and_from, false≢true}
use Rattle.client_world.specs.{declared.place.Place.{Place}, declared.place.Place.TheVariants.{Nothing, Dos, Block}}
use Rattle.client_world.specs.declared.host_frames.TheConstants.{PAGE_SIZE, BUDGET_FRAMES, PAGE_DIRECTORY, LOW_TABLE, WINDOW_TABLE}
use Rattle.client_world.specs.declared.host_frames.TheConstants.{BLOCK_ROWS, FIXED_TABLE_FRAMES, BLOCK_ROW_FRAMES, BLOCK_ROW_SIZE}
use Rattle.client_world.specs.{declared.host_frames.TheConstants.{PAGE_ENTRY_SIZE}, declared.memory_map.TheConstants.{DOS_SIZE}}
use Rattle.client_world.specs.declared.memory_map.TheConstants.{DOS_VIEW_END, BLOCK_REGION, BLOCK_REGION_END, BLOCK_REGION_PAGES}
use Rattle.client_world.specs.{declared.limits.TheConstants.{MAX_BLOCKS}, Access.{place_of, dos_address, may_touch, bytes_of_block, covers}}
use Rattle.client_world.specs.{Soundness.{IsBlock, SoundBlocks}, World.{World, MemoryBlock, block_at, base_of_block}}
use Rattle.host_memory.specs.{Layout.{address_of, fixed_part, tables_part, handles_part, base_of, entry_of}, View.{OnlyAt}}
use Rattle.host_memory.specs.HoldsWorld.{HoldsWorld, HoldsTables, HoldsBlocks, IsNoBlocks, block_entry, block_page, frame_place}
use Rattle.host_memory.specs.{Law.{walk_result, StandsAt}, Tables.{HasFixedEntries, low_table_start, window_table_start}}
use Rattle.std.specs.declared.option.Option.{Option}
use Rattle.client_world.proofs.PlaceLaws.{place-above, place-block, place-dos, place-gap, place-gap_above_blocks, place-host}
use Rattle.guest_ram.specs.Bytes.{dword}
use Rattle.page_tables.specs.{Entry.{page_entry}, Walk.{walked, walk_end}}
use Rattle.host_memory.proofs.{BlockPlaces.{FindsBlock, FindsNothing, search_tells}, ClientPlaces.{stands_by, forbidden}}
use Rattle.host_memory.proofs.{PlaceEnds.{ends_in_page, finds_no_page, block_address_is, told_nothing, told_may}, HostTables.{block_table}}
use Rattle.host_memory.proofs.{HostTables.{region_walk}, Parts.{part_dword}, BlocksClaim.{entry_is}, WalkLaw.{to_place, low_law, high_law}}

-- nothing is written yet
pub only_start : (places : List Place) (b : List ℕ) → OnlyAt places b b
only_start places b = record { size = refl; addresses = λ p. refl; others = λ k h. refl; host = λ k from to. refl }

-- one more byte, at one of the places
pub only_step : (places : List Place) (old b c : List ℕ) (p : Place) (i v : ℕ) → OnlyAt places old b → c ≡ slice_set b (address_of b p) v →
    i < length places → slice_index_or places i Nothing ≡ p → ((q : Place) → address_of c q ≡ address_of b q) →
    ((k : ℕ) → DOS_SIZE ≤ k → k < PAGE_SIZE * BUDGET_FRAMES → slice_index c k ≡ slice_index b k) → OnlyAt places old c
only_step places old b c p i v only e inside is addresses host = grind (arith, get_or-set_other, length-set)

-- two runs of writes are one
pub only_then : (first second : List Place) (b c d : List ℕ) → OnlyAt first b c → OnlyAt second c d → OnlyAt (first ++ second) b d
only_then first second b c d before after = grind (arith, get_or-append-add, get_or_append_left, length-append)

-- an entry of a table after the directory lies in the table's frame
fixed_entry : (b : List ℕ) (table start page : ℕ) → PAGE_SIZE * table ≡ PAGE_SIZE * PAGE_DIRECTORY + start →
    start + PAGE_ENTRY_SIZE * page + 4 ≤ PAGE_SIZE * FIXED_TABLE_FRAMES →
    dword (fixed_part b) (start + PAGE_ENTRY_SIZE * page) ≡ dword b (frame_place table (PAGE_ENTRY_SIZE * page))
fixed_entry b table start page from inside =
    let at = start + PAGE_ENTRY_SIZE * page in
    let e : frame_place PAGE_DIRECTORY at ≡ frame_place table (PAGE_ENTRY_SIZE * page) = omega arith in
    sym (part_dword b PAGE_DIRECTORY FIXED_TABLE_FRAMES at inside) ∙ ap (dword b) e

-- the entries that never change
pub fixed_entries : (b : List ℕ) (w : World) → HoldsTables b w → HasFixedEntries (fixed_part b)
fixed_entries b w holds = record {
  directory = λ index small. (
      let inside : PAGE_ENTRY_SIZE * index + 4 ≤ PAGE_SIZE * FIXED_TABLE_FRAMES = omega arith in
      sym (part_dword b PAGE_DIRECTORY FIXED_TABLE_FRAMES (PAGE_ENTRY_SIZE * index) inside) ∙ holds.directory index small);
  low = λ page small. fixed_entry b LOW_TABLE low_table_start page refl (omega arith) ∙ holds.low page small;
  window = λ page small. fixed_entry b WINDOW_TABLE window_table_start page refl (omega arith) ∙ holds.window page small;
}

-- a block of the world has a byte at the linear address
pub record HasBlockByte (w : World) (lin : ℕ) : Type 0 where
  pub place : ℕ
  pub block : MemoryBlock
  pub at : ℕ
  pub within : place < MAX_BLOCKS
  pub there : block_at w.blocks (suc place) ≡ Some block
  pub is : IsBlock block
  pub offset : lin ≡ block.base + at
  pub inside : at < length block.bytes
  pub answer : place_of w lin ≡ Block (suc place) at

-- no block has that page, and nothing is there
pub record HasNoBlock (w : World) (lin : ℕ) : Type 0 where
  pub none : IsNoBlocks w ((lin - BLOCK_REGION) / PAGE_SIZE)
  pub answer : place_of w lin ≡ Nothing

found_byte : (w : World) (lin : ℕ) → SoundBlocks w.blocks w.budget → BLOCK_REGION ≤ lin → lin < BLOCK_REGION_END →
    FindsBlock w.blocks 1 lin → HasBlockByte w lin
found_byte w lin sound from to found =
    let handles = sound.handles in
    let within : found.place < MAX_BLOCKS = omega (arith, found.within) in
    let both = and_parts _ _ found.over in
    let above : found.block.base ≤ lin = leb-true found.block.base lin both.0 in
    let below : lin < found.block.base + length found.block.bytes = ltb-true lin (found.block.base + length found.block.bytes) both.1 in
    record {
      place = found.place;
      block = found.block;
      at = lin - found.block.base;
      within = within;
      there = found.there;
      is = sound.each (suc found.place) found.block found.there;
      offset = omega arith;
      inside = omega arith;
      answer = place-block w.blocks lin from to ∙ found.answer
          ∙ ap (λ (number : ℕ). Block number (lin - found.block.base)) (let next : 1 + found.place ≡ suc found.place = omega arith in next);
    }

-- a handle that has a block is one of the list
place_inside : (blocks : List (Option MemoryBlock)) (place : ℕ) (block : MemoryBlock) → block_at blocks (suc place) ≡ Some block →
    place < length blocks
place_inside blocks place block e = grind (arith, get_or_past)

-- a block that had the page would cover the address
missed_blocks : (w : World) (lin : ℕ) → SoundBlocks w.blocks w.budget → BLOCK_REGION ≤ lin → FindsNothing w.blocks 1 lin →
    IsNoBlocks w ((lin - BLOCK_REGION) / PAGE_SIZE)
missed_blocks w lin sound from missed zero offset block e inside same = absurd cc
missed_blocks w lin sound from missed (suc place) offset block e inside same =
    let is = sound.each (suc place) block e in
    let pages = is.pages in
    let whole = is.whole in
    let above = is.from in
    let base : block.base ≤ lin = omega arith in
    let end : lin < block.base + length block.bytes = omega arith in
    let over : covers block lin ≡ true = and_from _ _ (le-leb block.base lin base) (lt-ltb lin (block.base + length block.bytes) end) in
    false≢true (sym (missed.none place block (place_inside w.blocks place block e) e) ∙ over)

-- what is at a linear address of the block region: a byte of a block, or nothing
region_tells : (w : World) (lin : ℕ) → SoundBlocks w.blocks w.budget → BLOCK_REGION ≤ lin → lin < BLOCK_REGION_END →
    HasBlockByte w lin ⊎ HasNoBlock w lin
region_tells w lin sound from to = elim (search_tells w.blocks 1 lin) [
  | inl found ↦ inl (found_byte w lin sound from to found)
  | inr missed ↦ inr (record {
    none = missed_blocks w lin sound from missed;
    answer = place-block w.blocks lin from to ∙ missed.answer;
  })
]

-- the row of a block's handle has its linear address
base_in_row : (b : List ℕ) (w : World) (place : ℕ) (block : MemoryBlock) → HoldsBlocks b w → place < MAX_BLOCKS →
    block_at w.blocks (suc place) ≡ Some block → base_of (handles_part b) place ≡ block.base
base_in_row b w place block holds within there =
    sym (part_dword b BLOCK_ROWS BLOCK_ROW_FRAMES (BLOCK_ROW_SIZE * place) (omega arith))
    ∙ ap (λ (k : ℕ). dword b (frame_place BLOCK_ROWS (BLOCK_ROW_SIZE * k))) (let e : place ≡ suc place - 1 = omega arith in e)
    ∙ (holds.rows (suc place) (omega arith) (omega arith)).base
    ∙ ap base_of_block there

-- the page entry of a byte of a block
abbrev pub byte_entry : (b : List ℕ) (w : World) (lin : ℕ) → HasBlockByte w lin → ℕ
byte_entry b w lin byte = block_entry b (block_page byte.block (byte.at / PAGE_SIZE))

-- the page of a byte of a block, and where in it the byte is
record IsPageByte (w : World) (lin : ℕ) (byte : HasBlockByte w lin) : Type 0 where
  page : byte.at / PAGE_SIZE < length byte.block.locks
  number : (lin - BLOCK_REGION) / PAGE_SIZE ≡ block_page byte.block (byte.at / PAGE_SIZE)
  rest : lin % PAGE_SIZE ≡ byte.at % PAGE_SIZE
  small : block_page byte.block (byte.at / PAGE_SIZE) < BLOCK_REGION_PAGES

page_of_byte : (w : World) (lin : ℕ) (byte : HasBlockByte w lin) → IsPageByte w lin byte
page_of_byte w lin byte = grind arith

-- its address: its place in the frame that the entry names
byte_address : (b : List ℕ) (w : World) (lin : ℕ) (byte : HasBlockByte w lin) → HoldsBlocks b w →
    address_of b (Block (suc byte.place) byte.at) ≡ frame_place (byte_entry b w lin byte / PAGE_SIZE) (byte.at % PAGE_SIZE)
byte_address b w lin byte holds = grind (arith, base_in_row, block_address_is, entry_is, page_of_byte)

-- a walk to a byte of a block
block_walk : (b : List ℕ) (w : World) (lin : ℕ) (write : Bool) → HoldsTables b w → HoldsBlocks b w → BLOCK_REGION ≤ lin →
    lin < BLOCK_REGION_END → HasBlockByte w lin → walked b PAGE_DIRECTORY lin write ≡ walk_result b (place_of w lin) write
block_walk b w lin write tables blocks from to byte =
    let is = page_of_byte w lin byte in
    let named = tables.named (suc byte.place) (byte.at / PAGE_SIZE) byte.block byte.there is.page in
    let entry = byte_entry b w lin byte in
    region_walk b lin write (fixed_entries b w tables) from to
    ∙ ap (λ (page : ℕ). walk_end (page_entry (block_table lin) true) (entry_of (tables_part b) page) lin write) is.number
    ∙ ap (λ (e : ℕ). walk_end (page_entry (block_table lin) true) e lin write)
    (sym (entry_is b (block_page byte.block (byte.at / PAGE_SIZE)) is.small) ∙ named.writable)
    ∙ ends_in_page (block_table lin) (entry / PAGE_SIZE) lin write
    ∙ ap (λ (r : ℕ). Ok (PAGE_SIZE * (entry / PAGE_SIZE) + r)) is.rest
    ∙ ap (λ (p : ℕ). Ok p) (sym (byte_address b w lin byte blocks))
    ∙ sym (told_may b (Block (suc byte.place) byte.at) write refl)
    ∙ to_place b w.blocks lin write _ byte.answer

-- and to where no block is
no_block_walk : (b : List ℕ) (w : World) (lin : ℕ) (write : Bool) → HoldsTables b w → BLOCK_REGION ≤ lin → lin < BLOCK_REGION_END →
    HasNoBlock w lin → walked b PAGE_DIRECTORY lin write ≡ walk_result b (place_of w lin) write
no_block_walk b w lin write tables from to missed =
    let page = (lin - BLOCK_REGION) / PAGE_SIZE in
    let small : page < BLOCK_REGION_PAGES = omega arith in
    region_walk b lin write (fixed_entries b w tables) from to
    ∙ ap (λ (e : ℕ). walk_end (page_entry (block_table lin) true) e lin write)
    (sym (entry_is b page small) ∙ tables.absent page small missed.none)
    ∙ finds_no_page (block_table lin) lin write
    ∙ sym (told_nothing b write)
    ∙ to_place b w.blocks lin write _ missed.answer

-- the law of the walk
pub world_walk : (b : List ℕ) (w : World) → HoldsWorld b w → SoundBlocks w.blocks w.budget → (lin : ℕ) (write : Bool) → lin < 2 ^ 32 →
    walked b PAGE_DIRECTORY lin write ≡ walk_result b (place_of w lin) write
world_walk b w holds sound lin write small = grind (arith, block_walk, fixed_entries, high_law, low_law, no_block_walk, region_tells)

-- a byte of the DOS megabyte is at its address
megabyte_stands : (b : List ℕ) (w : World) (at : ℕ) → HoldsWorld b w → at < DOS_SIZE → StandsAt b w (Dos at)
unfolding address_of
megabyte_stands b w at holds below = grind arith

-- so is a byte of a block
block_byte_stands : (b : List ℕ) (w : World) (lin : ℕ) → HoldsWorld b w → (byte : HasBlockByte w lin) →
    StandsAt b w (Block (suc byte.place) byte.at)
block_byte_stands b w lin holds byte =
    let size = holds.size in
    let is = page_of_byte w lin byte in
    let named = holds.tables.named (suc byte.place) (byte.at / PAGE_SIZE) byte.block byte.there is.page in
    let first = named.from in
    let last = named.to in
    let address = byte_address b w lin byte holds.blocks in
    record {
      byte = ap (slice_index b) address
          ∙ holds.blocks.bytes (suc byte.place) byte.at byte.block byte.there byte.inside
          ∙ sym (ap (λ (o : Option MemoryBlock). slice_index (bytes_of_block o) byte.at) byte.there);
      inside = omega arith;
      away = inr (omega arith);
    }

-- where the client may touch in the block region
region_stands : (b : List ℕ) (w : World) (lin : ℕ) (write : Bool) → HoldsWorld b w → may_touch (place_of w lin) write ≡ true →
    HasBlockByte w lin ⊎ HasNoBlock w lin → StandsAt b w (place_of w lin)
region_stands b w lin write holds may (inl byte) =
    stands_by b w lin (Block (suc byte.place) byte.at) byte.answer (block_byte_stands b w lin holds byte)
region_stands b w lin write holds may (inr missed) = forbidden b w lin write Nothing missed.answer refl may

-- the law of the bytes
pub world_byte : (b : List ℕ) (w : World) → HoldsWorld b w → SoundBlocks w.blocks w.budget → (lin : ℕ) (write : Bool) →
    may_touch (place_of w lin) write ≡ true → StandsAt b w (place_of w lin)
world_byte b w holds sound lin write may = elim (cases_lt lin DOS_VIEW_END) [
  | inl shown ↦ stands_by b w lin (Dos (dos_address lin)) (place-dos w.blocks lin shown)
      (megabyte_stands b w (dos_address lin) holds (omega arith))
  | inr behind ↦ elim (cases_lt lin BLOCK_REGION) [
    | inl gap ↦ forbidden b w lin write Nothing (place-gap w.blocks lin behind gap) refl may
    | inr from ↦ elim (cases_lt lin BLOCK_REGION_END) [
      | inl to ↦ region_stands b w lin write holds may (region_tells w lin sound from to)
      | inr high ↦ grind (arith, forbidden, place-above, place-gap_above_blocks, place-host)
    ]
  ]
]
