-- The rows of the memory blocks and the blocks of the world that they give; what is at a linear address of the block region.
use Rattle.std.proofs.Common.{◌≡◌, ◌≢◌, ℕ, zero, suc, ◌+◌, ◌-◌, ◌*◌, ◌%◌, ◌<◌, ◌≤◌, ◌⊎◌, inl, inr, true, nat_lt, nat_le, List, length}
use Rattle.std.proofs.{Common.{slice_index, None, Some, refl, ◌∙◌, sym, arith}, lemmas.List.{get_or_past}, lemmas.Bool.{lt-ltb, le-leb}}
use Rattle.std.proofs.lemmas.Bool.{eq-eqb, ne_eqb, cases_lt, ltb-true, leb-true, and_parts, and_from, false≢true}
use Rattle.client_world.specs.{declared.place.Place.TheVariants.{Block, Nothing}, declared.host_frames.TheConstants.{PAGE_SIZE}}
use Rattle.client_world.specs.{declared.limits.TheConstants.{MAX_BLOCKS}, declared.memory_map.TheConstants.{BLOCK_REGION, BLOCK_REGION_END}}
use Rattle.client_world.specs.{Access.{place_in, covers}, Soundness.{SoundBlocks}, World.{MemoryBlock, block_at}}
use Rattle.client_world.proofs.PlaceLaws.{place-block}
use Rattle.guest_ram.proofs.ListedLaws.{length-listed, at_listed}
use Rattle.host_memory.specs.Layout.{base_of, pages_of, first_page_of, lock_of, page_byte, held_block, block_in, blocks_in}
use Rattle.host_memory.proofs.BlockPlaces.{search_tells, FindsBlock, FindsNothing}

-- the fields of the block of a row
pub held_base : (handles tables locks budget : List ℕ) (place : ℕ) →
    (held_block handles tables locks budget place).base ≡ base_of handles place
unfolding held_block
held_base handles tables locks budget place = refl

pub length-held_bytes : (handles tables locks budget : List ℕ) (place : ℕ) →
    length (held_block handles tables locks budget place).bytes ≡ PAGE_SIZE * pages_of handles place
unfolding held_block
length-held_bytes handles tables locks budget place = length-listed (PAGE_SIZE * pages_of handles place) _

pub length-held_locks : (handles tables locks budget : List ℕ) (place : ℕ) →
    length (held_block handles tables locks budget place).locks ≡ pages_of handles place
unfolding held_block
length-held_locks handles tables locks budget place = length-listed (pages_of handles place) _

pub held_byte : (handles tables locks budget : List ℕ) (place at : ℕ) → at < PAGE_SIZE * pages_of handles place →
    slice_index (held_block handles tables locks budget place).bytes at ≡ page_byte tables budget (first_page_of handles place) at
unfolding held_block
held_byte handles tables locks budget place at inside = at_listed (PAGE_SIZE * pages_of handles place) _ at 0 inside

pub held_lock : (handles tables locks budget : List ℕ) (place page : ℕ) → page < pages_of handles place →
    slice_index (held_block handles tables locks budget place).locks page ≡ lock_of locks (first_page_of handles place + page)
unfolding held_block
held_lock handles tables locks budget place page inside = at_listed (pages_of handles place) _ page 0 inside

-- a row that has pages gives a block, and one that has none gives none
pub row_there : (handles tables locks budget : List ℕ) (place : ℕ) → pages_of handles place ≢ 0 →
    block_in handles tables locks budget place ≡ Some (held_block handles tables locks budget place)
unfolding block_in
row_there handles tables locks budget place some = rw (ne_eqb (pages_of handles place) 0 some) refl

pub row_free : (handles tables locks budget : List ℕ) (place : ℕ) → pages_of handles place ≡ 0 →
    block_in handles tables locks budget place ≡ None
unfolding block_in
row_free handles tables locks budget place none = rw (eq-eqb (pages_of handles place) 0 none) refl

pub length-blocks_in : (handles tables locks budget : List ℕ) → length (blocks_in handles tables locks budget) ≡ MAX_BLOCKS
length-blocks_in handles tables locks budget = length-listed MAX_BLOCKS (block_in handles tables locks budget)

-- the block of a handle is that of its row
pub block_at_row : (handles tables locks budget : List ℕ) (place : ℕ) → place < MAX_BLOCKS →
    block_at (blocks_in handles tables locks budget) (suc place) ≡ block_in handles tables locks budget place
block_at_row handles tables locks budget place within = at_listed MAX_BLOCKS (block_in handles tables locks budget) place None within

pub block_there : (handles tables locks budget : List ℕ) (place : ℕ) → place < MAX_BLOCKS → pages_of handles place ≢ 0 →
    block_at (blocks_in handles tables locks budget) (suc place) ≡ Some (held_block handles tables locks budget place)
block_there handles tables locks budget place within some =
    block_at_row handles tables locks budget place within ∙ row_there handles tables locks budget place some

pub block_free : (handles tables locks budget : List ℕ) (place : ℕ) → place < MAX_BLOCKS → pages_of handles place ≡ 0 →
    block_at (blocks_in handles tables locks budget) (suc place) ≡ None
block_free handles tables locks budget place within none =
    block_at_row handles tables locks budget place within ∙ row_free handles tables locks budget place none

-- the block that the row of a handle less 1 gives
pub record GivesBlock (handles tables locks budget : List ℕ) (place : ℕ) (block : MemoryBlock) : Type 0 where
  pub some : pages_of handles place ≢ 0
  pub is : block ≡ held_block handles tables locks budget place
  pub base : block.base ≡ base_of handles place
  pub bytes : length block.bytes ≡ PAGE_SIZE * pages_of handles place
  pub pages : length block.locks ≡ pages_of handles place

pub row_gives : (handles tables locks budget : List ℕ) (place : ℕ) (block : MemoryBlock) →
    block_in handles tables locks budget place ≡ Some block → GivesBlock handles tables locks budget place block
row_gives handles tables locks budget place block e = grind (arith, held_base, length-held_bytes, length-held_locks, row_free, row_there)

-- the row after a block of the world
pub record HeldRow (handles tables locks budget : List ℕ) (handle : ℕ) (block : MemoryBlock) : Type 0 where
  pub place : ℕ
  pub named : handle ≡ suc place
  pub within : place < MAX_BLOCKS
  pub gives : GivesBlock handles tables locks budget place block

-- the row of a handle whose block is there
pub row_at_block : (handles tables locks budget : List ℕ) (place : ℕ) (block : MemoryBlock) →
    block_at (blocks_in handles tables locks budget) (suc place) ≡ Some block → (place < MAX_BLOCKS)
    × GivesBlock handles tables locks budget place block
row_at_block handles tables locks budget place block e = elim (cases_lt place MAX_BLOCKS) [
  | inl within ↦
      (within, row_gives handles tables locks budget place block (sym (block_at_row handles tables locks budget place within) ∙ e))
  | inr beyond ↦ (grind (arith, get_or_past, length-blocks_in))
]

-- each block of the world is that of a row
pub held_row : (handles tables locks budget : List ℕ) (handle : ℕ) (block : MemoryBlock) →
    block_at (blocks_in handles tables locks budget) handle ≡ Some block → HeldRow handles tables locks budget handle block
held_row handles tables locks budget zero block e = absurd cc
held_row handles tables locks budget (suc place) block e =
    let row = row_at_block handles tables locks budget place block e in
    record { place = place; named = refl; within = row.0; gives = row.1 }

-- the linear addresses that the row of a block gives to it
pub record IsRange (base pages : ℕ) : Type 0 where
  pub whole : base % PAGE_SIZE ≡ 0
  pub from : BLOCK_REGION ≤ base
  pub to : base + PAGE_SIZE * pages ≤ BLOCK_REGION_END

-- the rows of blocks give whole pages in the block region, and no two of them meet
pub record HasRanges (handles : List ℕ) : Type 0 where
  pub each : (place : ℕ) → place < MAX_BLOCKS → pages_of handles place ≢ 0 → IsRange (base_of handles place) (pages_of handles place)
  pub apart : (place other : ℕ) → place < MAX_BLOCKS → other < MAX_BLOCKS → place ≢ other →
      pages_of handles place ≢ 0 → pages_of handles other ≢ 0 →
      (base_of handles place + PAGE_SIZE * pages_of handles place ≤ base_of handles other)
      ⊎ (base_of handles other + PAGE_SIZE * pages_of handles other ≤ base_of handles place)

-- where the blocks are sound the rows are
pub ranges : (handles tables locks budget : List ℕ) (pages : ℕ) → SoundBlocks (blocks_in handles tables locks budget) pages →
    HasRanges handles
ranges handles tables locks budget pages sound = record {
  each = λ place within some. (
      let is = sound.each (suc place) (held_block handles tables locks budget place)
      (block_there handles tables locks budget place within some) in
      let base = held_base handles tables locks budget place in
      let long = length-held_bytes handles tables locks budget place in
      let whole = is.whole in let from = is.from in let to = is.to in
      record { whole = rw base at whole; from = omega arith; to = omega arith });
  apart = λ place other within inside ne some more. (
      let ne_handles : suc place ≢ suc other = omega arith in
      let base = held_base handles tables locks budget place in
      let long = length-held_bytes handles tables locks budget place in
      let other_base = held_base handles tables locks budget other in
      let other_long = length-held_bytes handles tables locks budget other in
      elim (sound.apart (suc place) (suc other) (held_block handles tables locks budget place)
      (held_block handles tables locks budget other) ne_handles
      (block_there handles tables locks budget place within some) (block_there handles tables locks budget other inside more)) [
        | inl below ↦ inl (omega arith)
        | inr above ↦ inr (omega arith)
      ]);
}

-- the row of a block covers the linear address
pub record InRow (handles : List ℕ) (place lin : ℕ) : Type 0 where
  pub within : place < MAX_BLOCKS
  pub from : base_of handles place ≤ lin
  pub to : lin < base_of handles place + PAGE_SIZE * pages_of handles place

-- a byte of a block is at the linear address
pub record InBlock (handles tables locks budget : List ℕ) (lin : ℕ) : Type 0 where
  pub place : ℕ
  pub at : ℕ
  pub within : place < MAX_BLOCKS
  pub some : pages_of handles place ≢ 0
  pub offset : lin ≡ base_of handles place + at
  pub inside : at < PAGE_SIZE * pages_of handles place
  pub answer : place_in (blocks_in handles tables locks budget) lin ≡ Block (suc place) at

-- no row of a block covers it, and nothing is there
pub record InNoBlock (handles tables locks budget : List ℕ) (lin : ℕ) : Type 0 where
  pub none : (place : ℕ) → InRow handles place lin → ⊥
  pub answer : place_in (blocks_in handles tables locks budget) lin ≡ Nothing

found_row : (handles tables locks budget : List ℕ) (lin : ℕ) → BLOCK_REGION ≤ lin → lin < BLOCK_REGION_END →
    FindsBlock (blocks_in handles tables locks budget) 1 lin → InBlock handles tables locks budget lin
found_row handles tables locks budget lin from to found =
    let within : found.place < MAX_BLOCKS = omega (arith, found.within, length-blocks_in handles tables locks budget) in
    let row = row_gives handles tables locks budget found.place found.block
    (sym (block_at_row handles tables locks budget found.place within) ∙ found.there) in
    let base = row.base in
    let long = row.bytes in
    let both = and_parts (nat_le found.block.base lin) (nat_lt lin (found.block.base + length found.block.bytes)) found.over in
    let above : found.block.base ≤ lin = leb-true found.block.base lin both.0 in
    let below : lin < found.block.base + length found.block.bytes = ltb-true lin (found.block.base + length found.block.bytes) both.1 in
    record {
      place = found.place;
      at = lin - base_of handles found.place;
      within = within;
      some = omega arith;
      offset = omega arith;
      inside = omega arith;
      answer = grind (arith, place-block);
    }

missed_rows : (handles tables locks budget : List ℕ) (lin : ℕ) → FindsNothing (blocks_in handles tables locks budget) 1 lin →
    (place : ℕ) → InRow handles place lin → ⊥
missed_rows handles tables locks budget lin missed place row =
    let from = row.from in
    let to = row.to in
    let some : pages_of handles place ≢ 0 = omega arith in
    let block = held_block handles tables locks budget place in
    let within : place < length (blocks_in handles tables locks budget) =
    omega (arith, row.within, length-blocks_in handles tables locks budget) in
    let base : block.base ≤ lin = omega (arith, held_base handles tables locks budget place) in
    let end : lin < block.base + length block.bytes =
    omega (arith, held_base handles tables locks budget place, length-held_bytes handles tables locks budget place) in
    let over : covers block lin ≡ true = and_from _ _ (le-leb block.base lin base) (lt-ltb lin (block.base + length block.bytes) end) in
    false≢true (sym (missed.none place block within (block_there handles tables locks budget place row.within some)) ∙ over)

-- what is at a linear address of the block region: a byte of a block, or nothing
pub over_tells : (handles tables locks budget : List ℕ) (lin : ℕ) → BLOCK_REGION ≤ lin → lin < BLOCK_REGION_END →
    InBlock handles tables locks budget lin ⊎ InNoBlock handles tables locks budget lin
over_tells handles tables locks budget lin from to = grind (arith, found_row, missed_rows, place-block, search_tells)
