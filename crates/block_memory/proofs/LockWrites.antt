-- The lock count of a page of a block, read and written.
use Rattle.std.proofs.Common.{◌≡◌, ◌≢◌, ℕ, suc, ◌+◌, ◌*◌, ◌/◌, ◌%◌, ◌<◌, ◌≤◌, ◌⊎◌, inl, inr, Bool, List, length, slice_index, slice_set}
use Rattle.std.proofs.{Common.{refl, ap, ◌∙◌, sym, subst, arith, Option}, lemmas.Bool.{cases_lt, cases_Bool, le-ltb, lt-leb}}
use Rattle.client_world.specs.declared.host_frames.TheConstants.{PAGE_SIZE, LOCK_COUNTS, LOCK_COUNT_SIZE}
use Rattle.client_world.specs.{declared.limits.TheConstants.{MAX_BLOCKS}, declared.memory_map.TheConstants.{BLOCK_REGION, BLOCK_REGION_END}}
use Rattle.client_world.specs.{declared.memory_map.TheConstants.{BLOCK_REGION_PAGES}, declared.place.Place.{Place}}
use Rattle.client_world.specs.{declared.place.Place.TheVariants.{Block}, declared.registers.Mode.{Mode}, declared.registers.Regs.{Regs}}
use Rattle.client_world.specs.{declared.registers.Width.{Width}, Access.{place_in}, World.{MemoryBlock}}
use Rattle.guest_ram.specs.Bytes.{put}
use Rattle.guest_ram.proofs.{PutLaws.{put_away, put_within}, ListedLaws.{same_listed, listed-set}}
use Rattle.block_memory.specs.{BlockSizes.{IsBlocks, lock_in, with_lock}, BlockChanges.{blocks_held}}
use Rattle.host_memory.specs.{Holds.{Holds, KeepsLocks}, Layout.{world_of, address_of, handles_part, rows_part, base_of, pages_of}}
use Rattle.host_memory.specs.{Layout.{first_page_of, lock_of, held_block, block_in, blocks_in}, Vectors.{word_bytes}}
use Rattle.host_memory.proofs.{ClientPlaces.{apart_pages, page_small}, BlockRows.{HasRanges, over_tells, block_there, held_lock, row_there}}
use Rattle.host_memory.proofs.{BlockRows.{row_free, block_at_row}, Parts.{MemoryParts, parts_of, holds_by, holds_parts, addresses_of}}
use Rattle.host_memory.proofs.{Parts.{own_parts}, PutParts.{Locks, put_part}}
use Rattle.block_memory.proofs.{PageChanges.{world_after}, PageWrites.{host_of, sizes_of}, RegionPages.{InRegion, page_at}}

-- reading

-- the page of a byte of a block
page_of_byte : (handles : List ℕ) (place at lin : ℕ) → HasRanges handles → place < MAX_BLOCKS → pages_of handles place ≢ 0 →
    lin ≡ base_of handles place + at → page_at lin ≡ first_page_of handles place + at / PAGE_SIZE
page_of_byte handles place at lin ranges within some e = grind arith

pub lock_reads : (handles tables locks frames : List ℕ) (lin : ℕ) → HasRanges handles → KeepsLocks handles locks → InRegion lin →
    lock_of locks (page_at lin) ≡ lock_in (blocks_in handles tables locks frames) (place_in (blocks_in handles tables locks frames) lin)
lock_reads handles tables locks frames lin ranges keeps in_region =
    let from = in_region.from in let to = in_region.to in
    elim (over_tells handles tables locks frames lin in_region.from in_region.to) [
      | inl found ↦ (grind (arith, block_there, held_lock, page_of_byte))
      | inr missed ↦ grind arith
    ]

pub no_lock : (blocks : List (Option MemoryBlock)) (lin : ℕ) → (lin < BLOCK_REGION) ⊎ (BLOCK_REGION_END ≤ lin) →
    lock_in blocks (place_in blocks lin) ≡ 0
unfolding place_in
no_lock blocks lin out = grind (arith, cases_Bool, le-ltb, lt-leb)

-- writing

-- the byte of a block that has a place
pub record BlockByte (handles : List ℕ) (blocks : List (Option MemoryBlock)) (lin : ℕ) : Type 0 where
  pub place : ℕ
  pub at : ℕ
  pub within : place < MAX_BLOCKS
  pub some : pages_of handles place ≢ 0
  pub inside : at < PAGE_SIZE * pages_of handles place
  pub page : page_at lin ≡ first_page_of handles place + at / PAGE_SIZE
  pub answer : place_in blocks lin ≡ Block (suc place) at

no_blocks : (blocks : List (Option MemoryBlock)) (lin : ℕ) → (lin < BLOCK_REGION) ⊎ (BLOCK_REGION_END ≤ lin) →
    IsBlocks (place_in blocks lin) → ⊥
unfolding place_in
no_blocks blocks lin out is = grind (arith, cases_Bool, le-ltb, lt-leb)

pub in_region_of : (blocks : List (Option MemoryBlock)) (lin : ℕ) → IsBlocks (place_in blocks lin) → InRegion lin
in_region_of blocks lin is = grind (arith, no_blocks)

pub block_byte : (handles tables locks frames : List ℕ) (lin : ℕ) → HasRanges handles →
    IsBlocks (place_in (blocks_in handles tables locks frames) lin) → BlockByte handles (blocks_in handles tables locks frames) lin
block_byte handles tables locks frames lin ranges is =
    let r = in_region_of (blocks_in handles tables locks frames) lin is in
    elim (over_tells handles tables locks frames lin r.from r.to) [
      | inl found ↦ grind (arith, page_of_byte)
      | inr missed ↦ absurd (subst IsBlocks missed.answer is)
    ]

-- the lock counts with another one
abbrev pub put_lock : List ℕ → ℕ → ℕ → List ℕ
put_lock locks page n = put locks (LOCK_COUNT_SIZE * page) (word_bytes n)

lock_there : (locks : List ℕ) (page n : ℕ) → length locks ≡ LOCK_COUNT_SIZE * BLOCK_REGION_PAGES → page < BLOCK_REGION_PAGES →
    lock_of (put_lock locks page n) page ≡ n
lock_there locks page n long small =
    let low : slice_index (put_lock locks page n) (LOCK_COUNT_SIZE * page) ≡ n % 0x100 =
    put_within locks (LOCK_COUNT_SIZE * page) (word_bytes n) 0 (LOCK_COUNT_SIZE * page) (omega arith) (omega arith) (omega arith) in
    let high : slice_index (put_lock locks page n) (LOCK_COUNT_SIZE * page + 1) ≡ n / 0x100 =
    put_within locks (LOCK_COUNT_SIZE * page) (word_bytes n) 1 (LOCK_COUNT_SIZE * page + 1) (omega arith) (omega arith) refl in
    rw (low, high) (omega arith)

lock_beside : (locks : List ℕ) (page n other : ℕ) → other ≢ page → lock_of (put_lock locks page n) other ≡ lock_of locks other
lock_beside locks page n other ne =
    let low : slice_index (put_lock locks page n) (LOCK_COUNT_SIZE * other) ≡ slice_index locks (LOCK_COUNT_SIZE * other) =
    put_away locks (LOCK_COUNT_SIZE * page) (word_bytes n) (LOCK_COUNT_SIZE * other) (beside 0) in
    let high : slice_index (put_lock locks page n) (LOCK_COUNT_SIZE * other + 1) ≡ slice_index locks (LOCK_COUNT_SIZE * other + 1) =
    put_away locks (LOCK_COUNT_SIZE * page) (word_bytes n) (LOCK_COUNT_SIZE * other + 1) (beside_one 0) in
    rw (low, high) refl
  where
    beside : ℕ → (LOCK_COUNT_SIZE * page + 2 ≤ LOCK_COUNT_SIZE * other) ⊎ (LOCK_COUNT_SIZE * other < LOCK_COUNT_SIZE * page)
    beside k = elim (cases_lt page other) [ inl below ↦ inl (omega arith) | inr above ↦ inr (omega arith) ]

    beside_one : ℕ → (LOCK_COUNT_SIZE * page + 2 ≤ LOCK_COUNT_SIZE * other + 1) ⊎ (LOCK_COUNT_SIZE * other + 1 < LOCK_COUNT_SIZE * page)
    beside_one k = elim (cases_lt page other) [ inl below ↦ inl (omega arith) | inr above ↦ inr (omega arith) ]

-- pages of no block have no lock still
locked_keeps : (handles locks : List ℕ) (place at page n : ℕ) → place < MAX_BLOCKS → at < PAGE_SIZE * pages_of handles place →
    page ≡ first_page_of handles place + at / PAGE_SIZE → KeepsLocks handles locks → KeepsLocks handles (put_lock locks page n)
locked_keeps handles locks place at page n within inside e h = record {
  outside = λ other small none. (
      let ne : other ≢ page = (λ same. none place (at / PAGE_SIZE) within (omega arith) (same ∙ e)) in
      lock_beside locks page n other ne ∙ h.outside other small none);
}

-- the block has that lock count, and the others are the same
lock_block : (handles tables locks frames : List ℕ) (place at page n : ℕ) → length locks ≡ LOCK_COUNT_SIZE * BLOCK_REGION_PAGES →
    place < MAX_BLOCKS → at < PAGE_SIZE * pages_of handles place →
    page ≡ first_page_of handles place + at / PAGE_SIZE → page < BLOCK_REGION_PAGES →
    held_block handles tables (put_lock locks page n) frames place ≡ record (held_block handles tables locks frames
    place) { locks = slice_set (held_block handles tables locks frames place).locks (at / PAGE_SIZE) n }
unfolding held_block
lock_block handles tables locks frames place at page n long within inside e small = grind (arith, listed-set, lock_beside, lock_there)

lock_other : (handles tables locks frames : List ℕ) (place at page n other : ℕ) → HasRanges handles → place < MAX_BLOCKS →
    at < PAGE_SIZE * pages_of handles place → page ≡ first_page_of handles place + at / PAGE_SIZE → other < MAX_BLOCKS → other ≢ place →
    block_in handles tables (put_lock locks page n) frames other ≡ block_in handles tables locks frames other
unfolding held_block
lock_other handles tables locks frames place at page n other ranges within inside e small ne =
    grind (arith, apart_pages, lock_beside, row_free, row_there, same_listed)

lock_blocks : (handles tables locks frames : List ℕ) (place at page n : ℕ) → HasRanges handles →
    length locks ≡ LOCK_COUNT_SIZE * BLOCK_REGION_PAGES → place < MAX_BLOCKS → pages_of handles place ≢ 0 →
    at < PAGE_SIZE * pages_of handles place → page ≡ first_page_of handles place + at / PAGE_SIZE → page < BLOCK_REGION_PAGES →
    blocks_in handles tables (put_lock locks page n) frames ≡ with_lock (blocks_in handles tables locks frames) (Block (suc place) at) n
lock_blocks handles tables locks frames place at page n ranges long within some inside e small =
    grind (arith, block_at_row, listed-set, lock_block, lock_other, row_there)

-- the memory after the write
abbrev pub locked : List ℕ → ℕ → ℕ → List ℕ
locked b lin n = put b (PAGE_SIZE * LOCK_COUNTS + LOCK_COUNT_SIZE * page_at lin) (word_bytes n)

pub record LocksPage (b : List ℕ) (budget lin n : ℕ) : Type 0 where
  pub holds : Holds (locked b lin n) budget
  pub world : (mode : Mode) (regs : Regs) (vif : Bool) (width : Option Width) →
      world_of (locked b lin n) budget mode regs vif width
      ≡ record (world_of b budget mode regs vif width) { blocks = with_lock (blocks_held b budget) (place_in (blocks_held b budget) lin) n }
  pub rows : rows_part (locked b lin n) ≡ rows_part b
  pub addresses : (p : Place) → address_of (locked b lin n) p ≡ address_of b p

pub locks_page : (b : List ℕ) (budget lin n : ℕ) → Holds b budget → HasRanges (handles_part b) →
    IsBlocks (place_in (blocks_held b budget) lin) → LocksPage b budget lin n
locks_page b budget lin n holds ranges is =
    let p = parts_of b budget in
    let sizes = sizes_of b budget (host_of b budget holds) in
    let byte = block_byte p.handles p.tables p.locks p.frames lin ranges is in
    let inside = byte.inside in let page = byte.page in
    let small : page_at lin < BLOCK_REGION_PAGES =
    (let s = page_small p.handles ranges byte.place (byte.at / PAGE_SIZE) byte.within (omega arith) in omega arith) in
    let e = put_part Locks b budget p (PAGE_SIZE * LOCK_COUNTS + LOCK_COUNT_SIZE * page_at lin) (LOCK_COUNT_SIZE * page_at lin)
    (word_bytes n)
    (own_parts b budget holds) (omega arith) (omega arith) in
    let q : MemoryParts = record p { locks = put_lock p.locks (page_at lin) n } in
    let h = holds_parts b budget holds in
    let blocks = lock_blocks p.handles p.tables p.locks p.frames byte.place byte.at (page_at lin) n ranges sizes.locks byte.within byte.some
    byte.inside byte.page small
    ∙ ap (λ (x : Place). with_lock (blocks_held b budget) x n) (sym byte.answer) in
    record {
      holds = holds_by (locked b lin n) budget q e holds.most (grind (arith, locked_keeps));
      world = λ mode regs vif width. world_after b (locked b lin n) budget q e refl mode regs vif width
          ∙ ap (λ (bs : List (Option MemoryBlock)). record (world_of b budget mode regs vif width) { blocks = bs }) blocks;
      rows = ap (λ (x : MemoryParts). x.rows) e.are;
      addresses = addresses_of b (locked b lin n) budget q e refl refl;
    }
