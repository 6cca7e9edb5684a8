-- Where places lie in the memory: the world's byte at one that the client may touch, the bytes of blocks among the budget frames, and the
-- places that the client may write; no page of a block lies in an idle frame, so a write there leaves the list of free frames.
use Rattle.std.proofs.Common.{◌≡◌, ℕ, suc, ◌+◌, ◌-◌, ◌*◌, ◌/◌, ◌%◌, ◌<◌, ◌⊎◌, inl, inr, Bool, true, false, List, slice_index, ap, ◌∙◌, sym}
use Rattle.std.proofs.Common.{arith, zero-add, ◌≢◌, length, slice_set, get_or-set_same, get_or-set_other, ◌≤◌, refl, subst, Some, None}
use Rattle.std.proofs.{lemmas.Bool.{false≢true, ltb-true}, lemmas.List.{get_or_past}}
use Rattle.std.specs.declared.option.Option.{Option}
use Rattle.client_world.specs.{declared.registers.Mode.{Mode}, declared.registers.Regs.{Regs}, declared.registers.Width.{Width}}
use Rattle.client_world.specs.{declared.place.Place.{Place}, declared.place.Place.TheVariants.{Dos, Block, Host, Nothing}}
use Rattle.client_world.specs.{declared.host_frames.TheConstants.{PAGE_SIZE, BUDGET_FRAMES}, declared.limits.TheConstants.{MAX_BLOCKS}}
use Rattle.client_world.specs.{declared.memory_map.TheConstants.{DOS_SIZE, BLOCK_REGION_PAGES, ROM_START}, Access.{place_in, place_of}}
use Rattle.client_world.specs.{Access.{may_touch, byte_of, with_block_byte, HasByte, IsHeld}, World.{World, MemoryBlock, block_at}}
use Rattle.client_world.specs.{World.{with_block_at}, Soundness.{SoundBlocks}}
use Rattle.client_world.proofs.PlaceLaws.{place-above, place-dos, place-gap, place-gap_above_blocks, place-host}
use Rattle.guest_ram.proofs.{PutLaws.{at_region, length-region}, ListedLaws.{same_listed, listed-set}}
use Rattle.host_memory.specs.{Holds.{Holds}, Law.{StandsAt}, Layout.{world_of, address_of, tables_part, handles_part, locks_part}}
use Rattle.host_memory.specs.Layout.{budget_part, pages_of, first_page_of, entry_of, held_block, blocks_in, taken_part}
use Rattle.host_memory.specs.Tables.{HasBlockEntries, NamesBudgetFrame, IsIdle}
use Rattle.host_memory.proofs.BlockRows.{InBlock, InNoBlock, over_tells, block_there, held_byte, HasRanges, row_there, row_free}
use Rattle.host_memory.proofs.{BlockRows.{block_at_row, ranges, held_row}, PlaceEnds.{block_address_is}, Parts.{dos_is, blocks_is}}
use Rattle.page_tables.proofs.HostDirectory.{dword_zero}

-- the address of a byte of a block, counted from the budget frames
abbrev pub spot : List ℕ → ℕ → ℕ → ℕ
spot tables page at = PAGE_SIZE * (entry_of tables (page + at / PAGE_SIZE) / PAGE_SIZE - BUDGET_FRAMES) + at % PAGE_SIZE

pub block_spot : (b : List ℕ) (budget place at : ℕ) → Holds b budget → place < MAX_BLOCKS →
    at < PAGE_SIZE * pages_of (handles_part b) place →
    address_of b (Block (suc place) at) ≡ PAGE_SIZE * BUDGET_FRAMES + spot (tables_part b) (first_page_of (handles_part b) place) at
block_spot b budget place at holds within inside = grind (arith, block_address_is)

pub spot_inside : (b : List ℕ) (budget place at : ℕ) → Holds b budget → place < MAX_BLOCKS →
    at < PAGE_SIZE * pages_of (handles_part b) place → spot (tables_part b) (first_page_of (handles_part b) place) at < PAGE_SIZE * budget
spot_inside b budget place at holds within inside = grind arith

-- a byte of the DOS megabyte
pub dos_stands : (b : List ℕ) (budget : ℕ) (mode : Mode) (regs : Regs) (vif : Bool) (width : Option Width) (at : ℕ) → Holds b budget →
    at < DOS_SIZE → StandsAt b (world_of b budget mode regs vif width) (Dos at)
unfolding address_of
dos_stands b budget mode regs vif width at holds below = grind (arith, at_region, dos_is, zero-add)

-- a byte of a block of the world is that of its page
pub block_byte : (b : List ℕ) (budget : ℕ) (mode : Mode) (regs : Regs) (vif : Bool) (width : Option Width) (place at : ℕ) →
    place < MAX_BLOCKS → at < PAGE_SIZE * pages_of (handles_part b) place →
    byte_of (world_of b budget mode regs vif width) (Block (suc place) at)
    ≡ slice_index (budget_part b budget) (spot (tables_part b) (first_page_of (handles_part b) place) at)
block_byte b budget mode regs vif width place at within inside = grind (arith, block_there, blocks_is, held_byte)

-- it is at its address
pub block_stands : (b : List ℕ) (budget : ℕ) (mode : Mode) (regs : Regs) (vif : Bool) (width : Option Width) (place at : ℕ) →
    Holds b budget → place < MAX_BLOCKS → at < PAGE_SIZE * pages_of (handles_part b) place →
    StandsAt b (world_of b budget mode regs vif width) (Block (suc place) at)
block_stands b budget mode regs vif width place at holds within inside = grind (arith, at_region, block_byte, block_spot, spot_inside)

-- what is said of a place holds of the address where it is
pub stands_by : (b : List ℕ) (w : World) (lin : ℕ) (place : Place) → place_of w lin ≡ place → StandsAt b w place →
    StandsAt b w (place_of w lin)
stands_by b w lin place e stands = rw e stands

-- and no byte is asked for where the client may not touch
pub forbidden : (b : List ℕ) (w : World) (lin : ℕ) (write : Bool) (place : Place) → place_of w lin ≡ place → may_touch place write ≡ false →
    may_touch (place_of w lin) write ≡ true → StandsAt b w (place_of w lin)
forbidden b w lin write place e barred may = absurd (false≢true (sym barred ∙ ap (λ (p : Place). may_touch p write) (sym e) ∙ may))

-- in the block region
region_byte : (b : List ℕ) (budget : ℕ) (mode : Mode) (regs : Regs) (vif : Bool) (width : Option Width) (lin : ℕ) (write : Bool) →
    Holds b budget → may_touch (place_of (world_of b budget mode regs vif width) lin) write ≡ true →
    InBlock (handles_part b) (tables_part b) (locks_part b) (budget_part b budget) lin
    ⊎ InNoBlock (handles_part b) (tables_part b) (locks_part b) (budget_part b budget) lin →
    StandsAt b (world_of b budget mode regs vif width) (place_of (world_of b budget mode regs vif width) lin)
region_byte b budget mode regs vif width lin write holds may (inl found) =
    stands_by b (world_of b budget mode regs vif width) lin (Block (suc found.place) found.at)
    (ap (λ (blocks : List (Option MemoryBlock)). place_in blocks lin) (blocks_is b budget mode regs vif width) ∙ found.answer)
    (block_stands b budget mode regs vif width found.place found.at holds found.within found.inside)
region_byte b budget mode regs vif width lin write holds may (inr missed) = grind (arith, blocks_is, forbidden)

-- what is at a linear address where the client may touch is at the address of its place
pub byte_agrees : (b : List ℕ) (budget : ℕ) → Holds b budget →
    (mode : Mode) (regs : Regs) (vif : Bool) (width : Option Width) (lin : ℕ) (write : Bool) →
    may_touch (place_of (world_of b budget mode regs vif width) lin) write ≡ true →
    StandsAt b (world_of b budget mode regs vif width) (place_of (world_of b budget mode regs vif width) lin)
byte_agrees b budget holds mode regs vif width lin write may =
    grind (
      arith,
      dos_stands,
      forbidden,
      over_tells,
      place-above,
      place-gap_above_blocks,
      place-gap,
      place-dos,
      place-host,
      region_byte,
      stands_by,
    )

-- a byte of the block of a handle less 1
pub record IsBlockByte (handles : List ℕ) (place at : ℕ) : Type 0 where
  pub within : place < MAX_BLOCKS
  pub inside : at < PAGE_SIZE * pages_of handles place

pub page_inside : (handles : List ℕ) (place at : ℕ) → IsBlockByte handles place at → at / PAGE_SIZE < pages_of handles place
page_inside handles place at byte = let inside = byte.inside in omega arith

-- its page's entry names a frame
pub byte_frame : (handles tables taken : List ℕ) (budget : ℕ) → HasBlockEntries handles tables taken budget → (place at : ℕ) →
    IsBlockByte handles place at → NamesBudgetFrame budget (entry_of tables (first_page_of handles place + at / PAGE_SIZE))
byte_frame handles tables taken budget entries place at byte =
    entries.named place (at / PAGE_SIZE) byte.within (page_inside handles place at byte)

-- two frames that differ have no byte in common, and two places of one frame that differ are two bytes
apart_spots : (budget entry other x y : ℕ) → NamesBudgetFrame budget entry → NamesBudgetFrame budget other → x < PAGE_SIZE → y < PAGE_SIZE →
    (entry ≢ other) ⊎ (x ≢ y) → PAGE_SIZE * (entry / PAGE_SIZE - BUDGET_FRAMES) + x ≢ PAGE_SIZE * (other / PAGE_SIZE - BUDGET_FRAMES) + y
apart_spots budget entry other x y p q hx hy differ same = grind arith

entry_some : (budget entry : ℕ) → NamesBudgetFrame budget entry → entry ≢ 0
entry_some budget entry p none = let from = p.from in omega arith

-- pages of two blocks differ
pub apart_pages : (handles : List ℕ) → HasRanges handles → (place other i j : ℕ) → place < MAX_BLOCKS → other < MAX_BLOCKS → place ≢ other →
    i < pages_of handles place → j < pages_of handles other → first_page_of handles place + i ≢ first_page_of handles other + j
apart_pages handles ranges place other i j within inside ne hi hj same = grind arith

pub page_small : (handles : List ℕ) → HasRanges handles → (place i : ℕ) → place < MAX_BLOCKS → i < pages_of handles place →
    first_page_of handles place + i < BLOCK_REGION_PAGES
page_small handles ranges place i within small = grind arith

-- no two bytes of blocks lie at one spot
pub once_spot : (handles tables taken : List ℕ) (budget : ℕ) → HasRanges handles → HasBlockEntries handles tables taken budget →
    (place other at i : ℕ) → IsBlockByte handles place at → IsBlockByte handles other i → (place ≢ other) ⊎ (at ≢ i) →
    spot tables (first_page_of handles place) at ≢ spot tables (first_page_of handles other) i
once_spot handles tables taken budget ranges entries place other at i byte that differ =
    grind (arith, apart_pages, apart_spots, byte_frame, entry_some, page_inside, page_small)

pub spot_small : (handles tables taken : List ℕ) (budget : ℕ) → HasBlockEntries handles tables taken budget → (place at : ℕ) →
    IsBlockByte handles place at → spot tables (first_page_of handles place) at < PAGE_SIZE * budget
spot_small handles tables taken budget entries place at byte = grind (arith, byte_frame)

-- what the frames are once a byte of a block is written
abbrev pub with_spot : List ℕ → List ℕ → List ℕ → ℕ → ℕ → ℕ → List ℕ
with_spot handles tables frames place at v = slice_set frames (spot tables (first_page_of handles place) at) v

-- the block that is written
held_set : (handles tables locks taken frames : List ℕ) (budget : ℕ) → HasRanges handles → HasBlockEntries handles tables taken budget →
    length frames ≡ PAGE_SIZE * budget → (place at v : ℕ) → IsBlockByte handles place at →
    held_block handles tables locks (with_spot handles tables frames place at v) place
    ≡ record (held_block handles tables locks frames place) { bytes = slice_set (held_block handles tables locks frames place).bytes at v }
unfolding held_block
held_set handles tables locks taken frames budget ranges entries long place at v byte =
    grind (arith, get_or-set_other, get_or-set_same, listed-set, once_spot, spot_small)

-- and any other
held_other : (handles tables locks taken frames : List ℕ) (budget : ℕ) → HasRanges handles → HasBlockEntries handles tables taken budget →
    (place other at v : ℕ) → IsBlockByte handles place at → other < MAX_BLOCKS → other ≢ place →
    held_block handles tables locks (with_spot handles tables frames place at v) other ≡ held_block handles tables locks frames other
unfolding held_block
held_other handles tables locks taken frames budget ranges entries place other at v byte within ne =
    grind (arith, get_or-set_other, once_spot, same_listed)

-- so the world's blocks are as they were but for that byte of that block
pub blocks_written : (handles tables locks taken frames : List ℕ) (budget : ℕ) → HasRanges handles →
    HasBlockEntries handles tables taken budget → length frames ≡ PAGE_SIZE * budget → (place at v : ℕ) → IsBlockByte handles place at →
    blocks_in handles tables locks (with_spot handles tables frames place at v)
    ≡ with_block_at (blocks_in handles tables locks frames) (suc place)
    (with_block_byte (block_at (blocks_in handles tables locks frames) (suc place)) at v)
blocks_written handles tables locks taken frames budget ranges entries long place at v byte =
    grind (arith, block_at_row, held_other, held_set, listed-set, row_free, row_there)

-- ---- the places that the client may write

-- the place is a byte of the megabyte, below its read-only part or below a bound
pub record InMegabyte (p : Place) (bound : ℕ) : Type 0 where
  pub at : ℕ
  pub is : p ≡ Dos at
  pub low : at < bound

-- or a byte of a block
pub record InBlockBytes (handles : List ℕ) (p : Place) : Type 0 where
  pub place : ℕ
  pub at : ℕ
  pub is : p ≡ Block (suc place) at
  pub byte : IsBlockByte handles place at

abbrev pub StandsBelow : List ℕ → ℕ → Place → Type 0
StandsBelow handles bound p = InMegabyte p bound ⊎ InBlockBytes handles p

-- the client may write there
abbrev pub IsWritable : List ℕ → Place → Type 0
IsWritable handles p = StandsBelow handles ROM_START p

-- a block that has the byte
record HasBlock (block : Option MemoryBlock) (at : ℕ) : Type 0 where
  held : MemoryBlock
  there : block ≡ Some held
  inside : at < length held.bytes

has_block : (block : Option MemoryBlock) (at : ℕ) → HasByte block at → HasBlock block at
has_block None at byte = absurd byte
has_block (Some block) at byte = record { held = block; there = refl; inside = byte }

byte_in : (handles tables locks frames : List ℕ) (number at : ℕ) → HasByte (block_at (blocks_in handles tables locks frames) number) at →
    InBlockBytes handles (Block number at)
byte_in handles tables locks frames number at byte =
    let has = has_block (block_at (blocks_in handles tables locks frames) number) at byte in
    let row = held_row handles tables locks frames number has.held has.there in
    let inside = has.inside in
    let long = row.gives.bytes in
    grind arith

-- what the client holds of the world lies in the memory
stands_in : (b : List ℕ) (budget : ℕ) (w : World) (p : Place) (bound : ℕ) →
    w.blocks ≡ blocks_in (handles_part b) (tables_part b) (locks_part b) (budget_part b budget) →
    ((at : ℕ) → p ≡ Dos at → at < bound) → IsHeld w p → StandsBelow (handles_part b) bound p
stands_in b budget w (Dos at) bound e low held = inl (record { at = at; is = refl; low = low at refl })
stands_in b budget w (Block number at) bound e low held =
    inr (byte_in (handles_part b) (tables_part b) (locks_part b) (budget_part b budget) number at
    (subst (λ (bs : List (Option MemoryBlock)). HasByte (block_at bs number) at) e held))
stands_in b budget w Host bound e low held = absurd held
stands_in b budget w Nothing bound e low held = absurd held

below_rom : (p : Place) (at : ℕ) → may_touch p true ≡ true → p ≡ Dos at → at < ROM_START
below_rom p at may e = ltb-true at ROM_START (ap (λ (q : Place). may_touch q true) (sym e) ∙ may)

-- a place that the client holds and may write is one of these
pub writable : (b : List ℕ) (budget : ℕ) (mode : Mode) (regs : Regs) (vif : Bool) (width : Option Width) (p : Place) →
    may_touch p true ≡ true → IsHeld (world_of b budget mode regs vif width) p → IsWritable (handles_part b) p
writable b budget mode regs vif width p may held =
    stands_in b budget (world_of b budget mode regs vif width) p ROM_START (blocks_is b budget mode regs vif width)
    (λ at e. below_rom p at may e) held

-- the rows of the blocks of a world whose blocks are sound
pub ranges_of : (b : List ℕ) (budget pages : ℕ) (mode : Mode) (regs : Regs) (vif : Bool) (width : Option Width) →
    SoundBlocks (world_of b budget mode regs vif width).blocks pages → HasRanges (handles_part b)
ranges_of b budget pages mode regs vif width sound =
    ranges (handles_part b) (tables_part b) (locks_part b) (budget_part b budget) pages
    (subst (λ (bs : List (Option MemoryBlock)). SoundBlocks bs pages) (blocks_is b budget mode regs vif width) sound)

-- addresses

pub address_dos : (b : List ℕ) (at : ℕ) → address_of b (Dos at) ≡ at
unfolding address_of
address_dos b at = refl

-- the place lies in the megabyte below that bound, or among the budget frames
pub address_outside : (b : List ℕ) (budget : ℕ) → Holds b budget → (bound : ℕ) (p : Place) → StandsBelow (handles_part b) bound p →
    (address_of b p < bound) ⊎ (PAGE_SIZE * BUDGET_FRAMES ≤ address_of b p)
address_outside b budget holds bound p at = grind (arith, address_dos, block_spot)

-- an entry that names a frame is one of the block region
entry_inside : (b : List ℕ) (budget page : ℕ) → Holds b budget → entry_of (tables_part b) page ≢ 0 → page < BLOCK_REGION_PAGES
entry_inside b budget page holds some = grind (arith, dword_zero, get_or_past, length-region)

-- and its frame isn't idle
pub entry_away : (b : List ℕ) (budget page frame : ℕ) → Holds b budget → NamesBudgetFrame budget (entry_of (tables_part b) page) →
    IsIdle (taken_part b) budget frame → entry_of (tables_part b) page / PAGE_SIZE ≢ frame
entry_away b budget page frame holds names is same = grind (arith, entry_inside)

-- a byte of a block is beside the first doublewords of idle frames
pub spot_away : (b : List ℕ) (budget place at frame : ℕ) → Holds b budget → IsBlockByte (handles_part b) place at →
    IsIdle (taken_part b) budget frame →
    (spot (tables_part b) (first_page_of (handles_part b) place) at < PAGE_SIZE * (frame - BUDGET_FRAMES))
    ⊎ (PAGE_SIZE * (frame - BUDGET_FRAMES) + 4 ≤ spot (tables_part b) (first_page_of (handles_part b) place) at)
spot_away b budget place at frame holds byte is = grind (arith, byte_frame, entry_away)
