-- A block with one page more, and with one page less: the world after it, that the memory still holds one, and what stays.
use Rattle.std.proofs.Common.{◌≡◌, ◌≢◌, ℕ, zero, suc, ◌+◌, ◌-◌, ◌*◌, ◌/◌, ◌%◌, ◌<◌, ◌≤◌, inl, inr, true, Bool, List, slice_index}
use Rattle.std.proofs.Common.{slice_index_or, slice_set, refl, ap, ◌∙◌, sym, subst, arith, Option, None, Some}
use Rattle.client_world.specs.declared.host_frames.TheConstants.{PAGE_SIZE, PAGE_DIRECTORY, BUDGET_FRAMES, TAKEN_FRAMES}
use Rattle.client_world.specs.{declared.limits.TheConstants.{MAX_BLOCKS}, declared.place.Place.{Place}}
use Rattle.client_world.specs.{declared.place.Place.TheVariants.{Dos, Block, Host, Nothing}, declared.registers.Mode.{Mode}}
use Rattle.client_world.specs.{declared.registers.Regs.{Regs}, declared.registers.Width.{Width}, Access.{HasByte, IsHeld, IsHeldIn}}
use Rattle.client_world.specs.{Soundness.{pages_of_block}, World.{World, MemoryBlock, block_at, base_of_block}}
use Rattle.guest_ram.specs.Bytes.{dword}
use Rattle.guest_ram.proofs.ListedLaws.{at_listed}
use Rattle.page_tables.specs.{Budget.{IsBudgetFrame, IsFree, AllTaken, taken_place}, Entry.{page_entry}, FreeList.{first_free}}
use Rattle.page_tables.specs.Walk.{table_entry, frame_of}
use Rattle.block_memory.specs.{BlockChanges.{blocks_held}, BlockSizes.{CanHold, longer, shorter}}
use Rattle.host_memory.specs.{Holds.{Holds}, Layout.{world_of, address_of, rows_part, vectors_part, handles_part, tables_part, taken_part}}
use Rattle.host_memory.specs.{Layout.{base_of, pages_of, first_page_of, entry_of, held_block}, Tables.{NamesBudgetFrame}}
use Rattle.block_memory.proofs.{BlockMore.{block_of, blocks_of, more_blocks, less_blocks}, PageSums.{used_front, pages_of_row}}
use Rattle.block_memory.proofs.{PageSums.{all_pages_are}, PageMore.{BlockParts, HasRoom, HasPageMore, region_page, page_inside, is_away}}
use Rattle.block_memory.proofs.{PageMore.{first_new, first_old, first_other}, PageParts.{block_parts, MayGrow, MayShrink, grown_parts}}
use Rattle.block_memory.proofs.PageParts.{grown_more, grown_beside, grown_zero, grown_unlocked, grown_holds, shrunk_parts, shrunk_less}
use Rattle.block_memory.proofs.{PageParts.{shrunk_beside, shrunk_holds}, PageWrites.{InBudget, grown, grown_has, shrunk, shrunk_has}}
use Rattle.block_memory.proofs.{PageWrites.{sizes_of, host_of, page_in_region, page_is}, RegionPages.{region_entry, taken_byte}}
use Rattle.host_memory.proofs.{BlockRows.{HasRanges, IsRange, held_base, length-held_bytes, row_there, row_at_block}, Parts.{head_is}}
use Rattle.host_memory.proofs.{Parts.{HasParts, MemoryParts, parts_of, world_by, holds_by, holds_parts}, VectorParts.{put_head}}
use Rattle.host_memory.proofs.VectorWrites.{head_lists, same_lists}

pub held_in : (w : World) (blocks : List (Option MemoryBlock)) (p : Place) → w.blocks ≡ blocks → IsHeld w p → IsHeldIn blocks p
held_in w blocks p e held = subst (λ (bs : List (Option MemoryBlock)). IsHeldIn bs p) e held

pub is_held : (w : World) (blocks : List (Option MemoryBlock)) (p : Place) → w.blocks ≡ blocks → IsHeldIn blocks p → IsHeld w p
is_held w blocks p e held = subst (λ (bs : List (Option MemoryBlock)). IsHeldIn bs p) (sym e) held

-- the blocks changed, and nothing else: the rows of the descriptors stay, and each place that is held before and after keeps its address
pub record ChangesBlocks (b c : List ℕ) (budget : ℕ) (blocks : List (Option MemoryBlock)) : Type 0 where
  pub holds : Holds c budget
  pub are : blocks_held c budget ≡ blocks
  pub world : (mode : Mode) (regs : Regs) (vif : Bool) (width : Option Width) →
      world_of c budget mode regs vif width ≡ record (world_of b budget mode regs vif width) { blocks = blocks }
  pub rows : rows_part c ≡ rows_part b
  pub addresses : (p : Place) → IsHeldIn (blocks_held b budget) p → IsHeldIn blocks p → address_of c p ≡ address_of b p

-- where a byte of a block is, in a state
abbrev byte_place : BlockParts → ℕ → ℕ → ℕ
byte_place s place at = PAGE_SIZE * (entry_of s.tables (first_page_of s.handles place + at / PAGE_SIZE) / PAGE_SIZE) + at % PAGE_SIZE

-- it is the same in two states that differ in one page
kept_place : (old new : BlockParts) (budget place base n frame : ℕ) → HasPageMore old new budget place base n frame →
    (other at : ℕ) → other < MAX_BLOCKS → at < PAGE_SIZE * pages_of old.handles other → byte_place new other at ≡ byte_place old other at
kept_place old new budget place base n frame m other at within inside =
    grind (arith, first_new, first_old, first_other, is_away, page_inside)

-- a byte that is held is one of a row
pub held_byte : (s : BlockParts) (place at : ℕ) → HasByte (block_at (blocks_of s) (suc place)) at →
    (place < MAX_BLOCKS) × (at < PAGE_SIZE * pages_of s.handles place)
held_byte s place at held = by_block (block_at (blocks_of s) (suc place)) refl held
  where
    by_block : (o : Option MemoryBlock) → block_at (blocks_of s) (suc place) ≡ o → HasByte o at →
        (place < MAX_BLOCKS) × (at < PAGE_SIZE * pages_of s.handles place)
    by_block None e has = absurd has
    by_block (Some block) e has =
        let row = row_at_block s.handles s.tables s.locks s.frames place block e in
        let long = row.1.bytes in
        (row.0, omega arith)

-- so places that are held in the state of fewer pages have one address in both
kept_addresses : (few many : List ℕ) (old new : BlockParts) (budget place base n frame : ℕ) →
    HasPageMore old new budget place base n frame → block_parts (parts_of few budget) ≡ old → block_parts (parts_of many budget) ≡ new →
    (p : Place) → IsHeldIn (blocks_of old) p → address_of many p ≡ address_of few p
unfolding address_of
kept_addresses few many old new budget place base n frame m e f (Dos at) held = refl
kept_addresses few many old new budget place base n frame m e f (Block zero at) held = absurd held
kept_addresses few many old new budget place base n frame m e f (Block (suc other) at) held = grind (arith, held_byte, kept_place)
kept_addresses few many old new budget place base n frame m e f Host held = absurd held
kept_addresses few many old new budget place base n frame m e f Nothing held = absurd held

-- the world after a change of the parts of blocks alone
pub world_after : (b c : List ℕ) (budget : ℕ) (q : MemoryParts) → HasParts c budget q →
    q ≡ record (parts_of b budget) { handles = q.handles; tables = q.tables; taken = q.taken; locks = q.locks; frames = q.frames } →
    (mode : Mode) (regs : Regs) (vif : Bool) (width : Option Width) →
    world_of c budget mode regs vif width ≡ record (world_of b budget mode regs vif width) { blocks = blocks_of (block_parts q) }
unfolding world_of
world_after b c budget q e same mode regs vif width = grind (arith, world_by)

-- and where the head of the list of free frames changes too
pub world_after_head : (b c : List ℕ) (budget head : ℕ) (q : MemoryParts) → HasParts c budget q →
    q ≡ record (parts_of b budget) {
      vectors = put_head (vectors_part b) head;
      handles = q.handles;
      tables = q.tables;
      taken = q.taken;
      locks = q.locks;
      frames = q.frames;
    } →
    (mode : Mode) (regs : Regs) (vif : Bool) (width : Option Width) →
    world_of c budget mode regs vif width ≡ record (world_of b budget mode regs vif width) { blocks = blocks_of (block_parts q) }
unfolding world_of
world_after_head b c budget head q e same mode regs vif width = grind (arith, head_lists, same_lists, world_by)

-- what the world says of the blocks, the rows say

pub block_reads : (s : BlockParts) (place : ℕ) → place < MAX_BLOCKS → slice_index_or (blocks_of s) place None ≡ block_of s place
block_reads s place within = at_listed MAX_BLOCKS (block_of s) place None within

pub pages_read : (s : BlockParts) (place n : ℕ) → place < MAX_BLOCKS → pages_of_block (slice_index_or (blocks_of s) place None) ≡ n →
    pages_of s.handles place ≡ n
pages_read s place n within pages =
    sym (pages_of_row s.handles s.tables s.locks s.frames place) ∙ ap pages_of_block (sym (block_reads s place within)) ∙ pages

pub base_read : (s : BlockParts) (place base : ℕ) → place < MAX_BLOCKS → pages_of s.handles place ≢ 0 →
    base_of_block (slice_index_or (blocks_of s) place None) ≡ base → base_of s.handles place ≡ base
base_read s place base within some based = grind (arith, block_reads, held_base, row_there)

pub room_of : (s : BlockParts) (budget place base n to : ℕ) → HasRanges s.handles → CanHold (blocks_of s) budget place base n to → n < to →
    HasRoom s place base n
room_of s budget place base n to ranges can more =
    let above = can.above in let below = can.below in
    let pages = pages_read s place n can.within can.pages in
    record {
      within = can.within;
      range = record { whole = can.whole; from = can.above; to = omega arith };
      pages = pages;
      based = λ some. base_read s place base can.within (omega arith) (can.based some);
      ranges = λ other inside ne some. ranges.each other inside some;
      apart = λ other inside ne some. (
          let own_base = held_base s.handles s.tables s.locks s.frames other in
          let long = length-held_bytes s.handles s.tables s.locks s.frames other in
          elim (can.apart other (held_block s.handles s.tables s.locks s.frames other) ne
          (block_reads s other inside ∙ row_there s.handles s.tables s.locks s.frames other some)) [
            | inl far ↦ inl (omega arith)
            | inr near ↦ inr (omega arith)
          ]);
    }

-- a frame of the budget is free where the blocks have fewer pages
pub not_all_taken : (b : List ℕ) (budget place base n to : ℕ) → Holds b budget → CanHold (blocks_held b budget) budget place base n to →
    n < to → AllTaken b → ⊥
not_all_taken b budget place base n to holds can more all =
    let size = holds.size in let most = holds.most in let room = can.room in
    let sizes = sizes_of b budget (host_of b budget holds) in
    let s = block_parts (parts_of b budget) in
    let together = all_pages_are s.handles s.tables s.locks s.frames in
    let front : budget ≤ _ = used_front (taken_part b) budget (omega (arith, sizes.taken)) (λ k small.
    let taken = all (BUDGET_FRAMES + k) (record { from = omega arith; inside = omega arith }) in
    let byte = taken_byte b k (omega arith) in
    λ none. taken (ap (slice_index b) (let e : taken_place (BUDGET_FRAMES + k) ≡ PAGE_SIZE * TAKEN_FRAMES + k = omega arith in e) ∙ byte
    ∙ none)) in
    omega (arith, front, holds.count, together)

pub in_budget : (b : List ℕ) (budget frame : ℕ) → Holds b budget → IsBudgetFrame b frame → InBudget budget frame
in_budget b budget frame holds is = grind arith

pub may_grow : (b : List ℕ) (budget place base n to frame : ℕ) → Holds b budget → HasRanges (handles_part b) →
    CanHold (blocks_held b budget) budget place base n to → n < to → InBudget budget frame → IsFree b frame → first_free b ≡ frame →
    MayGrow (parts_of b budget) budget place base n (frame - BUDGET_FRAMES)
may_grow b budget place base n to frame holds ranges can more inside free head =
    let from = inside.from in let end = inside.to in let most = holds.most in
    record {
      sizes = sizes_of b budget (host_of b budget holds);
      room = room_of (block_parts (parts_of b budget)) budget place base n to ranges can more;
      few = omega arith;
      free = sym (taken_byte b (frame - BUDGET_FRAMES) (omega arith)) ∙ free;
      head = sym (head_is b) ∙ head ∙ (let e : frame ≡ BUDGET_FRAMES + (frame - BUDGET_FRAMES) = omega arith in e);
    }

-- a page more
pub grown_changes : (b : List ℕ) (budget place base n to frame : ℕ) → Holds b budget → HasRanges (handles_part b) →
    CanHold (blocks_held b budget) budget place base n to → n < to → InBudget budget frame → IsFree b frame → first_free b ≡ frame →
    ChangesBlocks b (grown b place base n frame) budget
    (slice_set (blocks_held b budget) place (Some (longer base (slice_index_or (blocks_held b budget) place None) 1)))
grown_changes b budget place base n to frame holds ranges can further inside free head =
    let f = frame - BUDGET_FRAMES in
    let p = parts_of b budget in
    let q = grown_parts p place base n f in
    let h = holds_parts b budget holds in
    let may = may_grow b budget place base n to frame holds ranges can further inside free head in
    let e = grown_has b budget place base n frame (host_of b budget holds) inside can.within may.room.range in
    let more = grown_more p budget place base n f h may in
    let blocks : blocks_of (block_parts q)
    ≡ slice_set (blocks_held b budget) place (Some (longer base (slice_index_or (blocks_held b budget) place None) 1)) =
    more_blocks (block_parts p) (block_parts q) budget place base n f more (grown_beside p budget place base n f) h.blocks
    (grown_zero p budget place base n f may) (grown_unlocked p budget place base n f h may)
    ∙ ap (λ (o : Option MemoryBlock). slice_set (blocks_held b budget) place (Some (longer base o 1)))
    (sym (block_reads (block_parts p) place can.within)) in
    record {
      holds = holds_by (grown b place base n frame) budget q e holds.most
          (grown_holds p budget place base n f h may);
      are = ap (λ (x : MemoryParts). blocks_of (block_parts x)) e.are ∙ blocks;
      world = λ mode regs vif width.
          world_after_head b (grown b place base n frame) budget (dword p.frames (PAGE_SIZE * f)) q e refl mode regs vif width
          ∙ ap (λ (bs : List (Option MemoryBlock)). record (world_of b budget mode regs vif width) { blocks = bs }) blocks;
      rows = ap (λ (x : MemoryParts). x.rows) e.are;
      addresses = λ place_of_it before after.
          kept_addresses b (grown b place base n frame) (block_parts p) (block_parts q) budget place base n f more
          refl (ap block_parts e.are) place_of_it before;
    }

-- the last page of a block lies in a frame of the budget

abbrev pub last_frame : List ℕ → ℕ → ℕ → ℕ
last_frame b base n = frame_of (table_entry b PAGE_DIRECTORY (base + PAGE_SIZE * n))

-- the block has its page n as the last one
pub record HasLast (blocks : List (Option MemoryBlock)) (place base n : ℕ) : Type 0 where
  pub within : place < MAX_BLOCKS
  pub pages : pages_of_block (slice_index_or blocks place None) ≡ n + 1
  pub based : base_of_block (slice_index_or blocks place None) ≡ base

pub last_range : (b : List ℕ) (budget place base n : ℕ) → HasRanges (handles_part b) → HasLast (blocks_held b budget) place base n →
    IsRange base (n + 1)
last_range b budget place base n ranges has =
    let s = block_parts (parts_of b budget) in
    let pages = pages_read s place (n + 1) has.within has.pages in
    let based = base_read s place base has.within (omega arith) has.based in
    rw (← based, ← pages) (ranges.each place has.within (omega arith))

pub record HasLastFrame (b : List ℕ) (budget base n : ℕ) : Type 0 where
  pub inside : InBudget budget (last_frame b base n)
  pub entry : entry_of (tables_part b) (region_page base n) ≡ page_entry (last_frame b base n) true

pub has_last_frame : (b : List ℕ) (budget place base n : ℕ) → Holds b budget → HasRanges (handles_part b) →
    HasLast (blocks_held b budget) place base n → HasLastFrame b budget base n
has_last_frame b budget place base n holds ranges has =
    let s = block_parts (parts_of b budget) in
    let pages = pages_read s place (n + 1) has.within has.pages in
    let based = base_read s place base has.within (omega arith) has.based in
    let range = last_range b budget place base n ranges has in
    let first : first_page_of (handles_part b) place + n ≡ region_page base n = ap (λ (x : ℕ). region_page x n) based in
    let names : NamesBudgetFrame budget (entry_of (tables_part b) (region_page base n)) =
    subst (λ (k : ℕ). NamesBudgetFrame budget (entry_of (tables_part b) k)) first (holds.blocks.named place n has.within (omega arith)) in
    let entry : table_entry b PAGE_DIRECTORY (base + PAGE_SIZE * n) ≡ entry_of (tables_part b) (region_page base n) =
    region_entry b budget (base + PAGE_SIZE * n) (host_of b budget holds) (page_in_region base n range)
    ∙ ap (entry_of (tables_part b)) (page_is base n range) in
    let from = names.from in let to = names.to in
    grind arith

pub may_shrink : (b : List ℕ) (budget place base n : ℕ) → Holds b budget → HasRanges (handles_part b) →
    HasLast (blocks_held b budget) place base n → MayShrink (parts_of b budget) budget place base n (last_frame b base n - BUDGET_FRAMES)
may_shrink b budget place base n holds ranges has =
    let s = block_parts (parts_of b budget) in
    let pages = pages_read s place (n + 1) has.within has.pages in
    let last = has_last_frame b budget place base n holds ranges has in
    let from = last.inside.from in let to = last.inside.to in
    record {
      sizes = sizes_of b budget (host_of b budget holds);
      ranges = ranges;
      within = has.within;
      pages = pages;
      based = base_read s place base has.within (omega arith) has.based;
      few = omega arith;
      named = last.entry ∙ ap (λ (k : ℕ). page_entry k true)
          (let e : last_frame b base n ≡ BUDGET_FRAMES + (last_frame b base n - BUDGET_FRAMES) = omega arith in e);
    }

-- a page less
pub shrunk_changes : (b : List ℕ) (budget place base n : ℕ) → Holds b budget → HasRanges (handles_part b) →
    HasLast (blocks_held b budget) place base n → ChangesBlocks b (shrunk b place base n (last_frame b base n)) budget
    (slice_set (blocks_held b budget) place (shorter (slice_index_or (blocks_held b budget) place None) n))
shrunk_changes b budget place base n holds ranges has =
    let frame = last_frame b base n in
    let f = frame - BUDGET_FRAMES in
    let p = parts_of b budget in
    let q = shrunk_parts p place base n f in
    let h = holds_parts b budget holds in
    let may = may_shrink b budget place base n holds ranges has in
    let last = has_last_frame b budget place base n holds ranges has in
    let e = shrunk_has b budget place base n frame (host_of b budget holds) last.inside has.within
    (last_range b budget place base n ranges has) in
    let more = shrunk_less p budget place base n f h may in
    let after = shrunk_holds p budget place base n f h may in
    let blocks : blocks_of (block_parts q)
    ≡ slice_set (blocks_held b budget) place (shorter (slice_index_or (blocks_held b budget) place None) n) =
    less_blocks (block_parts q) (block_parts p) budget place base n f more (shrunk_beside p budget place base n f) after.blocks
    ∙ ap (λ (o : Option MemoryBlock). slice_set (blocks_held b budget) place (shorter o n))
    (sym (block_reads (block_parts p) place has.within)) in
    record {
      holds = holds_by (shrunk b place base n frame) budget q e holds.most after;
      are = ap (λ (x : MemoryParts). blocks_of (block_parts x)) e.are ∙ blocks;
      world = λ mode regs vif width.
          world_after_head b (shrunk b place base n frame) budget (BUDGET_FRAMES + f) q e refl mode regs vif width
          ∙ ap (λ (bs : List (Option MemoryBlock)). record (world_of b budget mode regs vif width) { blocks = bs }) blocks;
      rows = ap (λ (x : MemoryParts). x.rows) e.are;
      addresses = λ place_of_it before held.
          sym (kept_addresses (shrunk b place base n frame) b (block_parts q) (block_parts p) budget place base n f more
          (ap block_parts e.are) refl place_of_it (subst (λ (bs : List (Option MemoryBlock)). IsHeldIn bs place_of_it) (sym blocks) held));
    }
