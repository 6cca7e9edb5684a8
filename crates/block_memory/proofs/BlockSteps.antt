-- A change of the blocks of a memory: one after another, and a page added to a block or removed from it.
use Rattle.std.proofs.Common.{◌≡◌, ◌≢◌, ℕ, zero, suc, ◌+◌, ◌*◌, ◌-◌, ◌<◌, inl, inr, true, List, length, slice_index_or, slice_set, ap, ◌∙◌}
use Rattle.std.proofs.{Common.{sym, subst, arith, Option, None, Some, get_or-set_same, get_or-set_other}, lemmas.Bool.{cases_eq}}
use Rattle.std.proofs.lemmas.List.{set-get_or}
use Rattle.client_world.specs.declared.host_frames.TheConstants.{PAGE_SIZE, BUDGET_FRAMES, PAGE_ENTRY_SIZE}
use Rattle.client_world.specs.{declared.memory_map.TheConstants.{BLOCK_REGION_PAGES}, declared.place.Place.{Place}}
use Rattle.client_world.specs.{declared.place.Place.TheVariants.{Dos, Block, Host, Nothing}, Access.{HasByte, IsHeldIn}}
use Rattle.client_world.specs.{Soundness.{SoundBlocks, HoldBytes}, World.{MemoryBlock}}
use Rattle.guest_ram.specs.{Bytes.{put, dword_bytes}, Listed.{copies}}
use Rattle.page_tables.specs.{Budget.{HasBudget, IsBudgetFrame, IsFree, IsTaken, IsNamedNowhere, AllTaken}, Entry.{page_entry}}
use Rattle.page_tables.specs.{FreeList.{HasFreeList, first_free, with_head, without_head}, Mapping.{HasTables, IsCovered, IsMapped}}
use Rattle.page_tables.specs.{Mapping.{IsUnmapped}, Walk.{frame_of}}
use Rattle.page_tables.proofs.MapLaws.{with_entry}
use Rattle.host_memory.specs.{Holds.{Holds, ListsFreeFrames}, Layout.{world_of, handles_part, tables_part, locks_part, budget_part}}
use Rattle.host_memory.specs.Layout.{taken_part, entry_of}
use Rattle.host_memory.proofs.{BlockRows.{HasRanges, IsRange, ranges}, Parts.{list_of_parts, MemoryParts, parts_of, holds_parts}}
use Rattle.host_memory.proofs.HostTables.{has_tables}
use Rattle.block_memory.specs.BlockChanges.{blocks_held, CanHoldIn, HasPagesIn, HoldsSoundBlocks, ReplacesBlock, ReplacesBlocks, with_at}
use Rattle.block_memory.specs.BlockSizes.{longer, shorter}
use Rattle.block_memory.proofs.PageChanges.{ChangesBlocks, HasLast, HasLastFrame, last_frame, last_range, has_last_frame, may_shrink}
use Rattle.block_memory.proofs.{PageChanges.{not_all_taken, in_budget, room_of, grown_changes, shrunk_changes}, PageMore.{page_inside}}
use Rattle.block_memory.proofs.{PageMore.{page_outside, region_page}, PageParts.{block_parts, base_in_row, shrunk_less}}
use Rattle.block_memory.proofs.PageWrites.{cleared, cleared_has, grown, shrunk, unlocked, with_block_row, host_in, host_of, page_in_region}
use Rattle.block_memory.proofs.{PageWrites.{page_is, entry_has, own_host}, RegionPages.{tables_of, budget_of, region_covered}}
use Rattle.block_memory.proofs.RegionPages.{region_mapped, region_unmapped, named_nowhere, entry_kinds, page_at, taken_byte}
use Rattle.block_memory.proofs.SizedSound.{longer_sound, longer_fits, shorter_sound, shorter_fits, last_of}

-- a memory holds a world for one budget alone
pub one_budget : (b : List ℕ) (m n : ℕ) → Holds b m → Holds b n → m ≡ n
one_budget b m n one other = let p = one.size in let q = other.size in omega arith

pub for_budget : (b c : List ℕ) (place : ℕ) (change : Option MemoryBlock → Option MemoryBlock) (budget : ℕ) → Holds b budget →
    ReplacesBlocks b c budget (with_at (blocks_held b budget) place change) → ReplacesBlock b c place change
for_budget b c place change budget holds replaces other h =
    subst (λ (n : ℕ). ReplacesBlocks b c n (with_at (blocks_held b n) place change)) (one_budget b budget other holds h) replaces

pub ranges_held : (b : List ℕ) (budget : ℕ) → HoldsSoundBlocks b budget → HasRanges (handles_part b)
ranges_held b budget h = ranges (handles_part b) (tables_part b) (locks_part b) (budget_part b budget) budget h.sound

-- no change, and one change after another

pub same_blocks : (b : List ℕ) (budget : ℕ) (blocks : List (Option MemoryBlock)) → HoldsSoundBlocks b budget →
    blocks_held b budget ≡ blocks → ReplacesBlocks b b budget blocks
unfolding world_of
same_blocks b budget blocks holds e = grind arith

pub replaced_by : (b c d : List ℕ) (budget : ℕ) (first last : List (Option MemoryBlock)) → ReplacesBlocks b c budget first →
    ReplacesBlocks c d budget last →
    ((p : Place) → IsHeldIn (blocks_held b budget) p → IsHeldIn last p → IsHeldIn first p) → ReplacesBlocks b d budget last
replaced_by b c d budget first last one two between = grind arith

pub becomes : (b c : List ℕ) (budget : ℕ) (blocks others : List (Option MemoryBlock)) → ReplacesBlocks b c budget blocks → blocks ≡ others →
    ReplacesBlocks b c budget others
becomes b c budget blocks others replaces e = subst (ReplacesBlocks b c budget) e replaces

-- a place that is held with two blocks at an index is held with a third
pub held_there : (blocks : List (Option MemoryBlock)) (place : ℕ) (x y : Option MemoryBlock) → place < length blocks →
    ((at : ℕ) → HasByte (slice_index_or blocks place None) at → HasByte x at → HasByte y at) →
    (p : Place) → IsHeldIn blocks p → IsHeldIn (slice_set blocks place x) p → IsHeldIn (slice_set blocks place y) p
held_there blocks place x y within keeps (Dos at) one two = tt
held_there blocks place x y within keeps (Block zero at) one two = absurd one
held_there blocks place x y within keeps (Block (suc other) at) one two = grind (arith, get_or-set_other, get_or-set_same)
held_there blocks place x y within keeps Host one two = absurd one
held_there blocks place x y within keeps Nothing one two = absurd one

-- and with one that has the block's bytes
pub held_still : (blocks : List (Option MemoryBlock)) (place : ℕ) (y : Option MemoryBlock) → place < length blocks →
    ((at : ℕ) → HasByte (slice_index_or blocks place None) at → HasByte y at) → (p : Place) → IsHeldIn blocks p →
    IsHeldIn (slice_set blocks place y) p
held_still blocks place y within keeps p held =
    held_there blocks place (slice_index_or blocks place None) y within (λ at one two. keeps at one) p held
    (subst (λ (bs : List (Option MemoryBlock)). IsHeldIn bs p) (sym (set-get_or blocks place None)) held)

replaced : (b c : List ℕ) (budget : ℕ) (blocks : List (Option MemoryBlock)) → ChangesBlocks b c budget blocks → SoundBlocks blocks budget →
    HoldBytes blocks → ReplacesBlocks b c budget blocks
replaced b c budget blocks changes sound fits = grind arith

-- so the block at an index changes
pub replaced_at : (b c d : List ℕ) (budget place : ℕ) (change : Option MemoryBlock → Option MemoryBlock) → HoldsSoundBlocks b budget →
    d ≡ c → ChangesBlocks b c budget (with_at (blocks_held b budget) place change) →
    SoundBlocks (with_at (blocks_held b budget) place change) budget → HoldBytes (with_at (blocks_held b budget) place change) →
    ReplacesBlock b d place change
replaced_at b c d budget place change holds e changes sound fits = grind (arith, for_budget, replaced)

-- the memory lists its free frames
pub free_list : (b : List ℕ) (budget : ℕ) → Holds b budget → HasFreeList b
free_list b budget holds = list_of_parts b budget (record { size = holds.size; most = holds.most }) holds.free

-- ---- a page more

-- a frame is free
pub frame_free : (b : List ℕ) (place base n : ℕ) → CanHoldIn b place base n (n + 1) → AllTaken b → ⊥
frame_free b place base n g = not_all_taken b g.budget place base n (n + 1) g.holds.holds g.can (omega arith)

-- what mapping asks, once a frame is taken and cleared
pub record CanMap (b : List ℕ) (lin : ℕ) : Type 0 where
  pub tables : HasTables b
  pub covered : IsCovered b lin
  pub unmapped : IsUnmapped b lin

pub can_map : (b : List ℕ) (place base n frame : ℕ) → CanHoldIn b place base n (n + 1) → IsBudgetFrame b frame → (b1 c : List ℕ) →
    b1 ≡ without_head b frame → c ≡ put b1 (PAGE_SIZE * frame) (copies PAGE_SIZE 0) → CanMap c (base + PAGE_SIZE * n)
can_map b place base n frame g is b1 c e1 e2 =
    let budget = g.budget in
    let holds = g.holds.holds in
    let s = block_parts (parts_of b budget) in
    let room = room_of s budget place base n (n + 1) (ranges_held b budget g.holds) g.can (omega arith) in
    let host = host_of b budget holds in
    let inside = in_budget b budget frame holds is in
    let parts = cleared_has b budget _ frame (own_host b budget host) inside in
    let after = host_in _ budget _ parts in
    let in_region = page_in_region base n room.range in
    let absent : entry_of (tables_part b) (region_page base n) ≡ 0 =
    holds.blocks.absent (region_page base n) (page_inside base n room.range) (page_outside s place base n room) in
    subst (λ (x : List ℕ). CanMap x (base + PAGE_SIZE * n)) (sym (cleared_is b b1 c frame e1 e2)) (record {
      tables = tables_of (cleared b frame) budget after;
      covered = region_covered (cleared b frame) budget (base + PAGE_SIZE * n) after in_region;
      unmapped = region_unmapped (cleared b frame) budget (base + PAGE_SIZE * n) after in_region
          (ap (λ (p : MemoryParts). entry_of p.tables (page_at (base + PAGE_SIZE * n))) parts.has.are
          ∙ ap (entry_of (tables_part b)) (page_is base n room.range) ∙ absent);
    })
  where
    cleared_is : (b b1 b2 : List ℕ) (frame : ℕ) → b1 ≡ without_head b frame → b2 ≡ put b1 (PAGE_SIZE * frame) (copies PAGE_SIZE 0) →
        b2 ≡ cleared b frame
    cleared_is b b1 b2 frame e f = f ∙ ap (λ (x : List ℕ). put x (PAGE_SIZE * frame) (copies PAGE_SIZE 0)) e

-- the four writes
grown_is : (b b1 b2 b3 b4 : List ℕ) (place base n frame : ℕ) → b1 ≡ without_head b frame →
    b2 ≡ put b1 (PAGE_SIZE * frame) (copies PAGE_SIZE 0) → b3 ≡ with_entry b2 (base + PAGE_SIZE * n) (page_entry frame true) →
    b4 ≡ with_block_row b3 place base (n + 1) → b4 ≡ grown b place base n frame
grown_is b b1 b2 b3 b4 place base n frame e1 e2 e3 e4 = grind arith

pub page_added : (b b1 b2 b3 b4 : List ℕ) (place base n frame : ℕ) → CanHoldIn b place base n (n + 1) → IsBudgetFrame b frame →
    IsFree b frame → first_free b ≡ frame → b1 ≡ without_head b frame → b2 ≡ put b1 (PAGE_SIZE * frame) (copies PAGE_SIZE 0) →
    b3 ≡ with_entry b2 (base + PAGE_SIZE * n) (page_entry frame true) → b4 ≡ with_block_row b3 place base (n + 1) →
    ReplacesBlock b b4 place (λ o. Some (longer base o 1))
page_added b b1 b2 b3 b4 place base n frame g is free head e1 e2 e3 e4 =
    let blocks = blocks_held b g.budget in
    replaced_at b (grown b place base n frame) b4 g.budget place (λ o. Some (longer base o 1)) g.holds
    (grown_is b b1 b2 b3 b4 place base n frame e1 e2 e3 e4)
    (grown_changes b g.budget place base n (n + 1) frame g.holds.holds (ranges_held b g.budget g.holds) g.can (omega arith)
    (in_budget b g.budget frame g.holds.holds is) free head)
    (longer_sound blocks g.budget place base n (n + 1) g.holds.sound g.can (omega arith))
    (longer_fits blocks g.budget place base n (n + 1) g.holds.sound g.holds.fits g.can)

-- ---- a page less

-- all that is known where the last page of a block is to be removed
record Dropping (b : List ℕ) (budget place base n : ℕ) : Type 0 where
  has : HasLast (blocks_held b budget) place base n
  range : IsRange base (n + 1)
  last : HasLastFrame b budget base n

dropping : (b : List ℕ) (place base n : ℕ) (d : HasPagesIn b place base (n + 1)) → Dropping b d.budget place base n
dropping b place base n d =
    let has = last_of (blocks_held b d.budget) place base n d.has in
    let held = ranges_held b d.budget d.holds in
    record {
      has = has;
      range = last_range b d.budget place base n held has;
      last = has_last_frame b d.budget place base n d.holds.holds held has;
    }

-- the page is mapped
pub is_mapped : (b : List ℕ) (place base n : ℕ) → HasPagesIn b place base (n + 1) → IsMapped b (base + PAGE_SIZE * n)
is_mapped b place base n d =
    let s = dropping b place base n d in
    region_mapped b d.budget (base + PAGE_SIZE * n) (last_frame b base n) (host_of b d.budget d.holds.holds) (page_in_region base n s.range)
    (ap (entry_of (tables_part b)) (page_is base n s.range) ∙ s.last.entry)

pub tables_there : (b : List ℕ) (place base n : ℕ) → HasPagesIn b place base n → HasTables b
tables_there b place base n d = has_tables b d.budget d.holds.holds

-- what giving the frame back asks, once the page is mapped no longer
pub record CanGive (b : List ℕ) (frame : ℕ) : Type 0 where
  pub budget : HasBudget b
  pub list : HasFreeList b
  pub is : IsBudgetFrame b frame
  pub taken : IsTaken b frame
  pub nowhere : IsNamedNowhere b frame

-- no other page names the frame
no_other : (b : List ℕ) (place base n : ℕ) → HasPagesIn b place base (n + 1) → (page : ℕ) → page < BLOCK_REGION_PAGES →
    page ≢ region_page base n → frame_of (entry_of (tables_part b) page) ≢ last_frame b base n
no_other b place base n d page small ne same =
    let s = dropping b place base n d in
    let from = s.last.inside.from in
    grind (arith, entry_kinds, page_inside, ranges_held)

pub can_give : (b : List ℕ) (place base n : ℕ) → HasPagesIn b place base (n + 1) → (c : List ℕ) →
    c ≡ with_entry b (base + PAGE_SIZE * n) 0 → (frame : ℕ) → frame ≡ last_frame b base n → CanGive c frame
can_give b place base n d c e frame f =
    let budget = d.budget in
    let holds = d.holds.holds in
    let s = dropping b place base n d in
    let host = host_of b budget holds in
    let in_region = page_in_region base n s.range in
    let page = page_is base n s.range in
    let lin = base + PAGE_SIZE * n in
    let after = with_entry b lin 0 in
    let parts = entry_has b budget _ lin (region_page base n) 0 (own_host b budget host) in_region page in
    let after_host = host_in _ budget _ parts in
    let from = s.last.inside.from in let to = s.last.inside.to in let most = holds.most in let size = after_host.size in
    let tables : tables_part after ≡ put (tables_part b) (PAGE_ENTRY_SIZE * region_page base n) (dword_bytes 0) =
    ap (λ (p : MemoryParts). p.tables) parts.has.are in
    let taken : taken_part after ≡ taken_part b = ap (λ (p : MemoryParts). p.taken) parts.has.are in
    let more = shrunk_less (parts_of b budget) budget place base n (last_frame b base n - BUDGET_FRAMES) (holds_parts b budget holds)
    (may_shrink b budget place base n holds (ranges_held b budget d.holds) s.has) in
    let busy = more.busy in
    rw (e, f) (record {
      budget = budget_of after budget after_host;
      list = list_of_parts after budget (record { size = after_host.size; most = holds.most })
          (subst (λ (p : MemoryParts). ListsFreeFrames p.vectors p.taken p.frames budget) (sym parts.has.are) holds.free);
      is = record { from = s.last.inside.from; inside = omega arith };
      taken = λ none. (grind (arith, taken_byte));
      nowhere = named_nowhere after budget (last_frame b base n) after_host s.last.inside.from
          (λ p small same. elim (cases_eq p (region_page base n)) [
            | inl here ↦ (grind arith)
            | inr ne ↦ no_other b place base n d p small ne
                (ap frame_of (more.other_entries p small ne) ∙ ap (λ (t : List ℕ). frame_of (entry_of t p)) (sym tables) ∙ same)
          ]);
    })

-- the five writes
shrunk_is : (b b1 b2 b3 b4 : List ℕ) (place base n frame other kept : ℕ) → b1 ≡ with_entry b (base + PAGE_SIZE * n) 0 →
    b2 ≡ with_head b1 other → other ≡ frame → b3 ≡ unlocked b2 (region_page base n) → b4 ≡ with_block_row b3 place kept n →
    kept ≡ base_in_row base n → b4 ≡ shrunk b place base n frame
shrunk_is b b1 b2 b3 b4 place base n frame other kept e f same g h row = grind (arith, base_in_row)

pub page_removed : (b b1 b2 b3 b4 : List ℕ) (place base n frame kept : ℕ) → HasPagesIn b place base (n + 1) →
    b1 ≡ with_entry b (base + PAGE_SIZE * n) 0 →
    b2 ≡ with_head b1 frame → frame ≡ last_frame b base n → b3 ≡ unlocked b2 (region_page base n) → b4 ≡ with_block_row b3 place kept n →
    kept ≡ base_in_row base n → ReplacesBlock b b4 place (λ o. shorter o n)
page_removed b b1 b2 b3 b4 place base n frame kept d e1 e2 same e3 e4 row =
    let blocks = blocks_held b d.budget in
    let s = dropping b place base n d in
    replaced_at b (shrunk b place base n (last_frame b base n)) b4 d.budget place (λ o. shorter o n) d.holds
    (shrunk_is b b1 b2 b3 b4 place base n (last_frame b base n) frame kept e1 e2 same e3 e4 row)
    (shrunk_changes b d.budget place base n d.holds.holds (ranges_held b d.budget d.holds) s.has)
    (shorter_sound blocks d.budget place base n d.holds.sound s.has)
    (shorter_fits blocks d.budget place base n d.holds.sound d.holds.fits s.has)
