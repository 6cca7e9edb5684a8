-- The blocks that a machine's memory holds are those of its world; blocks made, freed and resized by their handles: what each call asks of
-- the memory, and the machine after it; and the rows and bytes of blocks, read.
use Rattle.std.proofs.Common.{◌≡◌, ◌≢◌, ℕ, List, subst, Option, None, arith, zero, suc, ◌-◌, ◌<◌, ◌≤◌, length, slice_index_or, slice_set}
use Rattle.std.proofs.Common.{length-set, get_or-set_same, refl, ap, ◌∙◌, sym, Some, ◌+◌, ◌*◌, ◌/◌, ◌%◌, slice_index}
use Rattle.std.proofs.{lemmas.List.{set-set, set-get_or, get_or_past}, lemmas.Bool.{cases_lt}}
use Rattle.client_world.specs.{declared.place.Place.{Place}, Access.{IsHeld, HasByte, IsHeldIn, bytes_of_block}, Soundness.{IsSound}}
use Rattle.client_world.specs.{Soundness.{SoundBlocks, HoldBytes, pages_of_block}, World.{MemoryBlock, World, block_at, with_block_at}}
use Rattle.client_world.specs.{World.{base_of_block}, declared.limits.TheConstants.{MAX_BLOCKS}}
use Rattle.client_world.specs.declared.host_frames.TheConstants.{PAGE_SIZE, BLOCK_TABLES, BLOCK_ROWS, BLOCK_ROW_SIZE, PAGE_ENTRY_SIZE}
use Rattle.client_world.specs.declared.memory_map.TheConstants.{BLOCK_REGION, BLOCK_REGION_END, BLOCK_REGION_PAGES}
use Rattle.host_memory.specs.{Holds.{Holds}, Layout.{address_of, handles_part, pages_of, base_of}, View.{MachineView}}
use Rattle.host_memory.specs.HoldsWorld.{block_page}
use Rattle.host_memory.proofs.{BlockRows.{HasRanges, held_base, length-held_locks, block_there, block_free}, ClientPlaces.{ranges_of}}
use Rattle.host_memory.proofs.{Parts.{blocks_is, budget_is}, BlocksClaim.{byte_claim, frame_byte, HasBlocks, tables_claim}}
use Rattle.block_memory.specs.BlockChanges.{blocks_held, HoldsSoundBlocks, ReplacesBlocks, CanHoldIn, CanSizeIn, HasBlockIn, ReplacesBlock}
use Rattle.block_memory.specs.{BlockChanges.{with_at}, BlockSizes.{CanHold, CanMake, CanSize, block_with_zero_pages, fresh_block, HasPages}}
use Rattle.block_memory.specs.BlockSizes.{row_seen}
use Rattle.block_memory.proofs.{PageChanges.{held_in, is_held}, SizedSound.{sound_blocks}, BlockSteps.{becomes, held_still}}
use Rattle.block_memory.proofs.{BlockRuns.{extended_fresh}, PageWrites.{row_pages_read, row_base_read}}
use Rattle.guest_space.specs.{Machines.{Processor, held_world}, declared.machine.Machine.TheInside.{Inside}}
use Rattle.guest_space.specs.{declared.pages.CacheEntry.{CacheEntry}, Cache.{Warm}}
use Rattle.guest_space.proofs.{HiddenLaws.{kept}, Insides.{processor_of, view_of, IsWhole}}
use Rattle.guest_ram.specs.Bytes.{dword}

-- the view of a machine
abbrev pub IsView : Processor → List ℕ → MachineView → Type 0
IsView k b v = record { world = held_world k b; bytes = b } ≡ v

-- its blocks and its budget
pub held_blocks : (k : Processor) (b : List ℕ) → (held_world k b).blocks ≡ blocks_held b k.budget
held_blocks k b = blocks_is b k.budget k.mode k.regs k.vif k.width

pub held_budget : (k : Processor) (b : List ℕ) → (held_world k b).budget ≡ k.budget
held_budget k b = budget_is b k.budget k.mode k.regs k.vif k.width

pub memory_blocks : (k : Processor) (b : List ℕ) → IsSound (held_world k b) → SoundBlocks (blocks_held b k.budget) k.budget
memory_blocks k b sound = grind (arith, held_blocks, held_budget)

pub memory_bytes : (k : Processor) (b : List ℕ) → IsSound (held_world k b) → HoldBytes (blocks_held b k.budget)
memory_bytes k b sound = subst HoldBytes (held_blocks k b) sound.block_bytes

pub memory_ranges : (k : Processor) (b : List ℕ) → IsSound (held_world k b) → HasRanges (handles_part b)
memory_ranges k b sound = ranges_of b k.budget (held_world k b).budget k.mode k.regs k.vif k.width sound.blocks

-- what is true of the blocks and the budget of the world is true of those of the memory
pub in_memory : (k : Processor) (b : List ℕ) (v : MachineView) → IsView k b v → (P : List (Option MemoryBlock) → ℕ → Type 0) →
    P v.world.blocks v.world.budget → P (blocks_held b k.budget) k.budget
in_memory k b v is P own = grind (arith, held_blocks, held_budget)

pub holds_blocks : (k : Processor) (b : List ℕ) → Holds b k.budget → IsSound (held_world k b) → HoldsSoundBlocks b k.budget
holds_blocks k b holds sound = record { holds = holds; sound = memory_blocks k b sound; fits = memory_bytes k b sound }

-- the machine whose memory holds other blocks
pub record ReplacedMachine (k : Processor) (b c : List ℕ) (blocks : List (Option MemoryBlock)) : Type 0 where
  pub holds : Holds c k.budget
  pub sound : IsSound (held_world k c)
  pub world : held_world k c ≡ record (held_world k b) { blocks = blocks }
  pub addresses : (p : Place) → IsHeld (held_world k b) p → IsHeld (held_world k c) p → address_of c p ≡ address_of b p

pub replaced_machine : (k : Processor) (b c : List ℕ) (blocks : List (Option MemoryBlock)) → IsSound (held_world k b) →
    (held_world k b).width ≢ None → ReplacesBlocks b c k.budget blocks → ReplacedMachine k b c blocks
replaced_machine k b c blocks sound some replaces = grind (arith, held_blocks, held_budget, held_in, sound_blocks)

-- the block of a handle lies at the index before it
pub at_handle : (blocks : List (Option MemoryBlock)) (handle : ℕ) → 0 < handle →
    slice_index_or blocks (handle - 1) None ≡ block_at blocks handle
at_handle blocks zero some = absurd (omega arith)
at_handle blocks (suc place) some = ap (λ (k : ℕ). slice_index_or blocks k None) (let e : suc place - 1 ≡ place = omega arith in e)

pub put_handle : (blocks : List (Option MemoryBlock)) (handle : ℕ) (x : Option MemoryBlock) → 0 < handle →
    slice_set blocks (handle - 1) x ≡ with_block_at blocks handle x
put_handle blocks zero x some = absurd (omega arith)
put_handle blocks (suc place) x some = ap (λ (k : ℕ). slice_set blocks k x) (let e : suc place - 1 ≡ place = omega arith in e)

-- a block that may be made
pub can_make : (blocks : List (Option MemoryBlock)) (budget handle base pages : ℕ) → length blocks ≡ MAX_BLOCKS → 0 < handle →
    handle ≤ MAX_BLOCKS → block_at blocks handle ≡ None → CanMake blocks budget base pages → CanHold blocks budget (handle - 1) base 0 pages
can_make blocks budget handle base pages long some most free can =
    let room = can.room in
    record {
      handles = long;
      within = omega arith;
      pages = ap pages_of_block (at_handle blocks handle some ∙ free);
      based = λ none. absurd (none refl);
      whole = can.whole;
      above = can.above;
      below = can.below;
      apart = λ other block ne e. can.apart (suc other) block e;
      room = omega arith;
    }

-- what the calls ask of the memory

pub may_make : (k : Processor) (b : List ℕ) (v : MachineView) → IsView k b v → Holds b k.budget → IsSound (held_world k b) →
    (handle base pages : ℕ) → 0 < handle → handle ≤ MAX_BLOCKS → block_at v.world.blocks handle ≡ None →
    length v.world.blocks ≡ MAX_BLOCKS → CanMake v.world.blocks v.world.budget base pages → CanHoldIn b (handle - 1) base 0 pages
may_make k b v is holds sound handle base pages some most free long can = record {
  budget = k.budget;
  holds = holds_blocks k b holds sound;
  can = in_memory k b v is (λ blocks budget. CanHold blocks budget (handle - 1) base 0 pages)
      (can_make v.world.blocks v.world.budget handle base pages long some most free can);
}

pub may_drop : (k : Processor) (b : List ℕ) (v : MachineView) → IsView k b v → Holds b k.budget → IsSound (held_world k b) → (handle : ℕ) →
    0 < handle → handle ≤ MAX_BLOCKS → block_at v.world.blocks handle ≢ None → HasBlockIn b (handle - 1)
may_drop k b v is holds sound handle some most held = record {
  budget = k.budget;
  holds = holds_blocks k b holds sound;
  within = omega arith;
  held = in_memory k b v is (λ blocks budget. slice_index_or blocks (handle - 1) None ≢ None)
      (subst (λ (o : Option MemoryBlock). o ≢ None) (sym (at_handle v.world.blocks handle some)) held);
}

pub may_size : (k : Processor) (b : List ℕ) (v : MachineView) → IsView k b v → Holds b k.budget → IsSound (held_world k b) →
    (handle base pages : ℕ) → 0 < handle → handle ≤ MAX_BLOCKS →
    CanSize v.world.blocks v.world.budget handle base pages → CanSizeIn b (handle - 1) base pages
may_size k b v is holds sound handle base pages some most can = record {
  budget = k.budget;
  holds = holds_blocks k b holds sound;
  within = omega arith;
  can = in_memory k b v is (λ blocks budget. CanSize blocks budget (suc (handle - 1)) base pages)
      (subst (λ (h : ℕ). CanSize v.world.blocks v.world.budget h base pages) (let e : handle ≡ suc (handle - 1) = omega arith in e) can);
}

-- the machine with another block, or none, for a handle
pub with_handle : (k : Processor) (b c : List ℕ) → Holds b k.budget → IsSound (held_world k b) → (held_world k b).width ≢ None →
    (handle : ℕ) (change : Option MemoryBlock → Option MemoryBlock) (x : Option MemoryBlock) → 0 < handle →
    ReplacesBlock b c (handle - 1) change →
    change (block_at (held_world k b).blocks handle) ≡ x → ReplacedMachine k b c (with_block_at (held_world k b).blocks handle x)
with_handle k b c holds sound width handle change x some replaces e =
    let blocks = blocks_held b k.budget in
    let same : with_at blocks (handle - 1) change ≡ with_block_at (held_world k b).blocks handle x =
    ap (λ (bs : List (Option MemoryBlock)). with_at bs (handle - 1) change) (sym (held_blocks k b))
    ∙ ap (λ (o : Option MemoryBlock). slice_set (held_world k b).blocks (handle - 1) (change o))
    (at_handle (held_world k b).blocks handle some)
    ∙ ap (slice_set (held_world k b).blocks (handle - 1)) e
    ∙ put_handle (held_world k b).blocks handle x some in
    replaced_machine k b c (with_block_at (held_world k b).blocks handle x) sound width
    (becomes b c k.budget _ _ (replaces k.budget holds) same)

-- the machine after a call, which empties the cache; its world and addresses are said of its view before the call
pub record BlockCall (m : Inside) (v : MachineView) (c : List ℕ) (cache : List CacheEntry) (handle : ℕ) (x : Option MemoryBlock)
    : Type 0 where
  pub whole : IsWhole (record m { ram = c; cache = cache })
  pub world : held_world (processor_of m) c ≡ record v.world { blocks = with_block_at v.world.blocks handle x }
  pub addresses : (p : Place) → IsHeld v.world p → IsHeld (held_world (processor_of m) c) p → address_of c p ≡ address_of v.bytes p

pub block_call : (m : Inside) (v : MachineView) → view_of m ≡ v → IsWhole m → (c : List ℕ) (cache : List CacheEntry) →
    ((b : List ℕ) → Warm b cache) → (handle : ℕ) (change : Option MemoryBlock → Option MemoryBlock) (x : Option MemoryBlock) → 0 < handle →
    ReplacesBlock m.ram c (handle - 1) change → v.world.width ≢ None → change (block_at v.world.blocks handle) ≡ x →
    BlockCall m v c cache handle x
block_call m v is whole c cache warm handle change x some replaces width e =
    subst (λ (u : MachineView). u.world.width ≢ None → change (block_at u.world.blocks handle) ≡ x → BlockCall m u c cache handle x) is
    (λ own_width own.
    let k = processor_of m in
    let after = with_handle k m.ram c whole.0 whole.1 own_width handle change x some replaces own in
    let rows = kept k m.ram c m.hidden _ refl (ap (λ (w : World). w.descriptors) after.world) whole.2 in
    record { whole = (after.holds, after.sound, rows, warm c); world = after.world; addresses = after.addresses }) width e

-- what a free handle gets takes no place away
pub held_after_make : (w now : World) (handle : ℕ) (x : Option MemoryBlock) → 0 < handle → handle ≤ length w.blocks →
    block_at w.blocks handle ≡ None → now.blocks ≡ with_block_at w.blocks handle x → (p : Place) → IsHeld w p → IsHeld now p
held_after_make w now handle x some most free e p held = grind (arith, at_handle, held_in, held_still, is_held, put_handle)

-- and what is held without a block is held with it
pub held_before_drop : (w now : World) (handle : ℕ) → 0 < handle → handle ≤ length w.blocks →
    now.blocks ≡ with_block_at w.blocks handle None → (p : Place) → IsHeld now p → IsHeld w p
held_before_drop w now handle some most e p held =
    let place = handle - 1 in
    let less = slice_set w.blocks place None in
    let own = slice_index_or w.blocks place None in
    let size : length less ≡ length w.blocks = length-set w.blocks place None in
    is_held w w.blocks p refl
    (subst (λ (bs : List (Option MemoryBlock)). IsHeldIn bs p) (set-set w.blocks place None own ∙ set-get_or w.blocks place None)
    (held_still less place own (omega arith)
    (λ at has. absurd (subst (λ (o : Option MemoryBlock). HasByte o at) (get_or-set_same w.blocks place None None (omega arith)) has)) p
    (held_in now less p (e ∙ sym (put_handle w.blocks handle None some)) held)))

pub made_block : (base pages : ℕ) (o : Option MemoryBlock) → o ≡ None → 0 < pages →
    block_with_zero_pages base o (pages - 0) ≡ Some (fresh_block base pages)
made_block base pages o free some = grind (arith, extended_fresh)

-- ---- read

-- the row of a handle that is held

row_at_place : (k : Processor) (b : List ℕ) (v : MachineView) → IsView k b v → Holds b k.budget → IsSound (held_world k b) →
    (handle place base pages : ℕ) → handle ≡ suc place → place < MAX_BLOCKS → pages_of (handles_part b) place ≢ 0 →
    base ≡ base_of (handles_part b) place → pages ≡ pages_of (handles_part b) place →
    Some (record { base = base; pages = pages }) ≡ row_seen (block_at v.world.blocks handle)
row_at_place k b v is holds sound handle place base pages same within some first second =
    grind (arith, block_there, held_base, held_blocks, length-held_locks)

pub some_row : (k : Processor) (b : List ℕ) (v : MachineView) → IsView k b v → Holds b k.budget → IsSound (held_world k b) →
    (handle base pages : ℕ) → handle ≢ 0 → handle ≤ MAX_BLOCKS → base ≡ dword b (PAGE_SIZE * BLOCK_ROWS + BLOCK_ROW_SIZE * (handle - 1)) →
    pages ≡ dword b (PAGE_SIZE * BLOCK_ROWS + BLOCK_ROW_SIZE * (handle - 1) + 4) → pages ≢ 0 →
    Some (record { base = base; pages = pages }) ≡ row_seen (block_at v.world.blocks handle)
some_row k b v is holds sound handle base pages held few e f some =
    let within : handle - 1 < MAX_BLOCKS = omega arith in
    let second = row_pages_read b (handle - 1) pages within f in
    row_at_place k b v is holds sound handle (handle - 1) base pages (omega arith) within (λ none. some (second ∙ none))
    (row_base_read b (handle - 1) base within e) second

pub free_row : (k : Processor) (b : List ℕ) (v : MachineView) → IsView k b v → (handle pages : ℕ) → handle ≢ 0 → handle ≤ MAX_BLOCKS →
    pages ≡ dword b (PAGE_SIZE * BLOCK_ROWS + BLOCK_ROW_SIZE * (handle - 1) + 4) → pages ≡ 0 →
    None ≡ row_seen (block_at v.world.blocks handle)
free_row k b v is handle pages held few f none = grind (arith, block_free, held_blocks, row_pages_read)

-- a byte of a block

pub handle_some : (blocks : List (Option MemoryBlock)) (handle at : ℕ) → HasByte (block_at blocks handle) at → 0 < handle
handle_some blocks zero at has = absurd has
handle_some blocks (suc place) at has = omega arith

pub handle_held : (blocks : List (Option MemoryBlock)) (handle at : ℕ) → HasByte (block_at blocks handle) at →
    slice_index_or blocks (handle - 1) None ≢ None
handle_held blocks handle at has none = grind (arith, at_handle, handle_some)

pub handle_few : (w : World) (handle at : ℕ) → IsSound w → HasByte (block_at w.blocks handle) at → handle ≤ MAX_BLOCKS
handle_few w zero at sound has = omega arith
handle_few w (suc place) at sound has = grind (arith, cases_lt, get_or_past)

-- where it is
pub record ReadsByte (b : List ℕ) (blocks : List (Option MemoryBlock)) (handle base at : ℕ) : Type 0 where
  pub from : BLOCK_REGION ≤ base
  pub to : base < BLOCK_REGION_END
  pub small : (base - BLOCK_REGION) / PAGE_SIZE + at / PAGE_SIZE < BLOCK_REGION_PAGES
  pub byte : (entry : ℕ) →
      entry ≡ dword b (PAGE_SIZE * BLOCK_TABLES + PAGE_ENTRY_SIZE * ((base - BLOCK_REGION) / PAGE_SIZE + at / PAGE_SIZE)) →
      slice_index b (PAGE_SIZE * (entry / PAGE_SIZE) + at % PAGE_SIZE) ≡ slice_index (bytes_of_block (block_at blocks handle)) at
  pub inside : (entry : ℕ) →
      entry ≡ dword b (PAGE_SIZE * BLOCK_TABLES + PAGE_ENTRY_SIZE * ((base - BLOCK_REGION) / PAGE_SIZE + at / PAGE_SIZE)) →
      PAGE_SIZE * (entry / PAGE_SIZE) + at % PAGE_SIZE < length b

reads_of : (k : Processor) (b : List ℕ) → Holds b k.budget → IsSound (held_world k b) →
    (handle base pages at : ℕ) (o : Option MemoryBlock) → block_at (held_world k b).blocks handle ≡ o → HasByte o at → 0 < handle →
    HasPages (held_world k b).blocks (handle - 1) base pages → ReadsByte b (held_world k b).blocks handle base at
reads_of k b holds sound handle base pages at None e has some row = absurd has
reads_of k b holds sound handle base pages at (Some block) e has some row =
    let w = held_world k b in
    let is = sound.blocks.each handle block e in
    let long = is.pages in
    let here : slice_index_or w.blocks (handle - 1) None ≡ Some block = at_handle w.blocks handle some ∙ e in
    let count : length block.locks ≡ pages = sym (ap pages_of_block here) ∙ row.count in
    let based : block.base ≡ base = sym (ap base_of_block here) ∙ row.based (omega arith) in
    let above = row.above in let below = row.below in
    let ranges = memory_ranges k b sound in
    let has_blocks : HasBlocks b k.budget w = held_blocks k b in
    let tables = tables_claim b k.budget w holds ranges has_blocks (held_budget k b) in
    let page : block_page block (at / PAGE_SIZE) ≡ (base - BLOCK_REGION) / PAGE_SIZE + at / PAGE_SIZE =
    ap (λ (x : ℕ). (x - BLOCK_REGION) / PAGE_SIZE + at / PAGE_SIZE) based in
    let named = tables.named handle (at / PAGE_SIZE) block e (omega arith) in
    let size = holds.size in
    let budget = held_budget k b in grind (arith, byte_claim, frame_byte)

pub reads_byte : (k : Processor) (b : List ℕ) (v : MachineView) → IsView k b v → Holds b k.budget → IsSound (held_world k b) →
    (handle base pages at : ℕ) → HasByte (block_at v.world.blocks handle) at → HasPages (blocks_held b k.budget) (handle - 1) base pages →
    ReadsByte b v.world.blocks handle base at
reads_byte k b v is holds sound handle base pages at has row =
    let own = subst (λ (x : MachineView). HasByte (block_at x.world.blocks handle) at) (sym is) has in
    subst (λ (x : MachineView). ReadsByte b x.world.blocks handle base at) is
    (reads_of k b holds sound handle base pages at (block_at (held_world k b).blocks handle) refl own
    (handle_some v.world.blocks handle at has)
    (subst (λ (bs : List (Option MemoryBlock)). HasPages bs (handle - 1) base pages) (sym (held_blocks k b)) row))

-- there is a block to be read
pub may_read : (k : Processor) (b : List ℕ) (v : MachineView) → IsView k b v → Holds b k.budget → IsSound (held_world k b) →
    IsSound v.world → (handle at : ℕ) → HasByte (block_at v.world.blocks handle) at → HasBlockIn b (handle - 1)
may_read k b v is holds sound own handle at has =
    let some = handle_some v.world.blocks handle at has in let few = handle_few v.world handle at own has in
    record {
      budget = k.budget;
      holds = holds_blocks k b holds sound;
      within = omega arith;
      held =
          in_memory k b v is (λ blocks budget. slice_index_or blocks (handle - 1) None ≢ None) (handle_held v.world.blocks handle at has);
    }
