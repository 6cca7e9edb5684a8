-- The lock counts of a machine's blocks, a page of one cleared, and their pages counted; lock counts and cleared pages leave every place
-- where it is: a block keeps its base and the number of its bytes.
use Rattle.std.proofs.Common.{◌≡◌, ℕ, zero, suc, ◌+◌, ◌*◌, List, [], ◌∷◌, set, get_or, refl, Option, None, Some, arith, ◌≢◌, ◌<◌, ◌≤◌, ◌⊎◌}
use Rattle.std.proofs.{Common.{ap, ◌∙◌, sym, subst, ◌/◌, length}, lemmas.Bool.{cases_eq}}
use Rattle.client_world.specs.declared.host_frames.TheConstants.{PAGE_SIZE, LOCK_COUNTS, LOCK_COUNT_FRAMES, LOCK_COUNT_SIZE, BLOCK_TABLES}
use Rattle.client_world.specs.{declared.host_frames.TheConstants.{BLOCK_TABLE_FRAMES, PAGE_ENTRY_SIZE}, declared.place.Place.{Place}}
use Rattle.client_world.specs.{declared.place.Place.TheVariants.{Dos, Block, Host, Nothing}, Access.{block_place, place_in, place_of}}
use Rattle.client_world.specs.{World.{MemoryBlock, World, block_at}, declared.limits.TheConstants.{GREATEST_LOCK_COUNT, MAX_BLOCKS}}
use Rattle.client_world.specs.{declared.limits.TheConstants.{MAX_PAGES}, declared.memory_map.TheConstants.{BLOCK_REGION, BLOCK_REGION_END}}
use Rattle.client_world.specs.{declared.memory_map.TheConstants.{BLOCK_REGION_PAGES}, Soundness.{IsSound, SoundBlocks, HoldBytes}}
use Rattle.client_world.specs.Soundness.{pages_of_blocks}
use Rattle.client_world.proofs.PlaceLaws.{place_in-same}
use Rattle.guest_ram.specs.{Listed.{copies}, Bytes.{word_of, dword, put}}
use Rattle.guest_ram.proofs.PutLaws.{length-put}
use Rattle.block_memory.specs.BlockSizes.{with_lock, with_page_lock, with_zero_page, blocks_with_zero_page, IsBlocks, lock_in, locked_pages}
use Rattle.block_memory.specs.{BlockSizes.{all_locked}, BlockChanges.{blocks_held}}
use Rattle.host_memory.specs.{Holds.{Holds, all_pages}, Layout.{handles_part, tables_part, locks_part, budget_part, entry_of, pages_of}}
use Rattle.host_memory.specs.{Layout.{first_page_of}, View.{MachineView}}
use Rattle.host_memory.proofs.{BlockRows.{block_there}, Parts.{part_word, part_dword}, BlocksClaim.{base_free}}
use Rattle.block_memory.proofs.{LockWrites.{lock_reads, no_lock, block_byte, locked, locks_page, in_region_of}, RegionPages.{page_at}}
use Rattle.block_memory.proofs.SizedSound.{sound_blocks, locked_sound, locked_fits, held_width, zeroed_sound, zeroed_fits}
use Rattle.block_memory.proofs.{PageSums.{all_pages_are, locked_are}, ZeroWrites.{page_cleared, clears_page}}
use Rattle.guest_space.specs.{declared.machine.Machine.TheInside.{Inside}, Machines.{Processor, held_world}}
use Rattle.guest_space.proofs.{Insides.{processor_of, view_of, IsWhole, IsAfter, after_call}, BlockCalls.{IsView, held_blocks, held_budget}}
use Rattle.guest_space.proofs.BlockCalls.{memory_blocks, memory_bytes, memory_ranges}

place_locked : (blocks : List (Option MemoryBlock)) (place page n handle lin : ℕ) →
    block_place (set blocks place (with_page_lock (get_or blocks place None) page n)) handle lin ≡ block_place blocks handle lin
place_locked [] place page n handle lin = refl
place_locked (None ∷ blocks) zero page n handle lin = refl
place_locked (Some block ∷ blocks) zero page n handle lin = refl
place_locked (None ∷ blocks) (suc place) page n handle lin = place_locked blocks place page n (handle + 1) lin
place_locked (Some block ∷ blocks) (suc place) page n handle lin = rw (place_locked blocks place page n (handle + 1) lin) refl

place_cleared : (blocks : List (Option MemoryBlock)) (place page handle lin : ℕ) →
    block_place (set blocks place (with_zero_page (get_or blocks place None) page)) handle lin ≡ block_place blocks handle lin
place_cleared [] place page handle lin = refl
place_cleared (None ∷ blocks) zero page handle lin = refl
place_cleared (Some block ∷ blocks) zero page handle lin = rw (length-put block.bytes (PAGE_SIZE * page) (copies PAGE_SIZE 0)) refl
place_cleared (None ∷ blocks) (suc place) page handle lin = place_cleared blocks place page (handle + 1) lin
place_cleared (Some block ∷ blocks) (suc place) page handle lin = rw (place_cleared blocks place page (handle + 1) lin) refl

pub locks_keep_places : (blocks : List (Option MemoryBlock)) (p : Place) (n lin : ℕ) →
    place_in (with_lock blocks p n) lin ≡ place_in blocks lin
locks_keep_places blocks (Dos at) n lin = refl
locks_keep_places blocks (Block zero at) n lin = refl
locks_keep_places blocks (Block (suc place) at) n lin = grind (arith, place_in-same, place_locked)
locks_keep_places blocks Host n lin = refl
locks_keep_places blocks Nothing n lin = refl

pub cleared_pages_keep_places : (blocks : List (Option MemoryBlock)) (p : Place) (lin : ℕ) →
    place_in (blocks_with_zero_page blocks p) lin ≡ place_in blocks lin
cleared_pages_keep_places blocks (Dos at) lin = refl
cleared_pages_keep_places blocks (Block zero at) lin = refl
cleared_pages_keep_places blocks (Block (suc place) at) lin = grind (arith, place_cleared, place_in-same)
cleared_pages_keep_places blocks Host lin = refl
cleared_pages_keep_places blocks Nothing lin = refl

abbrev lock_of_world : World → ℕ → ℕ
lock_of_world w lin = lock_in w.blocks (place_of w lin)

pub region_lock : (k : Processor) (b : List ℕ) (v : MachineView) → IsView k b v → Holds b k.budget → IsSound (held_world k b) →
    (lin n : ℕ) → BLOCK_REGION ≤ lin → lin < BLOCK_REGION_END → n ≡ word_of b (PAGE_SIZE * LOCK_COUNTS + LOCK_COUNT_SIZE * page_at lin) →
    n ≡ lock_in v.world.blocks (place_of v.world lin)
region_lock k b v is holds sound lin n from to e =
    e ∙ part_word b LOCK_COUNTS LOCK_COUNT_FRAMES (LOCK_COUNT_SIZE * page_at lin) (omega arith)
    ∙ lock_reads (handles_part b) (tables_part b) (locks_part b) (budget_part b k.budget) lin (memory_ranges k b sound) holds.locks
    (record { from = from; to = to })
    ∙ sym (ap (λ (bs : List (Option MemoryBlock)). lock_in bs (place_in bs lin)) (held_blocks k b))
    ∙ ap (λ (x : MachineView). lock_of_world x.world lin) is

pub outside_lock : (w : World) (lin : ℕ) → (lin < BLOCK_REGION) ⊎ (BLOCK_REGION_END ≤ lin) → 0 ≡ lock_in w.blocks (place_of w lin)
outside_lock w lin out = sym (no_lock w.blocks lin out)

-- the machine with another lock count
pub locked_machine : (m : Inside) (v : MachineView) → view_of m ≡ v → IsWhole m → (lin n : ℕ) → n ≤ GREATEST_LOCK_COUNT →
    IsBlocks (place_of v.world lin) →
    (c : List ℕ) → c ≡ locked m.ram lin n → IsAfter m v c (record v.world { blocks = with_lock v.world.blocks (place_of v.world lin) n })
locked_machine m v is whole lin n few blocks_is c e =
    let k = processor_of m in let b = m.ram in let holds = whole.0 in let sound = whole.1 in
    let w = held_world k b in
    let blocks = blocks_held b k.budget in
    let own : IsBlocks (place_in (held_world k b).blocks lin) =
    subst (λ (x : MachineView). IsBlocks (place_of x.world lin)) (sym is) blocks_is in
    let here : IsBlocks (place_in blocks lin) =
    subst (λ (bs : List (Option MemoryBlock)). IsBlocks (place_in bs lin)) (held_blocks k b) own in
    let ranges = memory_ranges k b sound in
    let old = memory_blocks k b sound in
    let handles = old.handles in
    let byte = block_byte (handles_part b) (tables_part b) (locks_part b) (budget_part b k.budget) lin ranges here in
    let within = byte.within in
    let ch = locks_page b k.budget lin n holds ranges here in
    let after = locked b lin n in
    let there = block_there (handles_part b) (tables_part b) (locks_part b) (budget_part b k.budget) byte.place byte.within byte.some in
    let some : (held_world k b).width ≢ None = held_width (held_world k b) (suc byte.place) _ sound
    (ap (λ (bs : List (Option MemoryBlock)). block_at bs (suc byte.place)) (held_blocks k b) ∙ there) in
    let world : held_world k after ≡ record (held_world k b) { blocks = with_lock blocks (place_in blocks lin) n } =
    ch.world k.mode k.regs k.vif k.width in
    let sound_now : SoundBlocks (with_lock blocks (place_in blocks lin) n) k.budget =
    subst (λ (p : Place). SoundBlocks (with_lock blocks p n) k.budget) (sym byte.answer)
    (locked_sound blocks k.budget byte.place byte.at n old byte.within few) in
    let fits : HoldBytes (with_lock blocks (place_in blocks lin) n) =
    subst (λ (p : Place). HoldBytes (with_lock blocks p n)) (sym byte.answer)
    (locked_fits blocks byte.place byte.at n (omega arith) (memory_bytes k b sound)) in
    subst (λ (u : MachineView). IsAfter m u c (record u.world { blocks = with_lock u.world.blocks (place_of u.world lin) n })) is
    (subst (λ (x : List ℕ). IsAfter m (view_of m) x (record w { blocks = with_lock w.blocks (place_of w lin) n })) (sym e)
    (after_call m (view_of m) after (record w { blocks = with_lock w.blocks (place_of w lin) n }) refl whole ch.holds
    (subst IsSound (sym world) (sound_blocks w (with_lock blocks (place_in blocks lin) n) sound some
    (subst (λ (m : ℕ). SoundBlocks (with_lock blocks (place_in blocks lin) n) m) (sym (held_budget k b)) sound_now) fits))
    (world ∙ ap (λ (bs : List (Option MemoryBlock)). record w { blocks = with_lock bs (place_in bs lin) n }) (sym (held_blocks k b)))
    refl (locks_keep_places w.blocks (place_of w lin) n) ch.addresses))

-- ---- pages cleared and counted

here_blocks : (k : Processor) (b : List ℕ) (v : MachineView) → IsView k b v → (lin : ℕ) → IsBlocks (place_of v.world lin) →
    IsBlocks (place_in (blocks_held b k.budget) lin)
here_blocks k b v is lin blocks_is = grind (arith, held_blocks)

-- the frame of the page lies inside the memory
pub frame_inside : (k : Processor) (b : List ℕ) (v : MachineView) → IsView k b v → Holds b k.budget → IsSound (held_world k b) →
    (lin entry : ℕ) → IsBlocks (place_of v.world lin) → entry ≡ dword b (PAGE_SIZE * BLOCK_TABLES + PAGE_ENTRY_SIZE * page_at lin) →
    PAGE_SIZE * (entry / PAGE_SIZE) + PAGE_SIZE ≤ length b
frame_inside k b v is holds sound lin entry blocks_is e =
    let here = here_blocks k b v is lin blocks_is in
    let r = in_region_of (blocks_held b k.budget) lin here in
    let from = r.from in let to = r.to in
    let own : entry ≡ entry_of (tables_part b) (page_at lin) =
    e ∙ part_dword b BLOCK_TABLES BLOCK_TABLE_FRAMES (PAGE_ENTRY_SIZE * page_at lin) (omega arith) in
    let c = clears_page b k.budget lin holds (memory_ranges k b sound) here in
    let low = c.from in let high = c.to in let size = holds.size in
    omega arith

-- the machine with zeros in a page
pub cleared_machine : (m : Inside) (v : MachineView) → view_of m ≡ v → IsWhole m → (lin entry : ℕ) → IsBlocks (place_of v.world lin) →
    entry ≡ dword m.ram (PAGE_SIZE * BLOCK_TABLES + PAGE_ENTRY_SIZE * page_at lin) → (c : List ℕ) →
    c ≡ put m.ram (PAGE_SIZE * (entry / PAGE_SIZE)) (copies PAGE_SIZE 0) →
    IsAfter m v c (record v.world { blocks = blocks_with_zero_page v.world.blocks (place_of v.world lin) })
cleared_machine m v is whole lin entry blocks_is e c f =
    let k = processor_of m in let b = m.ram in let holds = whole.0 in let sound = whole.1 in
    let w = held_world k b in
    let blocks = blocks_held b k.budget in
    let here = here_blocks k b v is lin blocks_is in
    let r = in_region_of blocks lin here in
    let from = r.from in let to = r.to in
    let own : entry ≡ entry_of (tables_part b) (page_at lin) =
    e ∙ part_dword b BLOCK_TABLES BLOCK_TABLE_FRAMES (PAGE_ENTRY_SIZE * page_at lin) (omega arith) in
    let ranges = memory_ranges k b sound in
    let old = memory_blocks k b sound in
    let handles = old.handles in
    let byte = block_byte (handles_part b) (tables_part b) (locks_part b) (budget_part b k.budget) lin ranges here in
    let within = byte.within in
    let ch = clears_page b k.budget lin holds ranges here in
    let after = page_cleared b lin in
    let there = block_there (handles_part b) (tables_part b) (locks_part b) (budget_part b k.budget) byte.place byte.within byte.some in
    let some : (held_world k b).width ≢ None = held_width (held_world k b) (suc byte.place) _ sound
    (ap (λ (bs : List (Option MemoryBlock)). block_at bs (suc byte.place)) (held_blocks k b) ∙ there) in
    let world : held_world k after ≡ record (held_world k b) { blocks = blocks_with_zero_page blocks (place_in blocks lin) } =
    ch.world k.mode k.regs k.vif k.width in
    let sound_now : SoundBlocks (blocks_with_zero_page blocks (place_in blocks lin)) k.budget =
    subst (λ (p : Place). SoundBlocks (blocks_with_zero_page blocks p) k.budget) (sym byte.answer)
    (zeroed_sound blocks k.budget byte.place byte.at old byte.within) in
    let fits : HoldBytes (blocks_with_zero_page blocks (place_in blocks lin)) =
    subst (λ (p : Place). HoldBytes (blocks_with_zero_page blocks p)) (sym byte.answer)
    (zeroed_fits blocks byte.place byte.at (omega arith) (memory_bytes k b sound)) in
    subst (λ (u : MachineView). IsAfter m u c (record u.world { blocks = blocks_with_zero_page u.world.blocks (place_of u.world lin) })) is
    (subst (λ (x : List ℕ). IsAfter m (view_of m) x (record w { blocks = blocks_with_zero_page w.blocks (place_of w lin) }))
    (sym (f ∙ ap (λ (n : ℕ). put b (PAGE_SIZE * (n / PAGE_SIZE)) (copies PAGE_SIZE 0)) own))
    (after_call m (view_of m) after (record w { blocks = blocks_with_zero_page w.blocks (place_of w lin) }) refl whole ch.holds
    (subst IsSound (sym world) (sound_blocks w (blocks_with_zero_page blocks (place_in blocks lin)) sound some
    (subst (λ (m : ℕ). SoundBlocks (blocks_with_zero_page blocks (place_in blocks lin)) m) (sym (held_budget k b)) sound_now) fits))
    (world ∙ ap (λ (bs : List (Option MemoryBlock)). record w { blocks = blocks_with_zero_page bs (place_in bs lin) })
    (sym (held_blocks k b)))
    refl (cleared_pages_keep_places w.blocks (place_of w lin)) ch.addresses))

-- counts
pub pages_in_rows : (k : Processor) (b : List ℕ) (v : MachineView) → IsView k b v →
    all_pages (handles_part b) ≡ pages_of_blocks v.world.blocks
pages_in_rows k b v is = grind (arith, all_pages_are, held_blocks)

pub few_pages : (k : Processor) (b : List ℕ) → Holds b k.budget → IsSound (held_world k b) → all_pages (handles_part b) ≤ MAX_PAGES
few_pages k b holds sound =
    let old = memory_blocks k b sound in
    let within = old.within in let most = holds.most in
    let same = all_pages_are (handles_part b) (tables_part b) (locks_part b) (budget_part b k.budget) in
    omega arith

pub locked_in_rows : (k : Processor) (b : List ℕ) (v : MachineView) → IsView k b v →
    all_locked (handles_part b) (locks_part b) ≡ locked_pages v.world.blocks
locked_in_rows k b v is = grind (arith, held_blocks, locked_are)

-- the pages of each row lie in the block region
pub rows_inside : (k : Processor) (b : List ℕ) → Holds b k.budget → IsSound (held_world k b) → (place : ℕ) → place < MAX_BLOCKS →
    first_page_of (handles_part b) place + pages_of (handles_part b) place ≤ BLOCK_REGION_PAGES
rows_inside k b holds sound place within = grind (arith, base_free, cases_eq, memory_ranges)
