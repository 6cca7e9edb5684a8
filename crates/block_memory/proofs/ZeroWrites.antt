-- A page of a block is cleared.
use Rattle.std.proofs.Common.{◌≡◌, ◌≢◌, ℕ, ◌+◌, ◌-◌, ◌*◌, ◌/◌, ◌%◌, ◌<◌, ◌≤◌, inl, inr, Bool, List, length, get_or, slice_index, slice_set}
use Rattle.std.proofs.{Common.{refl, ap, ◌∙◌, sym, arith, Option}, lemmas.Bool.{cases_eq}, lemmas.Grind.{same_number_lists}}
use Rattle.client_world.specs.{declared.host_frames.TheConstants.{PAGE_SIZE, BUDGET_FRAMES}, declared.limits.TheConstants.{MAX_BLOCKS}}
use Rattle.client_world.specs.{declared.memory_map.TheConstants.{BLOCK_REGION_PAGES}, declared.place.Place.{Place}}
use Rattle.client_world.specs.{declared.registers.Mode.{Mode}, declared.registers.Regs.{Regs}, declared.registers.Width.{Width}}
use Rattle.client_world.specs.{Access.{place_in}, World.{MemoryBlock}}
use Rattle.guest_ram.specs.{Bytes.{put}, Listed.{listed, copies}}
use Rattle.guest_ram.proofs.{PutLaws.{length-put, put_away, put_within}, ListedLaws.{length-listed, at_listed, same_listed, listed-set}}
use Rattle.guest_ram.proofs.ListedLaws.{length-copies, at_copies}
use Rattle.block_memory.specs.{BlockSizes.{IsBlocks, blocks_with_zero_page, with_zero_page}, BlockChanges.{blocks_held}}
use Rattle.page_tables.proofs.FreeFrames.{dword_put_beside}
use Rattle.host_memory.specs.{Holds.{Holds}, Layout.{world_of, address_of, handles_part, tables_part, rows_part, pages_of, first_page_of}}
use Rattle.host_memory.specs.{Layout.{entry_of, page_byte, held_block, block_in, blocks_in}, Tables.{HasBlockEntries, NamesBudgetFrame}}
use Rattle.host_memory.proofs.{ClientPlaces.{apart_pages, page_small, entry_away}, Parts.{list_kept, MemoryParts, parts_of, holds_by}}
use Rattle.host_memory.proofs.{Parts.{holds_parts, addresses_of, own_parts}, BlockRows.{HasRanges, row_there, row_free, block_at_row}}
use Rattle.host_memory.proofs.PutParts.{Frames, put_part}
use Rattle.block_memory.proofs.{LockWrites.{block_byte}, PageChanges.{world_after}, PageWrites.{host_of, sizes_of}, RegionPages.{page_at}}

-- the frame of the budget that an entry names
abbrev pub frame_named : ℕ → ℕ
frame_named entry = entry / PAGE_SIZE - BUDGET_FRAMES

-- two pages have two frames
other_frame : (handles tables taken : List ℕ) (budget page other : ℕ) → HasBlockEntries handles tables taken budget →
    page < BLOCK_REGION_PAGES → other < BLOCK_REGION_PAGES → page ≢ other → NamesBudgetFrame budget (entry_of tables page) →
    NamesBudgetFrame budget (entry_of tables other) → frame_named (entry_of tables other) ≢ frame_named (entry_of tables page)
other_frame handles tables taken budget page other h small less ne p q same = grind arith

abbrev cleared_frame : List ℕ → ℕ → List ℕ
cleared_frame frames frame = put frames (PAGE_SIZE * frame) (copies PAGE_SIZE 0)

kept_byte : (frames : List ℕ) (frame other x : ℕ) → other ≢ frame → x < PAGE_SIZE →
    slice_index (cleared_frame frames frame) (PAGE_SIZE * other + x) ≡ slice_index frames (PAGE_SIZE * other + x)
kept_byte frames frame other x ne small =
    put_away frames (PAGE_SIZE * frame) (copies PAGE_SIZE 0) (PAGE_SIZE * other + x) (grind (arith, length-copies))

zero_byte : (frames : List ℕ) (budget frame x : ℕ) → length frames ≡ PAGE_SIZE * budget → frame < budget → x < PAGE_SIZE →
    slice_index (cleared_frame frames frame) (PAGE_SIZE * frame + x) ≡ 0
zero_byte frames budget frame x long few small =
    put_within frames (PAGE_SIZE * frame) (copies PAGE_SIZE 0) x (PAGE_SIZE * frame + x) (omega (arith, length-copies PAGE_SIZE 0))
    (omega (arith, length-copies PAGE_SIZE 0)) refl
    ∙ at_copies PAGE_SIZE 0 x small

-- what is known of the page
record Clears (handles tables taken frames : List ℕ) (budget place page frame : ℕ) : Type 0 where
  ranges : HasRanges handles
  entries : HasBlockEntries handles tables taken budget
  long : length frames ≡ PAGE_SIZE * budget
  within : place < MAX_BLOCKS
  less : page < pages_of handles place
  is : frame ≡ frame_named (entry_of tables (first_page_of handles place + page))

own_names : (handles tables taken frames : List ℕ) (budget place page frame : ℕ) →
    Clears handles tables taken frames budget place page frame →
    NamesBudgetFrame budget (entry_of tables (first_page_of handles place + page))
own_names handles tables taken frames budget place page frame c = c.entries.named place page c.within c.less

cleared_bytes : (handles tables taken frames : List ℕ) (budget place page frame : ℕ) →
    Clears handles tables taken frames budget place page frame →
    listed (PAGE_SIZE * pages_of handles place) (page_byte tables (cleared_frame frames frame) (first_page_of handles place))
    ≡ put (listed (PAGE_SIZE * pages_of handles place) (page_byte tables frames (first_page_of handles place))) (PAGE_SIZE * page)
    (copies PAGE_SIZE 0)
cleared_bytes handles tables taken frames budget place page frame c =
    same_number_lists (listed size (page_byte tables (cleared_frame frames frame) first)) (put old (PAGE_SIZE * page) (copies PAGE_SIZE 0))
    (length-listed size _ ∙ sym (length-put old (PAGE_SIZE * page) (copies PAGE_SIZE 0) ∙ long_old))
    (grind (arith, at_listed, byte, first, length-listed, size))
  where
    size : ℕ
    size = PAGE_SIZE * pages_of handles place

    first : ℕ
    first = first_page_of handles place

    old : List ℕ
    old = listed size (page_byte tables frames first)

    long_old : length old ≡ size
    long_old = length-listed size (page_byte tables frames first)

    names : NamesBudgetFrame budget (entry_of tables (first + page))
    names = own_names handles tables taken frames budget place page frame c

    few : frame < budget
    few = let is = c.is in let from = names.from in let to = names.to in omega arith

    byte : (k : ℕ) → k < size → page_byte tables (cleared_frame frames frame) first k
        ≡ get_or (put old (PAGE_SIZE * page) (copies PAGE_SIZE 0)) k 0
    byte k small = elim (cases_eq (k / PAGE_SIZE) page) [
      | inl same ↦ (
          let less = c.less in
          let spot : PAGE_SIZE * frame_named (entry_of tables (first + k / PAGE_SIZE)) + k % PAGE_SIZE ≡ PAGE_SIZE * frame + k % PAGE_SIZE =
          ap (λ (p : ℕ). PAGE_SIZE * frame_named (entry_of tables (first + p)) + k % PAGE_SIZE) same
          ∙ ap (λ (f : ℕ). PAGE_SIZE * f + k % PAGE_SIZE) (sym c.is) in
          ap (slice_index (cleared_frame frames frame)) spot
          ∙ zero_byte frames budget frame (k % PAGE_SIZE) c.long few (omega arith)
          ∙ sym (put_within old (PAGE_SIZE * page) (copies PAGE_SIZE 0) (k % PAGE_SIZE) k
          (omega (arith, length-copies PAGE_SIZE 0, long_old)) (omega (arith, length-copies PAGE_SIZE 0)) (omega arith)
          ∙ at_copies PAGE_SIZE 0 (k % PAGE_SIZE) (omega arith)))
      | inr ne ↦ (grind (arith, at_listed, first, kept_byte, length-copies, names, old, other_frame, page_small, put_away, size))
    ]

cleared_block : (handles tables locks taken frames : List ℕ) (budget place page frame : ℕ) →
    Clears handles tables taken frames budget place page frame → held_block handles tables locks (cleared_frame frames frame) place
    ≡ record (held_block handles tables locks frames
    place) { bytes = put (held_block handles tables locks frames place).bytes (PAGE_SIZE * page) (copies PAGE_SIZE 0) }
unfolding held_block
cleared_block handles tables locks taken frames budget place page frame c =
    rw (cleared_bytes handles tables taken frames budget place page frame c) refl

other_cleared : (handles tables locks taken frames : List ℕ) (budget place page frame : ℕ) →
    Clears handles tables taken frames budget place page frame → (other : ℕ) → other < MAX_BLOCKS → other ≢ place →
    block_in handles tables locks (cleared_frame frames frame) other ≡ block_in handles tables locks frames other
unfolding held_block
other_cleared handles tables locks taken frames budget place page frame c other small ne =
    grind (arith, apart_pages, kept_byte, other_frame, own_names, page_small, row_free, row_there, same_listed)

-- the memory after the write
abbrev pub page_cleared : List ℕ → ℕ → List ℕ
page_cleared b lin = put b (PAGE_SIZE * (entry_of (tables_part b) (page_at lin) / PAGE_SIZE)) (copies PAGE_SIZE 0)

pub record ClearsPage (b : List ℕ) (budget lin : ℕ) : Type 0 where
  pub from : BUDGET_FRAMES ≤ entry_of (tables_part b) (page_at lin) / PAGE_SIZE
  pub to : entry_of (tables_part b) (page_at lin) / PAGE_SIZE < BUDGET_FRAMES + budget
  pub holds : Holds (page_cleared b lin) budget
  pub world : (mode : Mode) (regs : Regs) (vif : Bool) (width : Option Width) →
      world_of (page_cleared b lin) budget mode regs vif width
      ≡ record (world_of b budget mode regs vif
      width) { blocks = blocks_with_zero_page (blocks_held b budget) (place_in (blocks_held b budget) lin) }
  pub rows : rows_part (page_cleared b lin) ≡ rows_part b
  pub addresses : (p : Place) → address_of (page_cleared b lin) p ≡ address_of b p

pub clears_page : (b : List ℕ) (budget lin : ℕ) → Holds b budget → HasRanges (handles_part b) →
    IsBlocks (place_in (blocks_held b budget) lin) → ClearsPage b budget lin
clears_page b budget lin holds ranges is =
    let p = parts_of b budget in
    let sizes = sizes_of b budget (host_of b budget holds) in
    let byte = block_byte p.handles p.tables p.locks p.frames lin ranges is in
    let inside = byte.inside in
    let less : byte.at / PAGE_SIZE < pages_of p.handles byte.place = omega arith in
    let names : NamesBudgetFrame budget (entry_of p.tables (page_at lin)) =
    rw byte.page (holds.blocks.named byte.place (byte.at / PAGE_SIZE) byte.within less) in
    let from = names.from in let to = names.to in
    let frame = frame_named (entry_of p.tables (page_at lin)) in
    let c : Clears p.handles p.tables p.taken p.frames budget byte.place (byte.at / PAGE_SIZE) frame = grind arith in
    let e = put_part Frames b budget p (PAGE_SIZE * (entry_of p.tables (page_at lin) / PAGE_SIZE)) (PAGE_SIZE * frame) (copies PAGE_SIZE 0)
    (own_parts b budget holds) (omega arith) (omega (arith, length-copies PAGE_SIZE 0)) in
    let q : MemoryParts = record p { frames = cleared_frame p.frames frame } in
    let h = holds_parts b budget holds in
    let blocks : blocks_in p.handles p.tables p.locks (cleared_frame p.frames frame)
    ≡ blocks_with_zero_page (blocks_held b budget) (place_in (blocks_held b budget) lin) =
    listed-set MAX_BLOCKS (block_in p.handles p.tables p.locks p.frames)
    (block_in p.handles p.tables p.locks (cleared_frame p.frames frame)) byte.place
    (with_zero_page (block_in p.handles p.tables p.locks p.frames byte.place) (byte.at / PAGE_SIZE)) byte.within
    (grind (arith, cleared_block, row_there))
    (λ other small ne. other_cleared p.handles p.tables p.locks p.taken p.frames budget byte.place (byte.at / PAGE_SIZE) frame c
    other small ne)
    ∙ ap (λ (o : Option MemoryBlock). slice_set (blocks_held b budget) byte.place (with_zero_page o (byte.at / PAGE_SIZE)))
    (sym (block_at_row p.handles p.tables p.locks p.frames byte.place byte.within))
    ∙ ap (blocks_with_zero_page (blocks_held b budget)) (sym byte.answer) in
    record {
      from = names.from;
      to = names.to;
      holds = holds_by (page_cleared b lin) budget q e holds.most
          (grind (arith, dword_put_beside, entry_away, length-copies, list_kept));
      world = λ mode regs vif width. world_after b (page_cleared b lin) budget q e refl mode regs vif width
          ∙ ap (λ (bs : List (Option MemoryBlock)). record (world_of b budget mode regs vif width) { blocks = bs }) blocks;
      rows = ap (λ (x : MemoryParts). x.rows) e.are;
      addresses = addresses_of b (page_cleared b lin) budget q e refl refl;
    }
