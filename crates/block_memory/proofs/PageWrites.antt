-- The writes that give a page to a block and take it away, as what they make of the parts of the memory. Between them the host's own
-- entries stay, so that each step may be made. First what is read of a row of the blocks and of a lock count.
use Rattle.std.proofs.Common.{◌≡◌, ℕ, ◌+◌, ◌*◌, ◌<◌, List, ap, ◌∙◌, arith, ◌-◌, ◌≤◌, true, [], ◌∷◌, length, slice_set, refl}
use Rattle.client_world.specs.declared.host_frames.TheConstants.{PAGE_SIZE, BLOCK_ROWS, LOCK_COUNTS, BLOCK_ROW_FRAMES, BLOCK_ROW_SIZE}
use Rattle.client_world.specs.declared.host_frames.TheConstants.{LOCK_COUNT_FRAMES, LOCK_COUNT_SIZE, BUDGET_FRAMES, PAGE_ENTRY_SIZE}
use Rattle.client_world.specs.{declared.memory_map.TheConstants.{BLOCK_REGION_PAGES}, declared.limits.TheConstants.{MAX_BLOCKS, MAX_PAGES}}
use Rattle.guest_ram.specs.{Bytes.{dword, word_of, put, dword_bytes}, Listed.{copies}}
use Rattle.host_memory.specs.{HoldsWorld.{frame_place}, Layout.{handles_part, locks_part, base_of, pages_of, lock_of}, Holds.{Holds}}
use Rattle.host_memory.specs.{Tables.{HasFixedEntries}, Vectors.{head_start}}
use Rattle.host_memory.proofs.{Parts.{part_dword, part_word, head_is, next_is, HasParts, MemoryParts, parts_of}, BlockRows.{IsRange}}
use Rattle.host_memory.proofs.{VectorParts.{put_head}, PutParts.{Frames, Handles, Locks, Tables, Taken, Vectors, put_part}}
use Rattle.guest_ram.proofs.{ListedLaws.{length-copies}, PutLaws.{length-region}}
use Rattle.page_tables.specs.{Budget.{taken_place}, FreeList.{with_head, without_head}, declared.budget.TheConstants.{FREE_LIST_HEAD}}
use Rattle.page_tables.specs.Entry.{page_entry}
use Rattle.page_tables.proofs.MapLaws.{with_entry}
use Rattle.block_memory.proofs.{PageMore.{region_page, budget_entry}, PageParts.{HasSizes, grown_parts, shrunk_parts, with_row}}
use Rattle.block_memory.proofs.{PageParts.{base_in_row}, RegionPages.{HasHost, InRegion, page_at, region_place}}

-- a row that is read
pub row_pages_read : (b : List ℕ) (place n : ℕ) → place < MAX_BLOCKS → n ≡ dword b (PAGE_SIZE * BLOCK_ROWS + BLOCK_ROW_SIZE * place + 4) →
    n ≡ pages_of (handles_part b) place
row_pages_read b place n within e =
    e ∙ ap (dword b) (let p : PAGE_SIZE * BLOCK_ROWS + BLOCK_ROW_SIZE * place + 4 ≡ frame_place BLOCK_ROWS (BLOCK_ROW_SIZE * place + 4) =
    omega arith in p)
    ∙ part_dword b BLOCK_ROWS BLOCK_ROW_FRAMES (BLOCK_ROW_SIZE * place + 4) (omega arith)

pub row_base_read : (b : List ℕ) (place n : ℕ) → place < MAX_BLOCKS → n ≡ dword b (PAGE_SIZE * BLOCK_ROWS + BLOCK_ROW_SIZE * place) →
    n ≡ base_of (handles_part b) place
row_base_read b place n within e = e ∙ part_dword b BLOCK_ROWS BLOCK_ROW_FRAMES (BLOCK_ROW_SIZE * place) (omega arith)

-- a lock count that is read
pub lock_read : (b : List ℕ) (page n : ℕ) → page < BLOCK_REGION_PAGES → n ≡ word_of b (PAGE_SIZE * LOCK_COUNTS + LOCK_COUNT_SIZE * page) →
    n ≡ lock_of (locks_part b) page
lock_read b page n small e = e ∙ part_word b LOCK_COUNTS LOCK_COUNT_FRAMES (LOCK_COUNT_SIZE * page) (omega arith)

-- the parts have their sizes
pub sizes_of : (b : List ℕ) (budget : ℕ) → HasHost b budget → HasSizes (parts_of b budget) budget
sizes_of b budget host = grind (arith, length-region)

pub host_of : (b : List ℕ) (budget : ℕ) → Holds b budget → HasHost b budget
host_of b budget holds = record { size = holds.size; most = holds.most; fixed = holds.fixed }

-- the memory has these parts, and the host's own entries
pub record HasHostParts (b : List ℕ) (budget : ℕ) (p : MemoryParts) : Type 0 where
  pub has : HasParts b budget p
  pub most : budget ≤ MAX_PAGES
  pub fixed : HasFixedEntries p.fixed

pub own_host : (b : List ℕ) (budget : ℕ) → HasHost b budget → HasHostParts b budget (parts_of b budget)
own_host b budget host = record { has = record { size = host.size; are = refl }; most = host.most; fixed = host.fixed }

pub host_in : (b : List ℕ) (budget : ℕ) (p : MemoryParts) → HasHostParts b budget p → HasHost b budget
host_in b budget p h = grind arith

-- the frame is one of the budget
pub record InBudget (budget frame : ℕ) : Type 0 where
  pub from : BUDGET_FRAMES ≤ frame
  pub to : frame < BUDGET_FRAMES + budget

-- the taken byte of a frame
taken_has : (b : List ℕ) (budget : ℕ) (p : MemoryParts) (frame v : ℕ) → HasHostParts b budget p → InBudget budget frame →
    HasHostParts (slice_set b (taken_place frame) v) budget (record p { taken = slice_set p.taken (frame - BUDGET_FRAMES) v })
taken_has b budget p frame v h inside =
    let from = inside.from in let to = inside.to in let most = h.most in
    record {
      has = put_part Taken b budget p (taken_place frame) (frame - BUDGET_FRAMES) (v ∷ []) h.has (omega arith) (omega arith);
      most = h.most;
      fixed = h.fixed;
    }

-- the head of the list of free frames
head_has : (b : List ℕ) (budget : ℕ) (p : MemoryParts) (v : ℕ) → HasHostParts b budget p →
    HasHostParts (put b FREE_LIST_HEAD (dword_bytes v)) budget (record p { vectors = put_head p.vectors v })
head_has b budget p v h = record {
  has = put_part Vectors b budget p FREE_LIST_HEAD head_start (dword_bytes v) h.has (omega arith) (omega arith);
  most = h.most;
  fixed = h.fixed;
}

-- a run in a frame of the budget
frame_has : (b : List ℕ) (budget : ℕ) (p : MemoryParts) (frame : ℕ) (xs : List ℕ) → HasHostParts b budget p → InBudget budget frame →
    length xs ≤ PAGE_SIZE →
    HasHostParts (put b (PAGE_SIZE * frame) xs) budget (record p { frames = put p.frames (PAGE_SIZE * (frame - BUDGET_FRAMES)) xs })
frame_has b budget p frame xs h inside long =
    let from = inside.from in let to = inside.to in
    record {
      has = put_part Frames b budget p (PAGE_SIZE * frame) (PAGE_SIZE * (frame - BUDGET_FRAMES)) xs h.has (omega arith) (omega arith);
      most = h.most;
      fixed = h.fixed;
    }

-- a frame is given back
given_has : (b : List ℕ) (budget : ℕ) (p : MemoryParts) (frame : ℕ) → HasHostParts b budget p → InBudget budget frame →
    HasHostParts (with_head b frame) budget (record p {
      vectors = put_head p.vectors frame;
      taken = slice_set p.taken (frame - BUDGET_FRAMES) 0;
      frames = put p.frames (PAGE_SIZE * (frame - BUDGET_FRAMES)) (dword_bytes (dword p.vectors head_start));
    })
given_has b budget p frame h inside =
    rw (head_is b ∙ ap (λ (q : MemoryParts). dword q.vectors head_start) h.has.are)
    (taken_has _ budget _ frame 0 (head_has _ budget _ frame (frame_has b budget p frame (dword_bytes (dword p.vectors head_start)) h inside
    (omega arith))) inside)

-- a frame is taken from the head and cleared

abbrev pub cleared : List ℕ → ℕ → List ℕ
cleared b frame = put (without_head b frame) (PAGE_SIZE * frame) (copies PAGE_SIZE 0)

pub cleared_has : (b : List ℕ) (budget : ℕ) (p : MemoryParts) (frame : ℕ) → HasHostParts b budget p → InBudget budget frame →
    HasHostParts (cleared b frame) budget (record p {
      vectors = put_head p.vectors (dword p.frames (PAGE_SIZE * (frame - BUDGET_FRAMES)));
      taken = slice_set p.taken (frame - BUDGET_FRAMES) 1;
      frames = put p.frames (PAGE_SIZE * (frame - BUDGET_FRAMES)) (copies PAGE_SIZE 0);
    })
cleared_has b budget p frame h inside =
    rw (next_is b budget frame inside.from inside.to
    ∙ ap (λ (q : MemoryParts). dword q.frames (PAGE_SIZE * (frame - BUDGET_FRAMES))) h.has.are)
    (frame_has _ budget _ frame (copies PAGE_SIZE 0) (taken_has _ budget _ frame 1 (head_has b budget p _ h) inside) inside
    (omega (arith, length-copies PAGE_SIZE 0)))

-- an entry of the block region
pub entry_has : (b : List ℕ) (budget : ℕ) (p : MemoryParts) (lin page v : ℕ) → HasHostParts b budget p → InRegion lin → page_at lin ≡ page →
    HasHostParts (with_entry b lin v) budget (record p { tables = put p.tables (PAGE_ENTRY_SIZE * page) (dword_bytes v) })
entry_has b budget p lin page v h in_region same =
    let from = in_region.from in let to = in_region.to in
    let place = region_place b budget lin (host_in b budget p h) in_region in
    record {
      has = put_part Tables b budget p _ (PAGE_ENTRY_SIZE * page) (dword_bytes v) h.has (omega (arith, place)) (omega arith);
      most = h.most;
      fixed = h.fixed;
    }

-- the row of a block

abbrev pub with_block_row : List ℕ → ℕ → ℕ → ℕ → List ℕ
with_block_row b place base pages =
    put (put b (PAGE_SIZE * BLOCK_ROWS + BLOCK_ROW_SIZE * place) (dword_bytes base)) (PAGE_SIZE * BLOCK_ROWS + BLOCK_ROW_SIZE * place + 4)
    (dword_bytes pages)

pub row_has : (b : List ℕ) (budget : ℕ) (p : MemoryParts) (place base pages : ℕ) → HasHostParts b budget p → place < MAX_BLOCKS →
    HasHostParts (with_block_row b place base pages) budget (record p { handles = with_row p.handles place base pages })
row_has b budget p place base pages h within = record {
  has = put_part Handles _ budget _ (PAGE_SIZE * BLOCK_ROWS + BLOCK_ROW_SIZE * place + 4) (BLOCK_ROW_SIZE * place + 4) (dword_bytes pages)
      (put_part Handles b budget p (PAGE_SIZE * BLOCK_ROWS + BLOCK_ROW_SIZE * place) (BLOCK_ROW_SIZE * place) (dword_bytes base) h.has
      (omega arith) (omega arith)) (omega arith) (omega arith);
  most = h.most;
  fixed = h.fixed;
}

-- page n of a block in the block region
pub page_in_region : (base n : ℕ) → IsRange base (n + 1) → InRegion (base + PAGE_SIZE * n)
page_in_region base n r = let from = r.from in let to = r.to in record { from = omega arith; to = omega arith }

pub page_is : (base n : ℕ) → IsRange base (n + 1) → page_at (base + PAGE_SIZE * n) ≡ region_page base n
page_is base n r = let from = r.from in let whole = r.whole in omega arith

-- all writes that give a page to a block: page n from a linear address on lies in a frame, which is taken and cleared

abbrev pub grown : List ℕ → ℕ → ℕ → ℕ → ℕ → List ℕ
grown b place base n frame = with_block_row (with_entry (cleared b frame) (base + PAGE_SIZE * n) (page_entry frame true)) place base (n + 1)

pub grown_has : (b : List ℕ) (budget place base n frame : ℕ) → HasHost b budget → InBudget budget frame → place < MAX_BLOCKS →
    IsRange base (n + 1) →
    HasParts (grown b place base n frame) budget (grown_parts (parts_of b budget) place base n (frame - BUDGET_FRAMES))
grown_has b budget place base n frame host inside within range =
    let from = inside.from in
    let entry : budget_entry (frame - BUDGET_FRAMES) ≡ page_entry frame true = omega arith in
    rw entry
    (row_has _ budget _ place base (n + 1)
    (entry_has _ budget _ (base + PAGE_SIZE * n) (region_page base n) (page_entry frame true)
    (cleared_has b budget _ frame (own_host b budget host) inside) (page_in_region base n range) (page_is base n range)) within).has

-- all writes that take the last page from a block

abbrev pub without_entry : List ℕ → ℕ → ℕ → List ℕ
without_entry b lin frame = with_head (with_entry b lin 0) frame

abbrev pub unlocked : List ℕ → ℕ → List ℕ
unlocked b page = put b (PAGE_SIZE * LOCK_COUNTS + LOCK_COUNT_SIZE * page) (0 ∷ 0 ∷ [])

abbrev pub shrunk : List ℕ → ℕ → ℕ → ℕ → ℕ → List ℕ
shrunk b place base n frame =
    with_block_row (unlocked (without_entry b (base + PAGE_SIZE * n) frame) (region_page base n)) place (base_in_row base n) n

pub shrunk_has : (b : List ℕ) (budget place base n frame : ℕ) → HasHost b budget → InBudget budget frame → place < MAX_BLOCKS →
    IsRange base (n + 1) →
    HasParts (shrunk b place base n frame) budget (shrunk_parts (parts_of b budget) place base n (frame - BUDGET_FRAMES))
shrunk_has b budget place base n frame host inside within range =
    let range_from = range.from in let range_to = range.to in let range_whole = range.whole in let inside_from = inside.from in
    let named : BUDGET_FRAMES + (frame - BUDGET_FRAMES) ≡ frame = omega arith in
    let given = given_has _ budget _ frame (entry_has b budget _ (base + PAGE_SIZE * n) (region_page base n) 0 (own_host b budget host)
    (page_in_region base n range) (page_is base n range)) inside in
    rw named
    (row_has _ budget _ place (base_in_row base n) n (record {
      has =
          put_part Locks _ budget _ (PAGE_SIZE * LOCK_COUNTS + LOCK_COUNT_SIZE * region_page base n) (LOCK_COUNT_SIZE * region_page base n)
          (0 ∷ 0 ∷ []) given.has (omega arith) (omega arith);
      most = given.most;
      fixed = given.fixed;
    }) within).has
