-- A gap is room for a block, a block that shrinks stays where it is, and the table of function 0500h has the largest run. First pages of
-- which none is after the view of the DOS megabyte.
use Rattle.std.proofs.Common.{◌≡◌, ◌≤◌, ◌<◌, ◌+◌, ℕ, false, Option, None, Some, refl, nat_le, ◌≢◌, ◌*◌, inl, inr, zero, suc, true, List}
use Rattle.std.proofs.{Common.{length, ap, arith, nat_eq, ◌-◌, ◌%◌, ◌⊎◌, ◌∙◌, subst}, lemmas.Bool.{leb-false, not-false, not-true}}
use Rattle.std.proofs.lemmas.Bool.{and_from, and_left, and_right, cases_Bool, cases_eq, eq-eqb, le-leb, le-ltb, not_from_true, and_cases}
use Rattle.std.proofs.lemmas.Bool.{and_parts, leb-true, ltb-false, ne_eqb, not_from_false, true≢false}
use Rattle.std.specs.Option.{is_some, is_none}
use Rattle.client_world.specs.{declared.memory_map.TheConstants.{DOS_VIEW_PAGES, BLOCK_REGION_END, BLOCK_REGION}, World.{World}}
use Rattle.client_world.specs.{World.{MemoryBlock, block_at, base_of_block}, declared.host_frames.TheConstants.{PAGE_SIZE}}
use Rattle.client_world.specs.{declared.limits.TheConstants.{MAX_BLOCKS}, Soundness.{IsSound, SoundBlocks, pages_of_block, pages_of_blocks}}
use Rattle.client_world.specs.declared.blocks.BlockRow.{BlockRow}
use Rattle.service_rows.specs.FirstIndex.{first_index}
use Rattle.service_rows.proofs.RunLaws.{first_none, is_missing, first_is}
use Rattle.block_services.specs.{declared.regions.Question.{Question}, declared.regions.Question.TheVariants.{IsAboveView}}
use Rattle.block_services.specs.{Pages.{page_answer, is_in_view, some_page}, Free.{IsLargest, largest_new_block}, Gaps.{block_in_way}}
use Rattle.block_services.specs.{Gaps.{is_gap, is_in_way, overlaps, first_gap, page_address}, Rows.{new_base, gap_address}}
use Rattle.block_memory.specs.BlockSizes.{row_seen, CanMake, CanSize}
use Rattle.block_services.proofs.SpanLists.{handle_within}

pub none_of : (o : Option ℕ) → is_some o ≡ false → o ≡ None
none_of None e = refl
none_of (Some x) e = absurd cc

-- the answer is no for each page
pub no_page_holds : (question : Question) (w : World) (first n : ℕ) → some_page question w first n ≡ false → (page : ℕ) → first ≤ page →
    page < first + n → page_answer question w page ≡ false
unfolding some_page
no_page_holds question w first n e page from to =
    first_none (page_answer question w) first n (none_of (first_index (page_answer question w) first n) e) page from to

pub in_view : (w : World) (first n : ℕ) → some_page IsAboveView w first n ≡ false → (page : ℕ) → first ≤ page → page < first + n →
    page < DOS_VIEW_PAGES
in_view w first n e page from to =
    leb-false DOS_VIEW_PAGES page
    (not-true (nat_le DOS_VIEW_PAGES page) (not-false (is_in_view page) (no_page_holds IsAboveView w first n e page from to)))

beside : (blocks : List (Option MemoryBlock)) (budget handle pages other : ℕ) (own : MemoryBlock) → SoundBlocks blocks budget →
    block_at blocks handle ≡ Some own → pages ≤ length own.locks → other ≢ handle → (b : Option MemoryBlock) → block_at blocks other ≡ b →
    overlaps (row_seen b) own.base pages ≡ false
beside blocks budget handle pages other own sound there few ne None e = refl
beside blocks budget handle pages other own sound there few ne (Some block) e =
    let size = (sound.each handle own there).pages in
    let held = (sound.each other block e).pages in
    grind (arith, and_left, and_right, le-ltb)

not_in_way : (blocks : List (Option MemoryBlock)) (budget handle pages : ℕ) (own : MemoryBlock) → SoundBlocks blocks budget →
    block_at blocks handle ≡ Some own → pages ≤ length own.locks → (other : ℕ) → is_in_way blocks handle own.base pages other ≡ false
not_in_way blocks budget handle pages own sound there few other = elim (cases_eq other handle) [
  | inl same ↦ and_left _ _ (not_from_true (nat_eq other handle) (eq-eqb other handle same))
  | inr ne ↦ and_right _ _ (beside blocks budget handle pages other own sound there few ne (block_at blocks other) refl)
]

own_gap : (blocks : List (Option MemoryBlock)) (budget handle pages : ℕ) (own : MemoryBlock) → SoundBlocks blocks budget →
    block_at blocks handle ≡ Some own → pages ≤ length own.locks → is_gap blocks handle own.base pages ≡ true
unfolding is_gap block_in_way
own_gap blocks budget handle pages own sound there few =
    let is = sound.each handle own there in
    let size = is.pages in let end = is.to in
    and_from _ _ (le-leb (own.base + PAGE_SIZE * pages) BLOCK_REGION_END (omega arith))
    (ap is_none (is_missing (is_in_way blocks handle own.base pages) 1 MAX_BLOCKS
    (λ k l u. not_in_way blocks budget handle pages own sound there few k)))

pub stays : (w : World) (handle pages : ℕ) (own : MemoryBlock) → IsSound w → block_at w.blocks handle ≡ Some own →
    pages ≤ length own.locks → new_base w.blocks handle pages ≡ Some own.base
unfolding new_base
stays w handle pages own s there few = rw (ap base_of_block there, own_gap w.blocks w.budget handle pages own s.blocks there few) refl

-- the largest run

some_is : (o : Option ℕ) → is_some o ≡ true → o ≢ None
some_is None e same = absurd cc
some_is (Some x) e same = absurd cc

largest_more : (blocks : List (Option MemoryBlock)) (n : ℕ) → IsLargest blocks n (largest_new_block blocks n) →
    IsLargest blocks (suc n) (largest_new_block blocks (suc n))
unfolding largest_new_block
largest_more blocks n rest = grind (arith, cases_Bool, none_of, some_is)

largest_none : (blocks : List (Option MemoryBlock)) → IsLargest blocks 0 (largest_new_block blocks 0)
unfolding largest_new_block
largest_none blocks = record { within = omega arith; free = λ some. absurd (omega arith); others = λ k above below. absurd (omega arith) }

pub largest_is : (blocks : List (Option MemoryBlock)) (n : ℕ) → IsLargest blocks n (largest_new_block blocks n)
largest_is blocks zero = largest_none blocks
largest_is blocks (suc n) = largest_more blocks n (largest_is blocks n)

-- the pages lie in the block region, and no block but that of one handle has any of them
pub record Room (blocks : List (Option MemoryBlock)) (own base pages : ℕ) : Type 0 where
  pub below : base + PAGE_SIZE * pages ≤ BLOCK_REGION_END
  pub apart : (other : ℕ) (block : MemoryBlock) → other ≢ own → block_at blocks other ≡ Some block →
      (base + PAGE_SIZE * pages ≤ block.base) ⊎ (block.base + length block.bytes ≤ base)

none_is : (o : Option ℕ) → is_none o ≡ true → o ≡ None
none_is None e = refl
none_is (Some x) e = absurd cc

pub passed : (blocks : List (Option MemoryBlock)) (budget own base pages : ℕ) → SoundBlocks blocks budget →
    (other : ℕ) (block : MemoryBlock) → other ≢ own → block_at blocks other ≡ Some block → is_in_way blocks own base pages other ≡ false →
    (base + PAGE_SIZE * pages ≤ block.base) ⊎ (block.base + length block.bytes ≤ base)
passed blocks budget own base pages sound other block ne e out = grind (arith, and_cases, ltb-false, ne_eqb, not_from_false, true≢false)

pub gap_is_room : (blocks : List (Option MemoryBlock)) (budget own base pages : ℕ) → SoundBlocks blocks budget →
    is_gap blocks own base pages ≡ true → Room blocks own base pages
unfolding is_gap block_in_way
gap_is_room blocks budget own base pages sound e =
    let parts = and_parts (nat_le (base + PAGE_SIZE * pages) BLOCK_REGION_END)
    (is_none (first_index (is_in_way blocks own base pages) 1 MAX_BLOCKS)) e in
    record {
      below = leb-true (base + PAGE_SIZE * pages) BLOCK_REGION_END parts.0;
      apart = λ other block ne there. (
          let h = handle_within blocks other block sound.handles there in
          passed blocks budget own base pages sound other block ne there
          (first_none (is_in_way blocks own base pages) 1 MAX_BLOCKS
          (none_is (first_index (is_in_way blocks own base pages) 1 MAX_BLOCKS) parts.1) other h.some (omega (arith, h.most))));
    }

pub can_make : (blocks : List (Option MemoryBlock)) (budget page pages : ℕ) → SoundBlocks blocks budget →
    is_gap blocks 0 (page_address page) pages ≡ true →
    0 < pages → pages ≤ budget - pages_of_blocks blocks → CanMake blocks budget (page_address page) pages
can_make blocks budget page pages sound e some few =
    let room = gap_is_room blocks budget 0 (page_address page) pages sound e in
    let within = sound.within in
    grind (arith, handle_within)

-- the first gap is one
pub first_gap_is : (blocks : List (Option MemoryBlock)) (pages page : ℕ) → first_gap blocks pages ≡ Some page →
    is_gap blocks 0 (page_address page) pages ≡ true
unfolding first_gap
first_gap_is blocks pages page e = (first_is (λ (k : ℕ). is_gap blocks 0 (page_address k) pages) 0 _ page e).here

-- what a place for the block of a handle is
pub record PlaceFor (blocks : List (Option MemoryBlock)) (handle base pages : ℕ) : Type 0 where
  pub whole : base % PAGE_SIZE ≡ 0
  pub above : BLOCK_REGION ≤ base
  pub below : base + PAGE_SIZE * pages ≤ BLOCK_REGION_END
  pub apart : (other : ℕ) (block : MemoryBlock) → other ≢ handle → block_at blocks other ≡ Some block →
      (base + PAGE_SIZE * pages ≤ block.base) ⊎ (block.base + length block.bytes ≤ base)

place_at_gap : (blocks : List (Option MemoryBlock)) (budget handle pages : ℕ) → SoundBlocks blocks budget → (gap : Option ℕ) →
    first_gap blocks pages ≡ gap → (base : ℕ) → gap_address gap ≡ Some base → PlaceFor blocks handle base pages
place_at_gap blocks budget handle pages sound None e base is = absurd cc
place_at_gap blocks budget handle pages sound (Some page) e base is =
    let at : page_address page ≡ base = cc is in
    let room = gap_is_room blocks budget 0 (page_address page) pages sound (first_gap_is blocks pages page e) in
    subst (λ (x : ℕ). PlaceFor blocks handle x pages) at (grind (arith, handle_within))

new_place : (blocks : List (Option MemoryBlock)) (budget handle base pages : ℕ) → SoundBlocks blocks budget → (own : Option MemoryBlock) →
    block_at blocks handle ≡ own → own ≢ None → new_base blocks handle pages ≡ Some base → PlaceFor blocks handle base pages
unfolding new_base
new_place blocks budget handle base pages sound None there held e = absurd (held refl)
new_place blocks budget handle base pages sound (Some block) there held e =
    elim (cases_Bool (is_gap blocks handle (base_of_block (block_at blocks handle)) pages)) [
      | inl stays ↦ (
          let same : block.base ≡ base = cc (rw stays at e, ap base_of_block there) in
          let is = sound.each handle block there in
          let room = gap_is_room blocks budget handle (base_of_block (block_at blocks handle)) pages sound stays in
          let here = ap base_of_block there ∙ same in
          grind arith)
      | inr goes ↦ place_at_gap blocks budget handle pages sound (first_gap blocks pages) refl base (rw goes at e)
    ]

pub can_size : (blocks : List (Option MemoryBlock)) (budget handle base pages : ℕ) → SoundBlocks blocks budget →
    block_at blocks handle ≢ None → new_base blocks handle pages ≡ Some base → 0 < pages →
    pages - pages_of_block (block_at blocks handle) ≤ budget - pages_of_blocks blocks → CanSize blocks budget handle base pages
can_size blocks budget handle base pages sound held e some few =
    let place = new_place blocks budget handle base pages sound (block_at blocks handle) refl held e in
    let within = sound.within in
    grind arith

pub seen_held : (b : Option MemoryBlock) (row : BlockRow) → row_seen b ≡ Some row → b ≢ None
seen_held None row e none = absurd cc
seen_held (Some block) row e none = absurd cc
