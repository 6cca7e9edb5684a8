-- Which pages are blocks', and changes of one page after another.
use Rattle.std.proofs.Common.{◌≡◌, ◌≤◌, ◌<◌, ◌+◌, ◌-◌, ◌*◌, ◌⊎◌, inl, inr, ℕ, suc, Bool, true, false, List, [], ◌∷◌, slice_set, refl, sym}
use Rattle.std.proofs.{Common.{◌∙◌, ap, arith, Option, None, Some}, lemmas.Bool.{cases_Bool}}
use Rattle.client_world.specs.{declared.host_frames.TheConstants.{PAGE_SIZE}, declared.memory_map.TheConstants.{BLOCK_REGION}}
use Rattle.client_world.specs.{declared.memory_map.TheConstants.{BLOCK_REGION_END}, declared.place.Place.{Place}}
use Rattle.client_world.specs.{declared.place.Place.TheVariants.{Dos, Block, Host, Nothing}, Access.{block_place, covers, may_touch}}
use Rattle.client_world.specs.{Access.{place_in}, World.{World, MemoryBlock}}
use Rattle.client_world.proofs.PlaceLaws.{place-block}
use Rattle.block_memory.specs.BlockSizes.{IsBlocks, lock_in}
use Rattle.block_memory.proofs.LockWrites.{in_region_of, no_lock}
use Rattle.block_services.specs.{declared.regions.Change.{Change}, Pages.{changed, changed_page, is_blocks, page_place, with_pages}}

blocks_true : (p : Place) → is_blocks p ≡ true → IsBlocks p
blocks_true (Dos at) e = absurd cc
blocks_true (Block number at) e = _
blocks_true Host e = absurd cc
blocks_true Nothing e = absurd cc

-- no page outside the block region is a block's
pub no_page : (blocks : List (Option MemoryBlock)) (lin : ℕ) → (lin < BLOCK_REGION) ⊎ (BLOCK_REGION_END ≤ lin) →
    false ≡ is_blocks (place_in blocks lin)
no_page blocks lin out = elim (cases_Bool (is_blocks (place_in blocks lin))) [
  | inl is ↦ (
      let r = in_region_of blocks lin (blocks_true (place_in blocks lin) is) in
      let from = r.from in let to = r.to in
      absurd (elim out [ inl below ↦ omega arith | inr above ↦ omega arith ]))
  | inr none ↦ sym none
]

pub no_page_lock : (blocks : List (Option MemoryBlock)) (page : ℕ) → BLOCK_REGION_END ≤ PAGE_SIZE * page →
    0 ≡ lock_in blocks (page_place blocks page)
no_page_lock blocks page out = sym (no_lock blocks (PAGE_SIZE * page) (inr out))

-- a place that the blocks' addresses give is a block's where the client may read it
readable_place : (blocks : List (Option MemoryBlock)) (handle lin : ℕ) →
    may_touch (block_place blocks handle lin) false ≡ is_blocks (block_place blocks handle lin)
readable_place [] handle lin = refl
readable_place (None ∷ blocks) handle lin = readable_place blocks (handle + 1) lin
readable_place (Some own ∷ blocks) handle lin = elim (cases_Bool (covers own lin)) [
  | inl t ↦ rw t refl
  | inr t ↦ rw t (readable_place blocks (handle + 1) lin)
]

-- a page of the block region is a block's where the client may read its first byte
pub page_of_block : (blocks : List (Option MemoryBlock)) (page : ℕ) → BLOCK_REGION ≤ PAGE_SIZE * page →
    PAGE_SIZE * page < BLOCK_REGION_END → may_touch (page_place blocks page) false ≡ is_blocks (page_place blocks page)
page_of_block blocks page from to = rw (place-block blocks (PAGE_SIZE * page) from to) (readable_place blocks 1 (PAGE_SIZE * page))

-- the loops in code

changed_more : (change : Change) (blocks : List (Option MemoryBlock)) (page n : ℕ) →
    changed change blocks page (suc n) ≡ changed change (changed_page change blocks (page_place blocks page)) (page + 1) n
unfolding changed
changed_more change blocks page n = refl

changed_none : (change : Change) (blocks : List (Option MemoryBlock)) (page : ℕ) → changed change blocks page 0 ≡ blocks
unfolding changed
changed_none change blocks page = refl

pub changed_next : (change : Change) (blocks : List (Option MemoryBlock)) (page end : ℕ) → page < end →
    changed change blocks page (end - page) ≡ changed change (changed_page change blocks (page_place blocks page)) (page + 1)
    (end - (page + 1))
changed_next change blocks page end below =
    let k : end - page ≡ suc (end - (page + 1)) = omega arith in
    ap (changed change blocks page) k ∙ changed_more change blocks page (end - (page + 1))

pub changed_done : (change : Change) (blocks : List (Option MemoryBlock)) (page end : ℕ) → end ≤ page →
    changed change blocks page (end - page) ≡ blocks
changed_done change blocks page end beyond =
    let k : end - page ≡ 0 = omega arith in
    ap (changed change blocks page) k ∙ changed_none change blocks page

set_more : (on : Bool) (pages : List Bool) (page n : ℕ) →
    with_pages on pages page (suc n) ≡ with_pages on (slice_set pages page on) (page + 1) n
unfolding with_pages
set_more on pages page n = refl

set_none : (on : Bool) (pages : List Bool) (page : ℕ) → with_pages on pages page 0 ≡ pages
unfolding with_pages
set_none on pages page = refl

pub set_next : (on : Bool) (pages : List Bool) (page end : ℕ) → page < end →
    with_pages on pages page (end - page) ≡ with_pages on (slice_set pages page on) (page + 1) (end - (page + 1))
set_next on pages page end below =
    let k : end - page ≡ suc (end - (page + 1)) = omega arith in
    ap (with_pages on pages page) k ∙ set_more on pages page (end - (page + 1))

pub set_done : (on : Bool) (pages : List Bool) (page end : ℕ) → end ≤ page → with_pages on pages page (end - page) ≡ pages
set_done on pages page end beyond = let k : end - page ≡ 0 = omega arith in ap (with_pages on pages page) k ∙ set_none on pages page

-- worlds of which the blocks, or the pageable pages, alone have changed
pub only_blocks : (w a b : World) (blocks : List (Option MemoryBlock)) → a ≡ record w { blocks = a.blocks } →
    b ≡ record a { blocks = blocks } → b ≡ record w { blocks = b.blocks }
only_blocks w a b blocks first second =
    second ∙ ap (λ (v : World). record v { blocks = blocks }) first
    ∙ ap (λ (bs : List (Option MemoryBlock)). record w { blocks = bs }) (sym (ap (λ (v : World). v.blocks) second))

pub only_pageable : (w a b : World) (pages : List Bool) → a ≡ record w { pageable = a.pageable } → b ≡ record a { pageable = pages } →
    b ≡ record w { pageable = b.pageable }
only_pageable w a b pages first second =
    second ∙ ap (λ (v : World). record v { pageable = pages }) first
    ∙ ap (λ (ps : List Bool). record w { pageable = ps }) (sym (ap (λ (v : World). v.pageable) second))
