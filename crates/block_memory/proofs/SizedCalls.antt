-- What the three steps ask that give a block another address and size.
use Rattle.std.proofs.Common.{◌≡◌, ◌≢◌, ℕ, suc, ◌+◌, ◌-◌, ◌≤◌, ◌⊎◌, inl, inr, List, length, slice_index_or, slice_set, refl, ap, ◌∙◌, sym}
use Rattle.std.proofs.{Common.{arith, Option, None, Some, get_or-set_same, get_or-set_other, length-set}, lemmas.List.{set-set}}
use Rattle.std.specs.Prelude.{min}
use Rattle.client_world.specs.{Soundness.{SoundBlocks, pages_of_block, pages_of_blocks}, World.{MemoryBlock, base_of_block}}
use Rattle.block_memory.specs.BlockSizes.{CanHold, CanMove, CanSize, HasPages, shorter, block_with_zero_pages, at_base, sized_block}
use Rattle.block_memory.proofs.{BlockRuns.{resized_is}, SizedSound.{pages_put}}

abbrev held : List (Option MemoryBlock) → ℕ → Option MemoryBlock
held blocks place = slice_index_or blocks place None

abbrev pub cut_blocks : List (Option MemoryBlock) → ℕ → ℕ → List (Option MemoryBlock)
cut_blocks blocks place kept = slice_set blocks place (shorter (slice_index_or blocks place None) kept)

abbrev pub moved_blocks : List (Option MemoryBlock) → ℕ → ℕ → List (Option MemoryBlock)
moved_blocks blocks place base = slice_set blocks place (at_base base (slice_index_or blocks place None))

-- all that is known at the start of the call
pub record Sizing (blocks : List (Option MemoryBlock)) (budget place from old base pages kept : ℕ) : Type 0 where
  pub has : HasPages blocks place from old
  pub can : CanSize blocks budget (suc place) base pages
  pub some : old ≢ 0
  pub few : kept ≡ min old pages

pub can_move : (blocks : List (Option MemoryBlock)) (budget place from old base pages kept : ℕ) →
    Sizing blocks budget place from old base pages kept →
    HasPages (cut_blocks blocks place kept) place from kept → CanMove (cut_blocks blocks place kept) place base kept
can_move blocks budget place from old base pages kept s has =
    let is = s.few in let some = s.some in let more = s.can.some in let below = s.can.below in
    record {
      handles = has.handles;
      within = has.within;
      some = omega arith;
      count = has.count;
      whole = s.can.whole;
      above = s.can.above;
      below = omega arith;
      apart = λ other block ne e.
          elim (s.can.apart (suc other) block (λ same. ne (omega arith)) (sym (get_or-set_other blocks place other _ None ne) ∙ e)) [
            | inl far ↦ inl (omega arith)
            | inr near ↦ inr near
          ];
    }

based_at : (base : ℕ) (o : Option MemoryBlock) → pages_of_block (at_base base o) ≢ 0 → base_of_block (at_base base o) ≡ base
based_at base None some = absurd (some refl)
based_at base (Some block) some = refl

pages_at : (base : ℕ) (o : Option MemoryBlock) → pages_of_block (at_base base o) ≡ pages_of_block o
pages_at base None = refl
pages_at base (Some block) = refl

pub can_extend : (blocks : List (Option MemoryBlock)) (budget place from old base pages kept : ℕ) →
    Sizing blocks budget place from old base pages kept → HasPages (cut_blocks blocks place kept) place from kept →
    CanHold (moved_blocks (cut_blocks blocks place kept) place base) budget place base kept pages
can_extend blocks budget place from old base pages kept s has =
    let cut = cut_blocks blocks place kept in
    let x = at_base base (held cut place) in
    let is = s.few in let some = s.some in let more = s.can.some in let room = s.can.room in
    let within = has.within in let handles = has.handles in let count = has.count in
    let here : held (slice_set cut place x) place ≡ x = get_or-set_same cut place x None (omega arith) in
    let now : pages_of_block x ≡ kept = pages_at base (held cut place) ∙ has.count in
    let own : pages_of_block (held blocks place) ≡ old = s.has.count in
    let own_handles = s.has.handles in
    let here_cut : held cut place ≡ shorter (held blocks place) kept = get_or-set_same blocks place _ None (omega arith) in
    let shorter_count : pages_of_block (shorter (held blocks place) kept) ≡ kept = ap pages_of_block (sym here_cut) ∙ has.count in
    let first : pages_of_blocks cut + pages_of_block (held blocks place)
    ≡ pages_of_blocks blocks + pages_of_block (shorter (held blocks place) kept) =
    pages_put blocks place (shorter (held blocks place) kept) (omega arith) in
    let second : pages_of_blocks (slice_set cut place x) + pages_of_block (held cut place) ≡ pages_of_blocks cut + pages_of_block x =
    pages_put cut place x (omega arith) in
    record {
      handles = length-set cut place x ∙ has.handles;
      within = has.within;
      pages = ap pages_of_block here ∙ now;
      based = λ any. ap base_of_block here ∙ based_at base (held cut place) (λ none. any (sym now ∙ none));
      whole = s.can.whole;
      above = s.can.above;
      below = s.can.below;
      apart = λ other block ne e. s.can.apart (suc other) block (λ same. ne (omega arith))
          (sym (get_or-set_other cut place other x None ne ∙ get_or-set_other blocks place other _ None ne) ∙ e);
      room = omega (arith, now, own, shorter_count, first, second);
    }

-- the block in the end
resized_block : (blocks : List (Option MemoryBlock)) (budget place from old base pages kept : ℕ) → SoundBlocks blocks budget →
    Sizing blocks budget place from old base pages kept → (o : Option MemoryBlock) → held blocks place ≡ o →
    block_with_zero_pages base (at_base base (shorter o kept)) (pages - kept) ≡ sized_block base pages o
resized_block blocks budget place from old base pages kept sound s None e = absurd (s.can.held e)
resized_block blocks budget place from old base pages kept sound s (Some block) e =
    let is = s.few in let some = s.some in let more = s.can.some in
    let was = sound.each (suc place) block e in
    let count : length block.locks ≡ old = sym (ap pages_of_block e) ∙ s.has.count in
    resized_is base pages kept block was.pages (omega arith) (way count)
  where
    way : length block.locks ≡ old → ((kept ≡ pages) × (pages ≤ length block.locks))
        ⊎ ((kept ≡ length block.locks) × (length block.locks ≤ pages))
    way count = let is = s.few in grind arith

pub sized_blocks : (blocks : List (Option MemoryBlock)) (budget place from old base pages kept : ℕ) → SoundBlocks blocks budget →
    Sizing blocks budget place from old base pages kept →
    (λ (bs : List (Option MemoryBlock)). slice_set bs place (block_with_zero_pages base (slice_index_or bs place None) (pages - kept)))
    (moved_blocks (cut_blocks blocks place kept) place base)
    ≡ slice_set blocks place (sized_block base pages (slice_index_or blocks place None))
sized_blocks blocks budget place from old base pages kept sound s =
    let within = s.has.within in let handles = s.has.handles in
    let cut = cut_blocks blocks place kept in
    let x = at_base base (held cut place) in
    let long : length cut ≡ length blocks = length-set blocks place _ in
    let here_cut : held cut place ≡ shorter (held blocks place) kept = get_or-set_same blocks place _ None (omega arith) in
    let here : held (slice_set cut place x) place ≡ x = get_or-set_same cut place x None (omega arith) in
    set-set cut place x _ ∙ set-set blocks place _ _
    ∙ ap (λ (y : Option MemoryBlock). slice_set blocks place y)
    (ap (λ (y : Option MemoryBlock). block_with_zero_pages base y (pages - kept)) (here ∙ ap (at_base base) here_cut)
    ∙ resized_block blocks budget place from old base pages kept sound s (held blocks place) refl)
