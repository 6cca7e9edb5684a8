-- Blocks after each service are sound, and hold bytes.
use Rattle.std.proofs.Common.{◌≡◌, ◌≤◌, ◌<◌, ◌+◌, ◌-◌, ◌*◌, ◌/◌, inl, inr, ℕ, zero, suc, List, ◌++◌, length, min, take, slice_index}
use Rattle.std.proofs.Common.{slice_index_or, slice_set, refl, sym, ◌∙◌, subst, arith, Option, None, Some, nat_eq, length-append}
use Rattle.std.proofs.{lemmas.Bool.{cases_Bool, cases_lt}, lemmas.List.{get_or_append_left, get_or_past, get_or-append_right, get_or-take}}
use Rattle.std.proofs.lemmas.List.{length-take, set_past}
use Rattle.client_world.specs.{declared.host_frames.TheConstants.{PAGE_SIZE}, declared.limits.TheConstants.{MAX_BLOCKS}}
use Rattle.client_world.specs.{declared.limits.TheConstants.{GREATEST_LOCK_COUNT}, declared.place.Place.{Place}}
use Rattle.client_world.specs.{declared.place.Place.TheVariants.{Dos, Block, Host, Nothing}, Soundness.{AreApart, HoldBytes, IsBlock}}
use Rattle.client_world.specs.{Soundness.{SoundBlocks}, World.{MemoryBlock, block_at, with_block_at}}
use Rattle.guest_ram.specs.Listed.{zeros}
use Rattle.guest_ram.proofs.ListedLaws.{at_zeros, length-zeros}
use Rattle.block_memory.specs.BlockSizes.{CanMake, CanSize, fresh_block, lock_in, sized_block, with_lock, blocks_with_zero_page}
use Rattle.block_memory.proofs.SizedSound.{bytes_put, locked_fits, locked_sound, sound_put, zeroed_fits, zeroed_sound}
use Rattle.block_services.specs.{declared.regions.Change.{Change}, declared.regions.Change.TheVariants.{Lock, Unlock, Discard}}
use Rattle.block_services.specs.Pages.{changed, changed_page, page_place}

pub record Good (blocks : List (Option MemoryBlock)) (budget : ℕ) : Type 0 where
  pub sound : SoundBlocks blocks budget
  pub fits : HoldBytes blocks

-- lists with zeros after them

zero_at : (n k : ℕ) → slice_index (zeros n) k ≡ 0
zero_at n k = elim (cases_lt k n) [
  | inl inside ↦ at_zeros n k inside
  | inr past ↦ get_or_past (zeros n) k 0 (omega (arith, length-zeros n))
]

few_kept : (xs : List ℕ) (kept n most at : ℕ) → ((k : ℕ) → slice_index xs k ≤ most) → slice_index (take kept xs ++ zeros n) at ≤ most
few_kept xs kept n most at few = elim (cases_lt at (length (take kept xs))) [
  | inl front ↦ (let less : at < kept = omega (arith, length-take kept xs) in
      rw (get_or_append_left (take kept xs) (zeros n) 0 at front, get_or-take kept xs at 0 less) (few at))
  | inr back ↦ rw (
    get_or-append_right (take kept xs) (zeros n) (length (take kept xs)) at 0 refl back,
    zero_at n (at - length (take kept xs)),
  ) (omega arith)
]

long_kept : (xs : List ℕ) (kept n : ℕ) → length (take kept xs ++ zeros n) ≡ min kept (length xs) + n
long_kept xs kept n = length-append (take kept xs) (zeros n) ∙ (let t = length-take kept xs in let z = length-zeros n in omega arith)

same_some : (one other : MemoryBlock) → Some one ≡ Some other → one ≡ other
same_some one other e = cc

-- a block made

fresh_is : (blocks : List (Option MemoryBlock)) (budget base pages : ℕ) → CanMake blocks budget base pages →
    IsBlock (fresh_block base pages)
fresh_is blocks budget base pages can =
    let some = can.some in let below = can.below in
    let bytes = length-zeros (PAGE_SIZE * pages) in let locks = length-zeros pages in
    record {
      some = omega arith;
      pages = omega arith;
      whole = can.whole;
      from = can.above;
      to = omega arith;
      locks = λ page. (let z = zero_at pages page in omega arith);
    }

pub made_good : (blocks : List (Option MemoryBlock)) (budget handle base pages : ℕ) → Good blocks budget → 0 < handle →
    handle ≤ MAX_BLOCKS → CanMake blocks budget base pages → Good (with_block_at blocks handle (Some (fresh_block base pages))) budget
made_good blocks budget zero base pages g some most can = absurd (omega arith)
made_good blocks budget (suc place) base pages g some most can =
    let x = fresh_block base pages in
    let long = g.sound.handles in
    let bytes = length-zeros (PAGE_SIZE * pages) in let locks = length-zeros pages in let room = can.room in
    record {
      sound = sound_put blocks budget place (Some x) g.sound (omega arith)
          (λ block e. subst IsBlock (same_some x block e) (fresh_is blocks budget base pages can))
          (λ block e other held ne there. subst (λ (b : MemoryBlock). AreApart b held) (same_some x block e) (apart other held there))
          (omega arith);
      fits = bytes_put blocks place (Some x) (omega arith) g.fits (λ block e at. (
          let z = zero_at (PAGE_SIZE * pages) at in
          subst (λ (b : MemoryBlock). slice_index b.bytes at < 0x100) (same_some x block e) (omega arith)));
    }
  where
    apart : (other : ℕ) (held : MemoryBlock) → slice_index_or blocks other None ≡ Some held → AreApart (fresh_block base pages) held
    apart other held there =
        let bytes = length-zeros (PAGE_SIZE * pages) in
        elim (can.apart (suc other) held there) [ inl before ↦ inl (omega arith) | inr behind ↦ inr behind ]

-- a block freed

pub freed_good : (blocks : List (Option MemoryBlock)) (budget handle : ℕ) → Good blocks budget → handle ≤ MAX_BLOCKS →
    Good (with_block_at blocks handle None) budget
freed_good blocks budget zero g most = g
freed_good blocks budget (suc place) g most =
    let long = g.sound.handles in let within = g.sound.within in
    record {
      sound = sound_put blocks budget place None g.sound (omega arith) (λ block e. absurd cc) (λ block e other held ne there. absurd cc)
          (omega arith);
      fits = bytes_put blocks place None (omega arith) g.fits (λ block e at. absurd cc);
    }

-- a block of another size

abbrev sized : ℕ → ℕ → MemoryBlock → MemoryBlock
sized base pages block = record {
  base = base;
  bytes = take (PAGE_SIZE * pages) block.bytes ++ zeros (PAGE_SIZE * (pages - length block.locks));
  locks = take pages block.locks ++ zeros (pages - length block.locks);
}

sized_pages : (base pages : ℕ) (block : MemoryBlock) → length (sized base pages block).locks ≡ pages
sized_pages base pages block = long_kept block.locks pages (pages - length block.locks) ∙ omega arith

sized_bytes : (base pages : ℕ) (block : MemoryBlock) → length block.bytes ≡ PAGE_SIZE * length block.locks →
    length (sized base pages block).bytes ≡ PAGE_SIZE * pages
sized_bytes base pages block size = long_kept block.bytes (PAGE_SIZE * pages) (PAGE_SIZE * (pages - length block.locks)) ∙ omega arith

sized_good : (blocks : List (Option MemoryBlock)) (budget place base pages : ℕ) (own : MemoryBlock) → Good blocks budget →
    place < MAX_BLOCKS → slice_index_or blocks place None ≡ Some own → CanSize blocks budget (suc place) base pages →
    Good (slice_set blocks place (Some (sized base pages own))) budget
sized_good blocks budget place base pages own g within there can =
    let x = sized base pages own in
    let was = g.sound.each (suc place) own there in
    let locks = sized_pages base pages own in let bytes = sized_bytes base pages own was.pages in
    let long = g.sound.handles in let some = can.some in let below = can.below in let room = can.room in
    let is : IsBlock x = record {
      some = omega arith;
      pages = omega arith;
      whole = can.whole;
      from = can.above;
      to = omega arith;
      locks = λ page. few_kept own.locks pages (pages - length own.locks) GREATEST_LOCK_COUNT page was.locks;
    } in
    record {
      sound = sound_put blocks budget place (Some x) g.sound within
          (λ block e. subst IsBlock (same_some x block e) is)
          (λ block e other held ne there. subst (λ (b : MemoryBlock). AreApart b held) (same_some x block e)
          (elim (can.apart (suc other) held (λ z. ne (omega arith)) there) [ inl before ↦ inl (omega arith) | inr behind ↦ inr behind ]))
          (omega arith);
      fits = bytes_put blocks place (Some x) (omega arith) g.fits (λ block e at. (
          let few = few_kept own.bytes (PAGE_SIZE * pages) (PAGE_SIZE * (pages - length own.locks)) 0xFF at
          (λ k. let b = g.fits (suc place) own there k in omega arith) in
          subst (λ (b : MemoryBlock). slice_index b.bytes at < 0x100) (same_some x block e) (omega arith)));
    }

resized_at_block : (blocks : List (Option MemoryBlock)) (budget place base pages : ℕ) (own : Option MemoryBlock) → Good blocks budget →
    place < MAX_BLOCKS → slice_index_or blocks place None ≡ own → CanSize blocks budget (suc place) base pages →
    Good (slice_set blocks place (sized_block base pages own)) budget
unfolding sized_block
resized_at_block blocks budget place base pages None g within there can = absurd (can.held there)
resized_at_block blocks budget place base pages (Some own) g within there can =
    sized_good blocks budget place base pages own g within there can

pub resized_good : (blocks : List (Option MemoryBlock)) (budget handle base pages : ℕ) → Good blocks budget → handle ≤ MAX_BLOCKS →
    CanSize blocks budget handle base pages → Good (with_block_at blocks handle (sized_block base pages (block_at blocks handle))) budget
resized_good blocks budget zero base pages g most can = g
resized_good blocks budget (suc place) base pages g most can =
    resized_at_block blocks budget place base pages (slice_index_or blocks place None) g (omega arith) refl can

-- pages locked, unlocked and discarded

locked_good : (blocks : List (Option MemoryBlock)) (budget : ℕ) (p : Place) (n : ℕ) → Good blocks budget → n ≤ GREATEST_LOCK_COUNT →
    Good (with_lock blocks p n) budget
locked_good blocks budget (Dos at) n g few = g
locked_good blocks budget (Block zero at) n g few = g
locked_good blocks budget (Block (suc place) at) n g few = (let long = g.sound.handles in elim (cases_lt place MAX_BLOCKS) [
  | inl within ↦
      record { sound = locked_sound blocks budget place at n g.sound within few; fits = locked_fits blocks place at n (omega arith) g.fits }
  | inr past ↦ subst (λ (bs : List (Option MemoryBlock)). Good bs budget) (sym (set_past blocks place _ (omega arith))) g
])
locked_good blocks budget Host n g few = g
locked_good blocks budget Nothing n g few = g

zeroed_good : (blocks : List (Option MemoryBlock)) (budget : ℕ) (p : Place) → Good blocks budget →
    Good (blocks_with_zero_page blocks p) budget
zeroed_good blocks budget (Dos at) g = g
zeroed_good blocks budget (Block zero at) g = g
zeroed_good blocks budget (Block (suc place) at) g = (let long = g.sound.handles in elim (cases_lt place MAX_BLOCKS) [
  | inl within ↦
      record { sound = zeroed_sound blocks budget place at g.sound within; fits = zeroed_fits blocks place at (omega arith) g.fits }
  | inr past ↦ subst (λ (bs : List (Option MemoryBlock)). Good bs budget) (sym (set_past blocks place _ (omega arith))) g
])
zeroed_good blocks budget Host g = g
zeroed_good blocks budget Nothing g = g

lock_few : (blocks : List (Option MemoryBlock)) (budget : ℕ) (p : Place) → Good blocks budget → lock_in blocks p ≤ GREATEST_LOCK_COUNT
lock_few blocks budget (Dos at) g = omega arith
lock_few blocks budget (Block number at) g = of_block (block_at blocks number) refl
  where
    of_block : (b : Option MemoryBlock) → block_at blocks number ≡ b → lock_in blocks (Block number at) ≤ GREATEST_LOCK_COUNT
    of_block None e = rw e (omega arith)
    of_block (Some block) e = rw e ((g.sound.each number block e).locks (at / PAGE_SIZE))
lock_few blocks budget Host g = omega arith
lock_few blocks budget Nothing g = omega arith

page_good : (change : Change) (blocks : List (Option MemoryBlock)) (budget : ℕ) (p : Place) → Good blocks budget →
    Good (changed_page change blocks p) budget
page_good Lock blocks budget p g = locked_good blocks budget p _ g (omega arith)
page_good Unlock blocks budget p g = (let few = lock_few blocks budget p g in locked_good blocks budget p _ g (omega arith))
page_good Discard blocks budget p g = elim (cases_Bool (nat_eq (lock_in blocks p) 0)) [
  | inl t ↦ rw t (zeroed_good blocks budget p g)
  | inr t ↦ rw t g
]

pub changed_good : (change : Change) (blocks : List (Option MemoryBlock)) (budget page n : ℕ) → Good blocks budget →
    Good (changed change blocks page n) budget
unfolding changed
changed_good change blocks budget page zero g = g
changed_good change blocks budget page (suc n) g =
    changed_good change (changed_page change blocks (page_place blocks page)) budget (page + 1) n
    (page_good change blocks budget (page_place blocks page) g)
