-- The row of a block, and a block at another linear address and with another size, in the memory.
use Rattle.std.proofs.Common.{◌≡◌, ◌≢◌, ℕ, suc, ◌+◌, ◌-◌, ◌*◌, List, length, length-set, slice_index_or, slice_set, refl, ap, ◌∙◌, sym}
use Rattle.std.proofs.{Common.{subst, arith, Option, None, Some}, lemmas.Bool.{ne_eqb}, lemmas.List.{length-append, length-take}}
use Rattle.std.proofs.lemmas.List.{set-get_or}
use Rattle.std.specs.Prelude.{min}
use Rattle.client_world.specs.declared.host_frames.TheConstants.{PAGE_SIZE, BLOCK_ROWS, BLOCK_TABLES, LOCK_COUNTS, BLOCK_ROW_SIZE}
use Rattle.client_world.specs.{declared.host_frames.TheConstants.{LOCK_COUNT_SIZE, PAGE_ENTRY_SIZE}, Access.{HasByte, bytes_of_block}}
use Rattle.client_world.specs.{Soundness.{SoundBlocks, pages_of_block}, World.{MemoryBlock, base_of_block}}
use Rattle.guest_ram.specs.Bytes.{dword}
use Rattle.guest_ram.proofs.ListedLaws.{length-zeros}
use Rattle.host_memory.specs.{Holds.{Holds}, Layout.{handles_part, pages_of}}
use Rattle.host_memory.proofs.{BlockRows.{row_there, held_base}, Parts.{parts_of}}
use Rattle.block_memory.specs.BlockChanges.{blocks_held, CanHoldIn, CanMoveIn, CanSizeIn, HasBlockIn, HasPagesIn, ReplacesBlock, with_at}
use Rattle.block_memory.specs.BlockSizes.{CanHold, CanMove, HasPages, at_base, block_with_zero_pages, sized_block, shorter, after_slide}
use Rattle.block_memory.proofs.BlockSteps.{becomes, for_budget, held_still, held_there, one_budget, ranges_held, replaced_at, same_blocks}
use Rattle.block_memory.proofs.{MoveWrites.{moved, moved_changes}, PageChanges.{block_reads}, PageSums.{pages_of_row}}
use Rattle.block_memory.proofs.{PageMore.{first_page}, PageParts.{block_parts}, PageWrites.{with_block_row, row_base_read, row_pages_read}}
use Rattle.block_memory.proofs.{BlockRuns.{shorter_none}, SizedCalls.{Sizing, cut_blocks, moved_blocks, can_move, can_extend, sized_blocks}}
use Rattle.block_memory.proofs.SizedSound.{length-bytes, moved_sound, moved_fits}

-- a block that is held has a page
some_pages : (blocks : List (Option MemoryBlock)) (budget place : ℕ) → SoundBlocks blocks budget → (o : Option MemoryBlock) →
    slice_index_or blocks place None ≡ o → o ≢ None → (n : ℕ) → pages_of_block o ≡ n → n ≢ 0
some_pages blocks budget place sound None e there n count = absurd (there refl)
some_pages blocks budget place sound (Some block) e there n count =
    let is = sound.each (suc place) block e in let long = is.pages in let some = is.some in omega arith

-- the two doublewords of a row
pub row_read : (b : List ℕ) (place base pages : ℕ) → HasBlockIn b place → base ≡ dword b (PAGE_SIZE * BLOCK_ROWS + BLOCK_ROW_SIZE * place) →
    pages ≡ dword b (PAGE_SIZE * BLOCK_ROWS + BLOCK_ROW_SIZE * place + 4) → (budget : ℕ) → Holds b budget →
    HasPages (blocks_held b budget) place base pages
row_read b place base pages h e f other holds =
    let s = block_parts (parts_of b h.budget) in
    let handles = handles_part b in
    let blocks = blocks_held b h.budget in
    let first = row_base_read b place base h.within e in
    let second = row_pages_read b place pages h.within f in
    let count : pages_of_block (slice_index_or blocks place None) ≡ pages_of handles place =
    ap pages_of_block (block_reads s place h.within) ∙ pages_of_row s.handles s.tables s.locks s.frames place in
    let some : pages_of handles place ≢ 0 =
    some_pages blocks h.budget place h.holds.sound (slice_index_or blocks place None) refl h.held (pages_of handles place) count in
    let range = (ranges_held b h.budget h.holds).each place h.within some in
    let above = range.from in let below = range.to in
    subst (λ (n : ℕ). HasPages (blocks_held b n) place base pages) (one_budget b h.budget other h.holds.holds holds) (record {
      handles = h.holds.sound.handles;
      within = h.within;
      count = count ∙ sym second;
      based = λ more. ap base_of_block (block_reads s place h.within ∙ row_there s.handles s.tables s.locks s.frames place some)
          ∙ held_base s.handles s.tables s.locks s.frames place ∙ sym first;
      above = omega arith;
      below = omega arith;
    })

-- a block without pages is none
pub dropped : (b c : List ℕ) (place : ℕ) → ReplacesBlock b c place (λ o. shorter o 0) → ReplacesBlock b c place (λ o. None)
dropped b c place replaces budget holds = grind (arith, becomes, shorter_none)

-- ---- another linear address

-- the three writes
moved_is : (b b1 b2 b3 : List ℕ) (place old base n : ℕ) → b1 ≡ after_slide b (PAGE_SIZE * BLOCK_TABLES + PAGE_ENTRY_SIZE * first_page old)
    (PAGE_SIZE * BLOCK_TABLES + PAGE_ENTRY_SIZE * first_page base) (PAGE_ENTRY_SIZE * n) →
    b2 ≡ after_slide b1 (PAGE_SIZE * LOCK_COUNTS + LOCK_COUNT_SIZE * first_page old)
    (PAGE_SIZE * LOCK_COUNTS + LOCK_COUNT_SIZE * first_page base) (LOCK_COUNT_SIZE * n) →
    b3 ≡ with_block_row b2 place base n → b3 ≡ moved b place old base n
moved_is b b1 b2 b3 place old base n e f g = grind arith

pub block_moved : (b b1 b2 b3 : List ℕ) (place old base n : ℕ) → CanMoveIn b place old base n →
    b1 ≡ after_slide b (PAGE_SIZE * BLOCK_TABLES + PAGE_ENTRY_SIZE * first_page old)
    (PAGE_SIZE * BLOCK_TABLES + PAGE_ENTRY_SIZE * first_page base) (PAGE_ENTRY_SIZE * n) →
    b2 ≡ after_slide b1 (PAGE_SIZE * LOCK_COUNTS + LOCK_COUNT_SIZE * first_page old)
    (PAGE_SIZE * LOCK_COUNTS + LOCK_COUNT_SIZE * first_page base) (LOCK_COUNT_SIZE * n) →
    b3 ≡ with_block_row b2 place base n → ReplacesBlock b b3 place (λ o. at_base base o)
block_moved b b1 b2 b3 place old base n g e1 e2 e3 =
    let blocks = blocks_held b g.budget in
    replaced_at b (moved b place old base n) b3 g.budget place (λ o. at_base base o) g.holds (moved_is b b1 b2 b3 place old base n e1 e2 e3)
    (moved_changes b g.budget place old base n g.holds.holds (ranges_held b g.budget g.holds) g.has g.can)
    (moved_sound blocks g.budget place base n g.holds.sound g.can) (moved_fits blocks place base n g.holds.fits g.can)

-- its own linear address
own_base : (o : Option MemoryBlock) (base : ℕ) → base_of_block o ≡ base → at_base base o ≡ o
own_base None base e = refl
own_base (Some block) base e = ap (λ (at : ℕ). Some (record { base = at; bytes = block.bytes; locks = block.locks })) (sym e)

pub block_stays : (b : List ℕ) (place from base n : ℕ) → CanMoveIn b place from base n → from ≡ base →
    ReplacesBlock b b place (λ o. at_base base o)
block_stays b place from base n g same = grind (arith, for_budget, own_base, same_blocks, set-get_or)

-- ---- another size, in three steps

-- all that is known at the start
pub sizing : (b : List ℕ) (place from old base pages kept : ℕ) (g : CanSizeIn b place base pages) →
    HasPages (blocks_held b g.budget) place from old → kept ≡ min old pages →
    Sizing (blocks_held b g.budget) g.budget place from old base pages kept
sizing b place from old base pages kept g has few = record {
  has = has;
  can = g.can;
  some = some_pages (blocks_held b g.budget) g.budget place g.holds.sound (slice_index_or (blocks_held b g.budget) place None) refl
      g.can.held old has.count;
  few = few;
}

-- after the cut the block may move
pub moves_after : (b c : List ℕ) (place from old base pages kept : ℕ) (g : CanSizeIn b place base pages) →
    Sizing (blocks_held b g.budget) g.budget place from old base pages kept → ReplacesBlock b c place (λ o. shorter o kept) →
    HasPagesIn c place from kept → CanMoveIn c place from base kept
moves_after b c place from old base pages kept g s cut has =
    let blocks = blocks_held b g.budget in
    let one = cut g.budget g.holds.holds in
    let own : HasPages (blocks_held c g.budget) place from kept =
    subst (λ (n : ℕ). HasPages (blocks_held c n) place from kept)
    (one_budget c has.budget g.budget has.holds.holds one.after.holds) has.has in
    record {
      budget = g.budget;
      holds = one.after;
      has = own;
      can = subst (λ (bs : List (Option MemoryBlock)). CanMove bs place base kept) (sym one.are)
          (can_move blocks g.budget place from old base pages kept s
          (subst (λ (bs : List (Option MemoryBlock)). HasPages bs place from kept) one.are own));
    }

-- after the move it may grow
pub grows_after : (b c d : List ℕ) (place from old base pages kept : ℕ) (g : CanSizeIn b place base pages) →
    Sizing (blocks_held b g.budget) g.budget place from old base pages kept → ReplacesBlock b c place (λ o. shorter o kept) →
    HasPagesIn c place from kept → ReplacesBlock c d place (λ o. at_base base o) → CanHoldIn d place base kept pages
grows_after b c d place from old base pages kept g s cut has move =
    let blocks = blocks_held b g.budget in
    let one = cut g.budget g.holds.holds in
    let two = move g.budget one.after.holds in
    let own = subst (λ (n : ℕ). HasPages (blocks_held c n) place from kept)
    (one_budget c has.budget g.budget has.holds.holds one.after.holds) has.has in
    record {
      budget = g.budget;
      holds = two.after;
      can = subst (λ (bs : List (Option MemoryBlock)). CanHold bs g.budget place base kept pages)
          (sym (two.are ∙ ap (λ (bs : List (Option MemoryBlock)). moved_blocks bs place base) one.are))
          (can_extend blocks g.budget place from old base pages kept s
          (subst (λ (bs : List (Option MemoryBlock)). HasPages bs place from kept) one.are own));
    }

-- a byte that the block has before and after it has in between
resized_byte : (base pages kept : ℕ) (o : Option MemoryBlock) (old at : ℕ) → length (bytes_of_block o) ≡ PAGE_SIZE * old →
    pages_of_block o ≡ old → kept ≡ min old pages → kept ≢ 0 →
    HasByte o at → HasByte (sized_block base pages o) at → HasByte (shorter o kept) at
unfolding sized_block
resized_byte base pages kept None old at long count few some has later = absurd has
resized_byte base pages kept (Some block) old at long count few some has later =
    grind (arith, length-append, length-take, length-zeros, ne_eqb)

based_byte : (base : ℕ) (o : Option MemoryBlock) (at : ℕ) → HasByte o at → HasByte (at_base base o) at
based_byte base None at has = absurd has
based_byte base (Some block) at has = has

-- and in the end it has that address and size
pub block_resized : (b c d e : List ℕ) (place from old base pages kept : ℕ) (g : CanSizeIn b place base pages) →
    Sizing (blocks_held b g.budget) g.budget place from old base pages kept → ReplacesBlock b c place (λ o. shorter o kept) →
    ReplacesBlock c d place (λ o. at_base base o) →
    ReplacesBlock d e place (λ o. block_with_zero_pages base o (pages - kept)) → ReplacesBlock b e place (λ o. sized_block base pages o)
block_resized b c d e place from old base pages kept g s cut move extend =
    let blocks = blocks_held b g.budget in
    let o = slice_index_or blocks place None in
    let one = cut g.budget g.holds.holds in
    let two = move g.budget one.after.holds in
    let three = extend g.budget two.after.holds in
    let within = s.has.within in let handles = s.has.handles in let few = s.few in let some = s.some in let more = s.can.some in
    let cut_list = cut_blocks blocks place kept in
    let final = slice_set blocks place (sized_block base pages o) in
    let size : length cut_list ≡ length blocks = length-set blocks place _ in
    let moved_now : with_at (blocks_held c g.budget) place (λ x. at_base base x) ≡ moved_blocks cut_list place base =
    ap (λ (bs : List (Option MemoryBlock)). moved_blocks bs place base) one.are in
    let last : with_at (blocks_held d g.budget) place (λ x. block_with_zero_pages base x (pages - kept)) ≡ final =
    ap (λ (bs : List (Option MemoryBlock)). with_at bs place (λ x. block_with_zero_pages base x (pages - kept))) (two.are ∙ moved_now)
    ∙ sized_blocks blocks g.budget place from old base pages kept g.holds.sound s in
    let long : length (bytes_of_block o) ≡ PAGE_SIZE * old = length-bytes blocks g.budget place g.holds.sound o refl
    ∙ ap (λ (n : ℕ). PAGE_SIZE * n) s.has.count in
    let in_cut = held_there blocks place (sized_block base pages o) (shorter o kept) (omega arith)
    (λ at before after. resized_byte base pages kept o old at long s.has.count few (omega arith) before after) in
    let in_moved = held_still cut_list place (at_base base (slice_index_or cut_list place None)) (omega arith)
    (λ at has. based_byte base (slice_index_or cut_list place None) at has) in
    let second = becomes c d g.budget _ _ two moved_now in
    let third = becomes d e g.budget _ _ three last in
    for_budget b e place (λ x. sized_block base pages x) g.budget g.holds.holds (grind (arith, moved_blocks))
