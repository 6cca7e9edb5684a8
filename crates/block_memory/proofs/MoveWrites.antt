-- A block that moves to another linear address: the writes, and what a run of bytes leaves that moves; the world after them, that the
-- memory still holds one, and what stays.
use Rattle.std.proofs.Common.{◌≡◌, ℕ, ◌+◌, ◌-◌, ◌*◌, ◌<◌, ◌≤◌, ◌⊎◌, List, length, slice_index, ap, ◌∙◌, arith, ◌≢◌, zero, suc, inl, inr}
use Rattle.std.proofs.{Common.{slice_index_or, slice_set, refl, sym, subst, add_assoc, Option, None}, lemmas.Bool.{lt-ltb, le-ltb}}
use Rattle.std.proofs.lemmas.Grind.{same_number_lists}
use Rattle.client_world.specs.declared.host_frames.TheConstants.{LOCK_COUNT_SIZE, PAGE_ENTRY_SIZE, PAGE_SIZE, BLOCK_TABLES, LOCK_COUNTS}
use Rattle.client_world.specs.declared.host_frames.TheConstants.{BLOCK_TABLE_FRAMES, LOCK_COUNT_FRAMES}
use Rattle.client_world.specs.{declared.memory_map.TheConstants.{BLOCK_REGION_PAGES}, declared.limits.TheConstants.{MAX_BLOCKS}}
use Rattle.client_world.specs.{declared.place.Place.{Place}, declared.place.Place.TheVariants.{Dos, Block, Host, Nothing}}
use Rattle.client_world.specs.{Access.{IsHeldIn}, World.{MemoryBlock}}
use Rattle.guest_ram.specs.{Bytes.{put, region, dword, word_of}, Listed.{copies}}
use Rattle.guest_ram.proofs.{ListedLaws.{length-copies, at_copies}, PutLaws.{length-put, length-region, at_region, put_away, put_within}}
use Rattle.guest_ram.proofs.PutLaws.{same_dword}
use Rattle.block_memory.specs.{BlockSizes.{vacant_count, vacant_start, after_slide, CanMove, HasPages, at_base}, BlockChanges.{blocks_held}}
use Rattle.host_memory.specs.{Layout.{entry_of, lock_of, world_of, address_of, handles_part, base_of, pages_of, held_block}, Holds.{Holds}}
use Rattle.block_memory.proofs.BlockMoves.{GoAlong, MayMove, HasMoved, moved_entries, moved_locks, moved_blocks, moved_place}
use Rattle.block_memory.proofs.{BlockMore.{blocks_of}, PageChanges.{ChangesBlocks, block_reads, pages_read, base_read, world_after}}
use Rattle.block_memory.proofs.{PageChanges.{held_byte}, PageSums.{same_pages}, PageMore.{BlockParts, first_page}, PageParts.{block_parts}}
use Rattle.block_memory.proofs.PageParts.{HasSizes, with_row, row_pages, row_base, other_pages, other_base, keeps_handles}
use Rattle.block_memory.proofs.{PageWrites.{with_block_row, row_has, host_of, own_host, sizes_of}, RegionPages.{HasHost}}
use Rattle.host_memory.proofs.{BlockRows.{HasRanges, IsRange, held_base, length-held_bytes, row_there}, Parts.{HasParts, MemoryParts}}
use Rattle.host_memory.proofs.{Parts.{HoldsParts, parts_of, holds_by, holds_parts}, PutParts.{Locks, Tables, put_part}}

-- the bytes that are left are those of before which aren't among those of after
record Leaves (from to n at count : ℕ) : Type 0 where
  low : from ≤ at
  high : at + count ≤ from + n
  off : (at + count ≤ to) ⊎ (to + n ≤ at)
  covers : (k : ℕ) → from ≤ k → k < from + n → (k < to) ⊎ (to + n ≤ k) → (at ≤ k) × (k < at + count)

leaves : (from to n : ℕ) → Leaves from to n (vacant_start from to n) (vacant_count from to n)
leaves from to n = grind (arith, le-ltb, lt-ltb)

-- both runs are inside
pub record Inside (b : List ℕ) (from to n : ℕ) : Type 0 where
  pub source : from + n ≤ length b
  pub target : to + n ≤ length b

pub slid_there : (b : List ℕ) (from to n k : ℕ) → Inside b from to n → k < n →
    slice_index (after_slide b from to n) (to + k) ≡ slice_index b (from + k)
unfolding after_slide
slid_there b from to n k inside less = grind (arith, at_region, leaves, length-copies, length-region, put_away, put_within)

pub slid_left : (b : List ℕ) (from to n k : ℕ) → Inside b from to n → from ≤ k → k < from + n → (k < to) ⊎ (to + n ≤ k) →
    slice_index (after_slide b from to n) k ≡ 0
unfolding after_slide
slid_left b from to n k inside low high off =
    let source = inside.source in
    let l = leaves from to n in
    let here = l.covers k low high off in
    let a = here.0 in let c = here.1 in let end = l.high in
    put_within (put b to (region b from n)) (vacant_start from to n) (copies (vacant_count from to n) 0) (k - vacant_start from to n) k
    (omega (arith, length-copies (vacant_count from to n) 0, length-put b to (region b from n)))
    (omega (arith, length-copies (vacant_count from to n) 0)) (omega arith)
    ∙ at_copies (vacant_count from to n) 0 (k - vacant_start from to n) (omega arith)

pub slid_other : (b : List ℕ) (from to n k : ℕ) → Inside b from to n → (k < from) ⊎ (from + n ≤ k) → (k < to) ⊎ (to + n ≤ k) →
    slice_index (after_slide b from to n) k ≡ slice_index b k
unfolding after_slide
slid_other b from to n k inside away off = grind (arith, leaves, length-copies, length-region, put_away)

-- doublewords go along
zero_dword : (b : List ℕ) (at : ℕ) → ((k : ℕ) → k < 4 → slice_index b (at + k) ≡ 0) → dword b at ≡ 0
unfolding dword
zero_dword b at h = grind arith

pub entries_go : (b : List ℕ) (from to n : ℕ) → length b ≡ PAGE_ENTRY_SIZE * BLOCK_REGION_PAGES → from + n ≤ BLOCK_REGION_PAGES →
    to + n ≤ BLOCK_REGION_PAGES →
    GoAlong (entry_of b) (entry_of (after_slide b (PAGE_ENTRY_SIZE * from) (PAGE_ENTRY_SIZE * to) (PAGE_ENTRY_SIZE * n))) from to n
entries_go b from to n long source target = record {
  there = λ i less. same_dword (after_slide b (PAGE_ENTRY_SIZE * from) (PAGE_ENTRY_SIZE * to) (PAGE_ENTRY_SIZE * n)) b
      (PAGE_ENTRY_SIZE * (to + i)) (PAGE_ENTRY_SIZE * (from + i)) (λ k small.
      ap (slice_index (after_slide b (PAGE_ENTRY_SIZE * from) (PAGE_ENTRY_SIZE * to) (PAGE_ENTRY_SIZE * n)))
      (let e : PAGE_ENTRY_SIZE * (to + i) + k ≡ PAGE_ENTRY_SIZE * to + (PAGE_ENTRY_SIZE * i + k) = omega arith in e)
      ∙ slid_there b (PAGE_ENTRY_SIZE * from) (PAGE_ENTRY_SIZE * to) (PAGE_ENTRY_SIZE * n) (PAGE_ENTRY_SIZE * i + k) inside (omega arith)
      ∙ ap (slice_index b) (let e : PAGE_ENTRY_SIZE * from + (PAGE_ENTRY_SIZE * i + k) ≡ PAGE_ENTRY_SIZE * (from + i) + k =
      omega arith in e));
  left = λ page small is off. (grind (arith, inside, slid_left, zero_dword));
  others = λ page small away off. same_dword (after_slide b (PAGE_ENTRY_SIZE * from) (PAGE_ENTRY_SIZE * to) (PAGE_ENTRY_SIZE * n)) b
      (PAGE_ENTRY_SIZE * page) (PAGE_ENTRY_SIZE * page) (grind (arith, inside, slid_other));
}
  where
    inside : Inside b (PAGE_ENTRY_SIZE * from) (PAGE_ENTRY_SIZE * to) (PAGE_ENTRY_SIZE * n)
    inside = record { source = omega arith; target = omega arith }

-- and words
same_word : (b c : List ℕ) (p q : ℕ) → ((i : ℕ) → i < 2 → slice_index b (p + i) ≡ slice_index c (q + i)) → word_of b p ≡ word_of c q
same_word b c p q h = grind arith

zero_word : (b : List ℕ) (at : ℕ) → ((k : ℕ) → k < 2 → slice_index b (at + k) ≡ 0) → word_of b at ≡ 0
zero_word b at h = grind arith

pub locks_go : (b : List ℕ) (from to n : ℕ) → length b ≡ LOCK_COUNT_SIZE * BLOCK_REGION_PAGES → from + n ≤ BLOCK_REGION_PAGES →
    to + n ≤ BLOCK_REGION_PAGES →
    GoAlong (lock_of b) (lock_of (after_slide b (LOCK_COUNT_SIZE * from) (LOCK_COUNT_SIZE * to) (LOCK_COUNT_SIZE * n))) from to n
locks_go b from to n long source target = record {
  there = λ i less. same_word (after_slide b (LOCK_COUNT_SIZE * from) (LOCK_COUNT_SIZE * to) (LOCK_COUNT_SIZE * n)) b
      (LOCK_COUNT_SIZE * (to + i)) (LOCK_COUNT_SIZE * (from + i)) (λ k small.
      ap (slice_index (after_slide b (LOCK_COUNT_SIZE * from) (LOCK_COUNT_SIZE * to) (LOCK_COUNT_SIZE * n)))
      (let e : LOCK_COUNT_SIZE * (to + i) + k ≡ LOCK_COUNT_SIZE * to + (LOCK_COUNT_SIZE * i + k) = omega arith in e)
      ∙ slid_there b (LOCK_COUNT_SIZE * from) (LOCK_COUNT_SIZE * to) (LOCK_COUNT_SIZE * n) (LOCK_COUNT_SIZE * i + k) inside (omega arith)
      ∙ ap (slice_index b) (let e : LOCK_COUNT_SIZE * from + (LOCK_COUNT_SIZE * i + k) ≡ LOCK_COUNT_SIZE * (from + i) + k =
      omega arith in e));
  left = λ page small is off. (grind (arith, inside, slid_left, zero_word));
  others = λ page small away off. same_word (after_slide b (LOCK_COUNT_SIZE * from) (LOCK_COUNT_SIZE * to) (LOCK_COUNT_SIZE * n)) b
      (LOCK_COUNT_SIZE * page) (LOCK_COUNT_SIZE * page) (grind (arith, inside, slid_other));
}
  where
    inside : Inside b (LOCK_COUNT_SIZE * from) (LOCK_COUNT_SIZE * to) (LOCK_COUNT_SIZE * n)
    inside = record { source = omega arith; target = omega arith }

-- ---- a block that moves

region_region : (b : List ℕ) (lo n at m : ℕ) → lo + n ≤ length b → at + m ≤ n → region b (lo + at) m ≡ region (region b lo n) at m
region_region b lo n at m room within = grind (arith, add_assoc, at_region, length-region, same_number_lists)

shift_vacant : (lo from to n : ℕ) → vacant_count (lo + from) (lo + to) n ≡ vacant_count from to n
shift_vacant lo from to n = grind (arith, le-ltb, lt-ltb)

shift_vacated : (lo from to n : ℕ) → vacant_start (lo + from) (lo + to) n ≡ lo + vacant_start from to n
shift_vacated lo from to n = grind (arith, le-ltb, lt-ltb)

left_inside : (from to n room : ℕ) → from + n ≤ room → vacant_start from to n + vacant_count from to n ≤ room
left_inside from to n room fits = grind (arith, le-ltb, lt-ltb)

-- a run moves within a part of the memory. The parts with other bytes there are `with_part` of these
slid_part : (b : List ℕ) (budget lo room from to n : ℕ) (with_part : List ℕ → MemoryParts) → lo + room ≤ length b → from + n ≤ room →
    to + n ≤ room → HasParts b budget (with_part (region b lo room)) →
    ((c ys xs : List ℕ) (at : ℕ) → HasParts c budget (with_part ys) → at + length xs ≤ room →
    HasParts (put c (lo + at) xs) budget (with_part (put ys at xs))) →
    HasParts (after_slide b (lo + from) (lo + to) n) budget (with_part (after_slide (region b lo room) from to n))
unfolding after_slide
slid_part b budget lo room from to n with_part within source target has puts =
    let xs = region (region b lo room) from n in
    let long : length xs ≡ n = length-region (region b lo room) from n (omega (arith, length-region b lo room within)) in
    rw (shift_vacated lo from to n, shift_vacant lo from to n, region_region b lo room from n within source)
    (puts (put b (lo + to) xs) (put (region b lo room) to xs) (copies (vacant_count from to n) 0) (vacant_start from to n)
    (puts b (region b lo room) xs to has (omega arith))
    (omega (arith, length-copies (vacant_count from to n) 0, left_inside from to n room source)))

-- entries move in the tables
slid_tables : (b : List ℕ) (budget from to n : ℕ) (p : MemoryParts) → HasParts b budget p → from + n ≤ PAGE_SIZE * BLOCK_TABLE_FRAMES →
    to + n ≤ PAGE_SIZE * BLOCK_TABLE_FRAMES →
    HasParts (after_slide b (PAGE_SIZE * BLOCK_TABLES + from) (PAGE_SIZE * BLOCK_TABLES + to) n) budget
    (record p { tables = after_slide p.tables from to n })
slid_tables b budget from to n p has source target =
    subst (λ (q : MemoryParts). HasParts (after_slide b (PAGE_SIZE * BLOCK_TABLES + from) (PAGE_SIZE * BLOCK_TABLES + to) n) budget
    (record q { tables = after_slide q.tables from to n })) has.are
    (slid_part b budget (PAGE_SIZE * BLOCK_TABLES) (PAGE_SIZE * BLOCK_TABLE_FRAMES) from to n
    (λ ys. record (parts_of b budget) { tables = ys }) (omega (arith, has.size)) source target (record { size = has.size; are = refl })
    (λ c ys xs at h fits. put_part Tables c budget _ _ at xs h (omega arith) fits))

-- and words in the lock counts
slid_locks : (b : List ℕ) (budget from to n : ℕ) (p : MemoryParts) → HasParts b budget p → from + n ≤ PAGE_SIZE * LOCK_COUNT_FRAMES →
    to + n ≤ PAGE_SIZE * LOCK_COUNT_FRAMES →
    HasParts (after_slide b (PAGE_SIZE * LOCK_COUNTS + from) (PAGE_SIZE * LOCK_COUNTS + to) n) budget
    (record p { locks = after_slide p.locks from to n })
slid_locks b budget from to n p has source target =
    subst (λ (q : MemoryParts). HasParts (after_slide b (PAGE_SIZE * LOCK_COUNTS + from) (PAGE_SIZE * LOCK_COUNTS + to) n) budget
    (record q { locks = after_slide q.locks from to n })) has.are
    (slid_part b budget (PAGE_SIZE * LOCK_COUNTS) (PAGE_SIZE * LOCK_COUNT_FRAMES) from to n
    (λ ys. record (parts_of b budget) { locks = ys }) (omega (arith, has.size)) source target (record { size = has.size; are = refl })
    (λ c ys xs at h fits. put_part Locks c budget _ _ at xs h (omega arith) fits))

-- the parts after a move
abbrev pub moved_parts : MemoryParts → ℕ → ℕ → ℕ → ℕ → MemoryParts
moved_parts p place old base n = record p {
  handles = with_row p.handles place base n;
  tables = after_slide p.tables (PAGE_ENTRY_SIZE * first_page old) (PAGE_ENTRY_SIZE * first_page base) (PAGE_ENTRY_SIZE * n);
  locks = after_slide p.locks (LOCK_COUNT_SIZE * first_page old) (LOCK_COUNT_SIZE * first_page base) (LOCK_COUNT_SIZE * n);
}

pub moved_more : (p : MemoryParts) (budget place old base n : ℕ) → HasSizes p budget → MayMove (block_parts p) place base n →
    base_of p.handles place ≡ old → HasMoved (block_parts p) (block_parts (moved_parts p place old base n)) place base n
moved_more p budget place old base n sizes may based = grind (arith, entries_go, locks_go, other_base, other_pages, row_base, row_pages)

pub moved_holds : (p : MemoryParts) (budget place old base n : ℕ) → HasSizes p budget → HoldsParts p budget →
    MayMove (block_parts p) place base n → base_of p.handles place ≡ old → HoldsParts (moved_parts p place old base n) budget
moved_holds p budget place old base n sizes h may based =
    let m = moved_more p budget place old base n sizes may based in
    let handles = keeps_handles p.handles place base n sizes.handles may.within (λ none. absurd (may.some none)) h.handles in
    let blocks = moved_entries (block_parts p) (block_parts (moved_parts p place old base n)) budget place base n m h.blocks in
    let count = h.count ∙ sym (same_pages p.handles (with_row p.handles place base n) (λ other within. grind (arith, other_pages))) in
    let locks = moved_locks (block_parts p) (block_parts (moved_parts p place old base n)) place base n m h.locks in
    assumption

-- the writes
abbrev pub moved : List ℕ → ℕ → ℕ → ℕ → ℕ → List ℕ
moved b place old base n = with_block_row
    (after_slide (after_slide b (PAGE_SIZE * BLOCK_TABLES + PAGE_ENTRY_SIZE * first_page old)
    (PAGE_SIZE * BLOCK_TABLES + PAGE_ENTRY_SIZE * first_page base) (PAGE_ENTRY_SIZE * n))
    (PAGE_SIZE * LOCK_COUNTS + LOCK_COUNT_SIZE * first_page old) (PAGE_SIZE * LOCK_COUNTS + LOCK_COUNT_SIZE * first_page base)
    (LOCK_COUNT_SIZE * n))
    place base n

pub moved_has : (b : List ℕ) (budget place old base n : ℕ) → HasHost b budget → place < MAX_BLOCKS → IsRange old n → IsRange base n →
    HasParts (moved b place old base n) budget (moved_parts (parts_of b budget) place old base n)
moved_has b budget place old base n host within own range =
    let own_from = own.from in let own_to = own.to in let from = range.from in let to = range.to in
    let start = own_host b budget host in
    (row_has _ budget _ place base n (record {
      has = slid_locks _ budget _ _ (LOCK_COUNT_SIZE * n) _ (slid_tables b budget _ _ (PAGE_ENTRY_SIZE * n) _ start.has (omega arith)
          (omega arith)) (omega arith) (omega arith);
      most = host.most;
      fixed = host.fixed;
    }) within).has

-- what the world says of the blocks, the rows say
pub may_move : (s : BlockParts) (place base n : ℕ) → HasRanges s.handles → CanMove (blocks_of s) place base n → MayMove s place base n
may_move s place base n ranges can =
    let pages = pages_read s place n can.within can.count in
    let some : pages_of s.handles place ≢ 0 = (λ none. can.some (sym pages ∙ none)) in
    record {
      within = can.within;
      some = can.some;
      pages = pages;
      own = subst (λ (k : ℕ). IsRange (base_of s.handles place) k) pages (ranges.each place can.within some);
      range = record { whole = can.whole; from = can.above; to = can.below };
      ranges = λ other inside ne more. ranges.each other inside more;
      beside = λ other inside ne more. grind arith;
      apart = λ other inside ne more. (
          let own_base = held_base s.handles s.tables s.locks s.frames other in
          let long = length-held_bytes s.handles s.tables s.locks s.frames other in
          elim (can.apart other (held_block s.handles s.tables s.locks s.frames other) ne
          (block_reads s other inside ∙ row_there s.handles s.tables s.locks s.frames other more)) [
            | inl far ↦ inl (omega arith)
            | inr near ↦ inr (omega arith)
          ]);
    }

-- places keep their addresses
moved_addresses : (b c : List ℕ) (old new : BlockParts) (budget place base n : ℕ) → HasMoved old new place base n →
    block_parts (parts_of b budget) ≡ old → block_parts (parts_of c budget) ≡ new →
    (p : Place) → IsHeldIn (blocks_of old) p → address_of c p ≡ address_of b p
unfolding address_of
moved_addresses b c old new budget place base n m e f (Dos at) held = refl
moved_addresses b c old new budget place base n m e f (Block zero at) held = absurd held
moved_addresses b c old new budget place base n m e f (Block (suc other) at) held = grind (arith, held_byte, moved_place)
moved_addresses b c old new budget place base n m e f Host held = absurd held
moved_addresses b c old new budget place base n m e f Nothing held = absurd held

pub moved_changes : (b : List ℕ) (budget place old base n : ℕ) → Holds b budget → HasRanges (handles_part b) →
    HasPages (blocks_held b budget) place old n → CanMove (blocks_held b budget) place base n →
    ChangesBlocks b (moved b place old base n) budget
    (slice_set (blocks_held b budget) place (at_base base (slice_index_or (blocks_held b budget) place None)))
moved_changes b budget place old base n holds ranges has can =
    let p = parts_of b budget in
    let s = block_parts p in
    let host = host_of b budget holds in
    let sizes = sizes_of b budget host in
    let h = holds_parts b budget holds in
    let may = may_move s place base n ranges can in
    let based : base_of (handles_part b) place ≡ old =
    base_read s place old can.within (λ none. can.some (sym may.pages ∙ none)) (has.based can.some) in
    let q = moved_parts p place old base n in
    let e = moved_has b budget place old base n host can.within (subst (λ (x : ℕ). IsRange x n) based may.own) may.range in
    let m = moved_more p budget place old base n sizes may based in
    let blocks : blocks_of (block_parts q)
    ≡ slice_set (blocks_held b budget) place (at_base base (slice_index_or (blocks_held b budget) place None)) =
    moved_blocks s (block_parts q) place base n m
    ∙ ap (λ (o : Option MemoryBlock). slice_set (blocks_held b budget) place (at_base base o)) (sym (block_reads s place can.within)) in
    record {
      holds = holds_by (moved b place old base n) budget q e holds.most
          (moved_holds p budget place old base n sizes h may based);
      are = ap (λ (x : MemoryParts). blocks_of (block_parts x)) e.are ∙ blocks;
      world = λ mode regs vif width. world_after b (moved b place old base n) budget q e refl mode regs vif width
          ∙ ap (λ (bs : List (Option MemoryBlock)). record (world_of b budget mode regs vif width) { blocks = bs }) blocks;
      rows = ap (λ (x : MemoryParts). x.rows) e.are;
      addresses = λ it before after.
          moved_addresses b (moved b place old base n) s (block_parts q) budget place base n m refl (ap block_parts e.are) it before;
    }
