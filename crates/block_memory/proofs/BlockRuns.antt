-- Blocks that grow and shrink page by page: what they are in the end, which places the client holds on the way, and the pages added or
-- removed one after another.
use Rattle.std.proofs.Common.{◌≡◌, ◌≢◌, ℕ, suc, ◌+◌, ◌-◌, ◌*◌, ◌<◌, ◌≤◌, ◌⊎◌, inl, inr, List, [], ◌++◌, length, take, slice_index_or}
use Rattle.std.proofs.Common.{slice_set, refl, ap, ◌∙◌, sym, arith, Option, None, Some, get_or-set_same, append_assoc, length-set, subst}
use Rattle.std.proofs.{lemmas.Bool.{cases_eq, eq-eqb, ne_eqb}, lemmas.Grind.{same_number_lists}, lemmas.List.{length-append, length-take}}
use Rattle.std.proofs.lemmas.List.{get_or-take, get_or_append_left, get_or-append_right, take_all, set-set, set-get_or, append-nil}
use Rattle.client_world.specs.{declared.host_frames.TheConstants.{PAGE_SIZE}, Access.{HasByte}, Soundness.{SoundBlocks, pages_of_block}}
use Rattle.client_world.specs.World.{MemoryBlock}
use Rattle.guest_ram.specs.Listed.{zeros}
use Rattle.guest_ram.proofs.ListedLaws.{length-zeros, at_zeros}
use Rattle.block_memory.specs.BlockSizes.{HasPages, longer, shorter, block_with_zero_pages, at_base, sized_block, fresh_block, CanHold}
use Rattle.block_memory.specs.BlockChanges.{blocks_held, CanHoldIn, HasPagesIn, ReplacesBlock, ReplacesBlocks, with_at}
use Rattle.host_memory.specs.Holds.{Holds}
use Rattle.block_memory.proofs.{BlockSteps.{becomes, for_budget, held_there, replaced_by, same_blocks}, SizedSound.{can_hold_next}}
use Rattle.block_memory.proofs.SizedSound.{has_pages_next}

zeros_more : (n m : ℕ) → zeros n ++ zeros m ≡ zeros (n + m)
zeros_more n m = grind (arith, at_zeros, get_or-append_right, get_or_append_left, length-append, length-zeros, same_number_lists)

zeros_none : zeros 0 ≡ []
unfolding zeros
zeros_none = refl

-- growing

longer_next : (base : ℕ) (o : Option MemoryBlock) (k : ℕ) → longer base (Some (longer base o k)) 1 ≡ longer base o (k + 1)
longer_next base o k = grind (arith, append_assoc, zeros_more)

pub extended_next : (base : ℕ) (o : Option MemoryBlock) (k : ℕ) →
    Some (longer base (block_with_zero_pages base o k) 1) ≡ block_with_zero_pages base o (k + 1)
unfolding block_with_zero_pages
extended_next base o k =
    let next : k + 1 ≢ 0 = omega arith in
    elim (cases_eq k 0) [
      | inl none ↦
          rw (eq-eqb k 0 none, ne_eqb (k + 1) 0 next) (ap (λ (n : ℕ). Some (longer base o n)) (let e : 1 ≡ k + 1 = omega arith in e))
      | inr some ↦ rw (ne_eqb k 0 some, ne_eqb (k + 1) 0 next) (ap (λ (b : MemoryBlock). Some b) (longer_next base o k))
    ]

pub extended_none : (base : ℕ) (o : Option MemoryBlock) → block_with_zero_pages base o 0 ≡ o
unfolding block_with_zero_pages
extended_none base o = refl

pub extended_fresh : (base pages : ℕ) → pages ≢ 0 → block_with_zero_pages base None pages ≡ Some (fresh_block base pages)
unfolding block_with_zero_pages
extended_fresh base pages some = rw (ne_eqb pages 0 some) refl

-- shrinking

take_less : (n m : ℕ) (xs : List ℕ) → n ≤ m → take n (take m xs) ≡ take n xs
take_less n m xs few = grind (arith, get_or-take, length-take, same_number_lists)

pub shorter_next : (o : Option MemoryBlock) (n : ℕ) → shorter (shorter o (n + 1)) n ≡ shorter o n
shorter_next None n = refl
shorter_next (Some block) n = grind (arith, eq-eqb, ne_eqb, take_less)

pub shorter_none : (o : Option MemoryBlock) → shorter o 0 ≡ None
shorter_none None = refl
shorter_none (Some block) = refl

shorter_whole : (blocks : List (Option MemoryBlock)) (budget place base n : ℕ) → SoundBlocks blocks budget → (o : Option MemoryBlock) →
    slice_index_or blocks place None ≡ o → pages_of_block o ≡ n → shorter o n ≡ o
shorter_whole blocks budget place base n sound None e count = refl
shorter_whole blocks budget place base n sound (Some block) e count =
    let is = sound.each (suc place) block e in
    let long = is.pages in let more = is.some in
    let some : n ≢ 0 = omega arith in
    rw (ne_eqb n 0 some, take_all (PAGE_SIZE * n) block.bytes (omega arith), take_all n block.locks (omega arith)) refl

pub shorter_all : (blocks : List (Option MemoryBlock)) (budget place base n : ℕ) → SoundBlocks blocks budget →
    HasPages blocks place base n → shorter (slice_index_or blocks place None) n ≡ slice_index_or blocks place None
shorter_all blocks budget place base n sound has =
    shorter_whole blocks budget place base n sound (slice_index_or blocks place None) refl has.count

-- a byte of the first pages is one of the block
pub shorter_byte : (o : Option MemoryBlock) (n at : ℕ) → HasByte (shorter o n) at → HasByte o at
shorter_byte None n at has = absurd has
shorter_byte (Some block) n at has = grind (arith, eq-eqb, length-take, ne_eqb)

-- the blocks of a run of steps

pub start_longer : (blocks : List (Option MemoryBlock)) (place base n : ℕ) → n ≡ 0 →
    slice_set blocks place (block_with_zero_pages base (slice_index_or blocks place None) n) ≡ blocks
start_longer blocks place base n none = grind (arith, extended_none, set-get_or)

pub step_longer : (blocks : List (Option MemoryBlock)) (place base k : ℕ) (o : Option MemoryBlock) → place < length blocks →
    (λ (bs : List (Option MemoryBlock)). slice_set bs place (Some (longer base (slice_index_or bs place None) 1)))
    (slice_set blocks place (block_with_zero_pages base o k)) ≡ slice_set blocks place (block_with_zero_pages base o (k + 1))
step_longer blocks place base k o within = grind (arith, extended_next, get_or-set_same, set-set)

pub start_shorter : (blocks : List (Option MemoryBlock)) (budget place base n : ℕ) → SoundBlocks blocks budget →
    HasPages blocks place base n → slice_set blocks place (shorter (slice_index_or blocks place None) n) ≡ blocks
start_shorter blocks budget place base n sound has =
    ap (λ (o : Option MemoryBlock). slice_set blocks place o) (shorter_all blocks budget place base n sound has)
    ∙ set-get_or blocks place None

pub step_shorter : (blocks : List (Option MemoryBlock)) (place n : ℕ) (o : Option MemoryBlock) → place < length blocks →
    (λ (bs : List (Option MemoryBlock)). slice_set bs place (shorter (slice_index_or bs place None) n))
    (slice_set blocks place (shorter o (n + 1))) ≡ slice_set blocks place (shorter o n)
step_shorter blocks place n o within = grind (arith, get_or-set_same, set-set, shorter_next)

-- cut, moved and extended a block is resized

whole_front : (xs : List ℕ) (size few : ℕ) → length xs ≤ few → length xs ≤ size → take few xs ≡ take size xs
whole_front xs size few a b = take_all few xs a ∙ sym (take_all size xs b)

pub resized_is : (base pages kept : ℕ) (block : MemoryBlock) → length block.bytes ≡ PAGE_SIZE * length block.locks → kept ≢ 0 →
    ((kept ≡ pages) × (pages ≤ length block.locks)) ⊎ ((kept ≡ length block.locks) × (length block.locks ≤ pages)) →
    block_with_zero_pages base (at_base base (shorter (Some block) kept)) (pages - kept) ≡ sized_block base pages (Some block)
unfolding block_with_zero_pages sized_block
resized_is base pages kept block long some way = grind (arith, append-nil, eq-eqb, ne_eqb, whole_front, zeros_none)

-- one page more is asked
one_more : (blocks : List (Option MemoryBlock)) (budget place base n to : ℕ) → CanHold blocks budget place base n to → n < to →
    CanHold blocks budget place base n (n + 1)
one_more blocks budget place base n to can more = grind arith

pub next_page : (b : List ℕ) (place base n to : ℕ) → CanHoldIn b place base n to → n < to → CanHoldIn b place base n (n + 1)
next_page b place base n to g more =
    record { budget = g.budget; holds = g.holds; can = one_more (blocks_held b g.budget) g.budget place base n to g.can more }

-- how far a run of pages has come
pub record Extending (old now : List ℕ) (place base from n to : ℕ) : Type 0 where
  pub budget : ℕ
  pub before : Holds old budget
  pub steps : ReplacesBlocks old now budget (with_at (blocks_held old budget) place (λ o. block_with_zero_pages base o (n - from)))
  pub can : CanHold (blocks_held now budget) budget place base n to

pub extending : (b : List ℕ) (place base from to : ℕ) → CanHoldIn b place base from to → Extending b b place base from from to
extending b place base from to g = record {
  budget = g.budget;
  before = g.holds.holds;
  steps = same_blocks b g.budget _ g.holds (sym (start_longer (blocks_held b g.budget) place base (from - from) (omega arith)));
  can = g.can;
}

pub extending_in : (old now : List ℕ) (place base from n to : ℕ) → Extending old now place base from n to → CanHoldIn now place base n to
extending_in old now place base from n to s = record { budget = s.budget; holds = s.steps.after; can = s.can }

-- a block that is longer has the bytes of a shorter one
extended_byte : (base : ℕ) (o : Option MemoryBlock) (more at : ℕ) → HasByte o at → HasByte (block_with_zero_pages base o more) at
unfolding block_with_zero_pages
extended_byte base None more at has = absurd has
extended_byte base (Some block) more at has = grind (arith, eq-eqb, length-append, ne_eqb)

pub extended_more : (old now next : List ℕ) (place base from n to : ℕ) → from ≤ n → n < to → (s : Extending old now place base from n to) →
    ReplacesBlock now next place (λ o. Some (longer base o 1)) → Extending old next place base from (n + 1) to
extended_more old now next place base from n to low more s step =
    let budget = s.budget in
    let blocks = blocks_held old budget in
    let o = slice_index_or blocks place None in
    let last = step budget s.steps.after.holds in
    let within = s.can.within in let handles = s.can.handles in
    let long : length (blocks_held now budget) ≡ length blocks = ap (λ (bs : List (Option MemoryBlock)). length bs) s.steps.are
    ∙ length-set blocks place _ in
    let goal : with_at (blocks_held now budget) place (λ x. Some (longer base x 1))
    ≡ slice_set blocks place (block_with_zero_pages base o (n + 1 - from)) =
    ap (λ (bs : List (Option MemoryBlock)). with_at bs place (λ x. Some (longer base x 1))) s.steps.are
    ∙ step_longer blocks place base (n - from) o (omega arith)
    ∙ ap (λ (k : ℕ). slice_set blocks place (block_with_zero_pages base o k)) (omega arith) in
    record {
      budget = budget;
      before = s.before;
      steps = replaced_by old now next budget _ _ s.steps (becomes now next budget _ _ last goal)
          (held_there blocks place (block_with_zero_pages base o (n + 1 - from)) (block_with_zero_pages base o (n - from)) (omega arith)
          (λ at one two. extended_byte base o (n - from) at one));
      can = subst (λ (bs : List (Option MemoryBlock)). CanHold bs budget place base (n + 1) to) (sym last.are)
          (can_hold_next (blocks_held now budget) budget place base n to s.can more);
    }

pub extended_all : (old now : List ℕ) (place base from n to : ℕ) → n ≡ to → Extending old now place base from n to →
    ReplacesBlock old now place (λ o. block_with_zero_pages base o (to - from))
extended_all old now place base from n to end s = grind (arith, for_budget)

-- how far pages are removed
pub record Cutting (old now : List ℕ) (place base n : ℕ) : Type 0 where
  pub budget : ℕ
  pub before : Holds old budget
  pub steps : ReplacesBlocks old now budget (with_at (blocks_held old budget) place (λ o. shorter o n))
  pub has : HasPages (blocks_held now budget) place base n

pub cutting : (b : List ℕ) (place base n : ℕ) → HasPagesIn b place base n → Cutting b b place base n
cutting b place base n d = record {
  budget = d.budget;
  before = d.holds.holds;
  steps = same_blocks b d.budget _ d.holds (sym (start_shorter (blocks_held b d.budget) d.budget place base n d.holds.sound d.has));
  has = d.has;
}

pub cutting_in : (old now : List ℕ) (place base n : ℕ) → Cutting old now place base n → HasPagesIn now place base n
cutting_in old now place base n s = record { budget = s.budget; holds = s.steps.after; has = s.has }

pub cut_more : (old now next : List ℕ) (place base n : ℕ) → Cutting old now place base (n + 1) →
    ReplacesBlock now next place (λ o. shorter o n) → Cutting old next place base n
cut_more old now next place base n s step =
    let budget = s.budget in
    let blocks = blocks_held old budget in
    let o = slice_index_or blocks place None in
    let last = step budget s.steps.after.holds in
    let within = s.has.within in let handles = s.has.handles in
    let long : length (blocks_held now budget) ≡ length blocks = ap (λ (bs : List (Option MemoryBlock)). length bs) s.steps.are
    ∙ length-set blocks place _ in
    let goal : with_at (blocks_held now budget) place (λ x. shorter x n) ≡ slice_set blocks place (shorter o n) =
    ap (λ (bs : List (Option MemoryBlock)). with_at bs place (λ x. shorter x n)) s.steps.are
    ∙ step_shorter blocks place n o (omega arith) in
    record {
      budget = budget;
      before = s.before;
      steps = grind (arith, becomes, held_there, replaced_by, shorter_byte, shorter_next);
      has = subst (λ (bs : List (Option MemoryBlock)). HasPages bs place base n) (sym last.are)
          (has_pages_next (blocks_held now budget) place base n s.has);
    }

pub cut_all : (old now : List ℕ) (place base n : ℕ) → Cutting old now place base n → ReplacesBlock old now place (λ o. shorter o n)
cut_all old now place base n s = for_budget old now place (λ o. shorter o n) s.budget s.before s.steps
