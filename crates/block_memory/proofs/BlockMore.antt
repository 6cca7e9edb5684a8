-- The blocks of two states that differ in one page: the block that has it has one page more in the second one, and the others are the same.
use Rattle.std.proofs.Common.{◌≡◌, ◌≢◌, ℕ, ◌+◌, ◌-◌, ◌*◌, ◌/◌, ◌<◌, ◌≤◌, inl, inr, List, ◌++◌, length, get_or, take, slice_index, slice_set}
use Rattle.std.proofs.{Common.{refl, ap, ◌∙◌, sym, arith, Option, Some}, lemmas.Bool.{cases_eq, eq-eqb, ne_eqb}}
use Rattle.std.proofs.lemmas.List.{nil_from_length, length-append, length-take-le, get_or-take, get_or_append_left, get_or-append_right}
use Rattle.std.proofs.lemmas.Grind.{same_number_lists}
use Rattle.client_world.specs.{declared.host_frames.TheConstants.{PAGE_SIZE, BUDGET_FRAMES}, declared.limits.TheConstants.{MAX_BLOCKS}}
use Rattle.client_world.specs.{declared.memory_map.TheConstants.{BLOCK_REGION_PAGES}, Access.{bytes_of_block}, World.{MemoryBlock}}
use Rattle.guest_ram.specs.Listed.{listed, zeros}
use Rattle.guest_ram.proofs.ListedLaws.{length-listed, at_listed, same_listed, listed-set, length-zeros, at_zeros}
use Rattle.block_memory.specs.BlockSizes.{locks_of_block, longer, shorter}
use Rattle.host_memory.specs.Layout.{base_of, pages_of, first_page_of, entry_of, lock_of, page_byte, held_block, block_in, blocks_in}
use Rattle.host_memory.specs.Tables.{HasBlockEntries, NamesBudgetFrame}
use Rattle.host_memory.proofs.BlockRows.{row_there, row_free, held_base}
use Rattle.block_memory.proofs.PageMore.{BlockParts, HasPageMore, AgreesBeside, region_page, first_page, page_inside, is_away, first_new}
use Rattle.block_memory.proofs.PageMore.{first_old, first_other}

-- the block of a handle less 1, in a state
abbrev pub block_of : BlockParts → ℕ → Option MemoryBlock
block_of s place = block_in s.handles s.tables s.locks s.frames place

abbrev pub blocks_of : BlockParts → List (Option MemoryBlock)
blocks_of s = blocks_in s.handles s.tables s.locks s.frames

-- the bytes and the lock counts of a block, whether or not there is one
pub bytes_are : (s : BlockParts) (place : ℕ) → bytes_of_block (block_of s place)
    ≡ listed (PAGE_SIZE * pages_of s.handles place) (page_byte s.tables s.frames (first_page_of s.handles place))
unfolding held_block
bytes_are s place = elim (cases_eq (pages_of s.handles place) 0) [
  | inl none ↦ ap bytes_of_block (row_free s.handles s.tables s.locks s.frames place none)
      ∙ sym (nil_from_length (listed (PAGE_SIZE * pages_of s.handles place) (page_byte s.tables s.frames (first_page_of s.handles place)))
      (length-listed (PAGE_SIZE * pages_of s.handles place) (page_byte s.tables s.frames (first_page_of s.handles place))
      ∙ (let e : PAGE_SIZE * pages_of s.handles place ≡ 0 = omega arith in e)))
  | inr some ↦ ap bytes_of_block (row_there s.handles s.tables s.locks s.frames place some)
]

abbrev lock_at : BlockParts → ℕ → ℕ → ℕ
lock_at s first page = lock_of s.locks (first + page)

pub locks_are : (s : BlockParts) (place : ℕ) →
    locks_of_block (block_of s place) ≡ listed (pages_of s.handles place) (lock_at s (first_page_of s.handles place))
unfolding held_block
locks_are s place = elim (cases_eq (pages_of s.handles place) 0) [
  | inl none ↦ ap locks_of_block (row_free s.handles s.tables s.locks s.frames place none)
      ∙ sym (nil_from_length (listed (pages_of s.handles place) (lock_at s (first_page_of s.handles place)))
      (length-listed (pages_of s.handles place) (lock_at s (first_page_of s.handles place)) ∙ none))
  | inr some ↦ ap locks_of_block (row_there s.handles s.tables s.locks s.frames place some)
]

-- two blocks with the same fields are one
same_block : (x y : MemoryBlock) → x.base ≡ y.base → x.bytes ≡ y.bytes → x.locks ≡ y.locks → x ≡ y
same_block x y base bytes locks = grind arith

-- a block that is there is its address, its bytes and its lock counts
pub block_is : (s : BlockParts) (place : ℕ) → pages_of s.handles place ≢ 0 → (block : MemoryBlock) → block.base ≡ base_of s.handles place →
    block.bytes ≡ bytes_of_block (block_of s place) → block.locks ≡ locks_of_block (block_of s place) → block_of s place ≡ Some block
unfolding held_block
block_is s place some block base bytes locks = grind (arith, bytes_are, locks_are, row_there, same_block)

-- a byte of a page that has a frame is the same in both states
kept_byte : (old new : BlockParts) (budget place base n frame : ℕ) → HasPageMore old new budget place base n frame →
    AgreesBeside old new budget (region_page base n) frame → HasBlockEntries old.handles old.tables old.taken budget →
    (page x : ℕ) → page < BLOCK_REGION_PAGES → page ≢ region_page base n → NamesBudgetFrame budget (entry_of old.tables page) →
    x < PAGE_SIZE → slice_index new.frames (PAGE_SIZE * (entry_of new.tables page / PAGE_SIZE - BUDGET_FRAMES) + x)
    ≡ slice_index old.frames (PAGE_SIZE * (entry_of old.tables page / PAGE_SIZE - BUDGET_FRAMES) + x)
kept_byte old new budget place base n frame m beside h page x small ne names less = grind arith

-- another block is the same
pub other_block : (old new : BlockParts) (budget place base n frame : ℕ) → HasPageMore old new budget place base n frame →
    AgreesBeside old new budget (region_page base n) frame → HasBlockEntries old.handles old.tables old.taken budget →
    (other : ℕ) → other < MAX_BLOCKS → other ≢ place → block_of new other ≡ block_of old other
unfolding held_block
other_block old new budget place base n frame m beside h other within ne =
    grind (arith, first_other, is_away, kept_byte, row_free, row_there, same_listed)

-- a list whose first part and rest are known
append_listed : (f : ℕ → ℕ) (xs ys : List ℕ) (m n : ℕ) → length xs ≡ m → m + length ys ≡ n → ((k : ℕ) → k < m → f k ≡ get_or xs k 0) →
    ((k : ℕ) → k < length ys → f (m + k) ≡ get_or ys k 0) → listed n f ≡ xs ++ ys
append_listed f xs ys m n long all front back =
    grind (arith, at_listed, get_or-append_right, get_or_append_left, length-append, length-listed, same_number_lists)

-- the pages that the block has in both states
page_kept : (old new : BlockParts) (budget place base n frame : ℕ) → HasPageMore old new budget place base n frame →
    AgreesBeside old new budget (region_page base n) frame → HasBlockEntries old.handles old.tables old.taken budget →
    (at : ℕ) → at < PAGE_SIZE * n →
    page_byte new.tables new.frames (first_page base) at ≡ page_byte old.tables old.frames (first_page_of old.handles place) at
page_kept old new budget place base n frame m beside h at inside = grind (arith, first_old, kept_byte, page_inside)

lock_kept : (old new : BlockParts) (budget place base n frame : ℕ) → HasPageMore old new budget place base n frame →
    AgreesBeside old new budget (region_page base n) frame → (page : ℕ) → page < n →
    lock_at new (first_page base) page ≡ lock_at old (first_page_of old.handles place) page
lock_kept old new budget place base n frame m beside page inside = grind (arith, first_old, page_inside)

new_bytes : (old new : BlockParts) (budget place base n frame : ℕ) → HasPageMore old new budget place base n frame →
    bytes_of_block (block_of new place) ≡ listed (PAGE_SIZE * (n + 1)) (page_byte new.tables new.frames (first_page base))
new_bytes old new budget place base n frame m = grind (arith, bytes_are, first_new)

new_locks : (old new : BlockParts) (budget place base n frame : ℕ) → HasPageMore old new budget place base n frame →
    locks_of_block (block_of new place) ≡ listed (n + 1) (lock_at new (first_page base))
new_locks old new budget place base n frame m = grind (arith, first_new, locks_are)

old_bytes : (old new : BlockParts) (budget place base n frame : ℕ) → HasPageMore old new budget place base n frame →
    bytes_of_block (block_of old place) ≡ listed (PAGE_SIZE * n) (page_byte old.tables old.frames (first_page_of old.handles place))
old_bytes old new budget place base n frame m = grind (arith, bytes_are)

old_locks : (old new : BlockParts) (budget place base n frame : ℕ) → HasPageMore old new budget place base n frame →
    locks_of_block (block_of old place) ≡ listed n (lock_at old (first_page_of old.handles place))
old_locks old new budget place base n frame m = grind (arith, locks_are)

-- the block that has grown by a page of zeros
pub more_block : (old new : BlockParts) (budget place base n frame : ℕ) → HasPageMore old new budget place base n frame →
    AgreesBeside old new budget (region_page base n) frame → HasBlockEntries old.handles old.tables old.taken budget →
    ((at : ℕ) → at < PAGE_SIZE → slice_index new.frames (PAGE_SIZE * frame + at) ≡ 0) → lock_of new.locks (region_page base n) ≡ 0 →
    block_of new place ≡ Some (longer base (block_of old place) 1)
more_block old new budget place base n frame m beside h zero unlocked =
    block_is new place (let pages = m.new_pages in omega arith) (longer base (block_of old place) 1) (sym m.new_base) (sym bytes)
    (sym locks)
  where
    byte : (k : ℕ) → k < PAGE_SIZE → page_byte new.tables new.frames (first_page base) (PAGE_SIZE * n + k) ≡ 0
    byte k small = grind arith

    bytes : bytes_of_block (block_of new place) ≡ bytes_of_block (block_of old place) ++ zeros (PAGE_SIZE * 1)
    bytes =
        new_bytes old new budget place base n frame m
        ∙ append_listed (page_byte new.tables new.frames (first_page base)) (bytes_of_block (block_of old place)) (zeros (PAGE_SIZE * 1))
        (PAGE_SIZE * n) (PAGE_SIZE * (n + 1))
        (ap (λ (xs : List ℕ). length xs) (old_bytes old new budget place base n frame m) ∙ length-listed (PAGE_SIZE * n) _)
        (omega (arith, length-zeros (PAGE_SIZE * 1)))
        (λ k small. page_kept old new budget place base n frame m beside h k small
        ∙ sym (ap (λ (xs : List ℕ). get_or xs k 0) (old_bytes old new budget place base n frame m) ∙ at_listed (PAGE_SIZE * n) _ k 0 small))
        (λ k small. byte k (omega (arith, length-zeros (PAGE_SIZE * 1)))
        ∙ sym (at_zeros (PAGE_SIZE * 1) k (omega (arith, length-zeros (PAGE_SIZE * 1)))))

    locks : locks_of_block (block_of new place) ≡ locks_of_block (block_of old place) ++ zeros 1
    locks =
        new_locks old new budget place base n frame m
        ∙ append_listed (lock_at new (first_page base)) (locks_of_block (block_of old place)) (zeros 1) n (n + 1)
        (ap (λ (xs : List ℕ). length xs) (old_locks old new budget place base n frame m) ∙ length-listed n _)
        (omega (arith, length-zeros 1))
        (λ k small. lock_kept old new budget place base n frame m beside k small
        ∙ sym (ap (λ (xs : List ℕ). get_or xs k 0) (old_locks old new budget place base n frame m) ∙ at_listed n _ k 0 small))
        (λ k small. ap (lock_of new.locks) (let e : first_page base + (n + k) ≡ region_page base n = omega (arith, length-zeros 1) in e)
        ∙ unlocked ∙ sym (at_zeros 1 k (omega (arith, length-zeros 1))))

-- the first part of a list
take_listed : (f g : ℕ → ℕ) (m n : ℕ) → m ≤ n → ((k : ℕ) → k < m → g k ≡ f k) → listed m f ≡ take m (listed n g)
take_listed f g m n few same = grind (arith, at_listed, get_or-take, length-listed, length-take-le, same_number_lists)

-- the block that has shrunk by its last page
pub less_block : (old new : BlockParts) (budget place base n frame : ℕ) → HasPageMore old new budget place base n frame →
    AgreesBeside old new budget (region_page base n) frame → HasBlockEntries old.handles old.tables old.taken budget →
    block_of old place ≡ shorter (block_of new place) n
less_block old new budget place base n frame m beside h = elim (cases_eq n 0) [
  | inl none ↦ row_free old.handles old.tables old.locks old.frames place (m.room.pages ∙ none)
      ∙ sym (ap (λ (o : Option MemoryBlock). shorter o n) there ∙ rw (eq-eqb n 0 none) refl)
  | inr some ↦ (
      let first = first_old old new budget place base n frame m some in
      let pages = m.room.pages in
      block_is old place (omega arith) (cut (PAGE_SIZE * n) n)
      (held_base new.handles new.tables new.locks new.frames place ∙ m.new_base ∙ sym (m.room.based some))
      (ap (take (PAGE_SIZE * n)) (held_bytes ∙ new_bytes old new budget place base n frame m)
      ∙ sym (old_bytes old new budget place base n frame m
      ∙ take_listed (page_byte old.tables old.frames (first_page_of old.handles place)) (page_byte new.tables new.frames (first_page base))
      (PAGE_SIZE * n) (PAGE_SIZE * (n + 1)) (omega arith)
      (page_kept old new budget place base n frame m beside h)))
      (ap (take n) (held_locks ∙ new_locks old new budget place base n frame m)
      ∙ sym (old_locks old new budget place base n frame m
      ∙ take_listed (lock_at old (first_page_of old.handles place)) (lock_at new (first_page base)) n (n + 1) (omega arith)
      (lock_kept old new budget place base n frame m beside)))
      ∙ sym (ap (λ (o : Option MemoryBlock). shorter o n) there ∙ rw (ne_eqb n 0 some) refl))
]
  where
    held : MemoryBlock
    held = held_block new.handles new.tables new.locks new.frames place

    cut : ℕ → ℕ → MemoryBlock
    cut size count = record { base = held.base; bytes = take size held.bytes; locks = take count held.locks }

    there : block_of new place ≡ Some held
    there = row_there new.handles new.tables new.locks new.frames place (let pages = m.new_pages in omega arith)

    held_bytes : held.bytes ≡ bytes_of_block (block_of new place)
    held_bytes = sym (ap bytes_of_block there)

    held_locks : held.locks ≡ locks_of_block (block_of new place)
    held_locks = sym (ap locks_of_block there)

-- all blocks, once the block has grown, and once it has shrunk
pub more_blocks : (old new : BlockParts) (budget place base n frame : ℕ) → HasPageMore old new budget place base n frame →
    AgreesBeside old new budget (region_page base n) frame → HasBlockEntries old.handles old.tables old.taken budget →
    ((at : ℕ) → at < PAGE_SIZE → slice_index new.frames (PAGE_SIZE * frame + at) ≡ 0) → lock_of new.locks (region_page base n) ≡ 0 →
    blocks_of new ≡ slice_set (blocks_of old) place (Some (longer base (block_of old place) 1))
more_blocks old new budget place base n frame m beside h zero unlocked = grind (arith, listed-set, more_block, other_block)

pub less_blocks : (old new : BlockParts) (budget place base n frame : ℕ) → HasPageMore old new budget place base n frame →
    AgreesBeside old new budget (region_page base n) frame → HasBlockEntries old.handles old.tables old.taken budget →
    blocks_of old ≡ slice_set (blocks_of new) place (shorter (block_of new place) n)
less_blocks old new budget place base n frame m beside h = grind (arith, less_block, listed-set, other_block)
