-- Two states of the block region between which a block moves to another linear address: its entries and lock counts go along, whether or
-- not its pages before and after have some in common. Its bytes stay where they are.
use Rattle.std.proofs.Common.{◌≡◌, ◌≢◌, ℕ, ◌+◌, ◌-◌, ◌*◌, ◌/◌, ◌%◌, ◌<◌, ◌≤◌, ◌⊎◌, inl, inr, List, slice_index, slice_set, ap, ◌∙◌, sym}
use Rattle.std.proofs.{Common.{subst, arith, Some}, lemmas.Bool.{cases_eq, cases_lt}}
use Rattle.client_world.specs.{declared.host_frames.TheConstants.{PAGE_SIZE, BUDGET_FRAMES}, declared.limits.TheConstants.{MAX_BLOCKS}}
use Rattle.client_world.specs.{declared.memory_map.TheConstants.{BLOCK_REGION_PAGES}, Access.{bytes_of_block}}
use Rattle.guest_ram.proofs.ListedLaws.{same_listed, listed-set}
use Rattle.block_memory.specs.BlockSizes.{locks_of_block, at_base}
use Rattle.host_memory.specs.{Holds.{KeepsLocks}, Layout.{base_of, pages_of, first_page_of, entry_of, lock_of, page_byte, held_block}}
use Rattle.host_memory.specs.Tables.{HasBlockEntries, NamesBudgetFrame, NamesFrame, IsOutside}
use Rattle.block_memory.proofs.{BlockMore.{block_of, blocks_of, bytes_are, locks_are, block_is}, PageMore.{BlockParts, first_page}}
use Rattle.block_memory.proofs.PageMore.{budget_entry}
use Rattle.host_memory.proofs.BlockRows.{IsRange, row_there, row_free}

-- a page is one of n from a first one on, or isn't

pub record IsIn (first n page : ℕ) : Type 0 where
  pub i : ℕ
  pub less : i < n
  pub is : page ≡ first + i

abbrev pub IsOff : ℕ → ℕ → ℕ → Type 0
IsOff first n page = (page < first) ⊎ (first + n ≤ page)

pub in_or_off : (first n page : ℕ) → IsIn first n page ⊎ IsOff first n page
in_or_off first n page = elim (cases_lt page first) [
  | inl below ↦ inr (inl below)
  | inr from ↦ elim (cases_lt page (first + n)) [
    | inl to ↦ inl (record { i = page - first; less = omega arith; is = omega arith })
    | inr above ↦ inr (inr above)
  ]
]

-- what is asked of the first state: the block has n pages, and n pages from the new address on meet no other block
pub record MayMove (old : BlockParts) (place base n : ℕ) : Type 0 where
  pub within : place < MAX_BLOCKS
  pub some : n ≢ 0
  pub pages : pages_of old.handles place ≡ n
  pub own : IsRange (base_of old.handles place) n
  pub range : IsRange base n
  pub ranges : (other : ℕ) → other < MAX_BLOCKS → other ≢ place → pages_of old.handles other ≢ 0 →
      IsRange (base_of old.handles other) (pages_of old.handles other)
  pub beside : (other : ℕ) → other < MAX_BLOCKS → other ≢ place → pages_of old.handles other ≢ 0 →
      (base_of old.handles place + PAGE_SIZE * n ≤ base_of old.handles other)
      ⊎ (base_of old.handles other + PAGE_SIZE * pages_of old.handles other ≤ base_of old.handles place)
  pub apart : (other : ℕ) → other < MAX_BLOCKS → other ≢ place → pages_of old.handles other ≢ 0 →
      (base + PAGE_SIZE * n ≤ base_of old.handles other) ⊎ (base_of old.handles other + PAGE_SIZE * pages_of old.handles other ≤ base)

-- numbers of pages go along from one first page to another; where they left it is 0
pub record GoAlong (f g : ℕ → ℕ) (from to n : ℕ) : Type 0 where
  pub there : (i : ℕ) → i < n → g (to + i) ≡ f (from + i)
  pub left : (page : ℕ) → page < BLOCK_REGION_PAGES → IsIn from n page → IsOff to n page → g page ≡ 0
  pub others : (page : ℕ) → page < BLOCK_REGION_PAGES → IsOff from n page → IsOff to n page → g page ≡ f page

-- and what differs
pub record HasMoved (old new : BlockParts) (place base n : ℕ) : Type 0 where
  pub may : MayMove old place base n
  pub new_pages : pages_of new.handles place ≡ n
  pub new_base : base_of new.handles place ≡ base
  pub other_pages : (other : ℕ) → other < MAX_BLOCKS → other ≢ place → pages_of new.handles other ≡ pages_of old.handles other
  pub other_bases : (other : ℕ) → other < MAX_BLOCKS → other ≢ place → base_of new.handles other ≡ base_of old.handles other
  pub entries : GoAlong (entry_of old.tables) (entry_of new.tables) (first_page_of old.handles place) (first_page base) n
  pub locks : GoAlong (lock_of old.locks) (lock_of new.locks) (first_page_of old.handles place) (first_page base) n
  pub taken : new.taken ≡ old.taken
  pub frames : new.frames ≡ old.frames

pages_small : (base n i : ℕ) → IsRange base n → i < n → first_page base + i < BLOCK_REGION_PAGES
pages_small base n i r less = let from = r.from in let to = r.to in let whole = r.whole in omega arith

first_moved : (old new : BlockParts) (place base n : ℕ) → HasMoved old new place base n → first_page_of new.handles place ≡ first_page base
first_moved old new place base n m = ap first_page m.new_base

first_stays : (old new : BlockParts) (place base n : ℕ) → HasMoved old new place base n → (other : ℕ) → other < MAX_BLOCKS → other ≢ place →
    first_page_of new.handles other ≡ first_page_of old.handles other
first_stays old new place base n m other within ne = ap first_page (m.other_bases other within ne)

-- a page of another block is neither among those of before nor among those of after
record IsClear (old : BlockParts) (place base n other i : ℕ) : Type 0 where
  small : first_page_of old.handles other + i < BLOCK_REGION_PAGES
  off_old : IsOff (first_page_of old.handles place) n (first_page_of old.handles other + i)
  off_new : IsOff (first_page base) n (first_page_of old.handles other + i)

is_clear : (old : BlockParts) (place base n : ℕ) → MayMove old place base n → (other i : ℕ) → other < MAX_BLOCKS → other ≢ place →
    i < pages_of old.handles other → IsClear old place base n other i
is_clear old place base n m other i within ne less = grind arith

-- from which page an entry that isn't 0 comes
record ComesFrom (old : BlockParts) (place base n page entry : ℕ) : Type 0 where
  source : ℕ
  small : source < BLOCK_REGION_PAGES
  is : entry ≡ entry_of old.tables source
  way : ((i : ℕ) × ((i < n) × ((page ≡ first_page base + i) × (source ≡ first_page_of old.handles place + i))))
      ⊎ ((source ≡ page) × (IsOff (first_page_of old.handles place) n page × IsOff (first_page base) n page))

comes_from : (old new : BlockParts) (place base n : ℕ) → HasMoved old new place base n → (page : ℕ) → page < BLOCK_REGION_PAGES →
    entry_of new.tables page ≢ 0 → ComesFrom old place base n page (entry_of new.tables page)
comes_from old new place base n m page small some = elim (in_or_off (first_page base) n page) [
  | inl here ↦ (grind (arith, pages_small))
  | inr off ↦ grind (arith, in_or_off)
]

apart_sources : (old : BlockParts) (place base n page other x y : ℕ) → page ≢ other →
    (p : ComesFrom old place base n page x) (q : ComesFrom old place base n other y) → p.source ≢ q.source
apart_sources old place base n page other x y ne p q same = grind arith

-- a page that no block has after
outside_before : (old new : BlockParts) (place base n : ℕ) → HasMoved old new place base n → (page : ℕ) → IsOutside new.handles page →
    IsOff (first_page_of old.handles place) n page → IsOutside old.handles page
outside_before old new place base n m page none off = λ other i within less same. elim (cases_eq other place) [
  | inl e ↦ (grind arith)
  | inr ne ↦ (
      let pages = m.other_pages other within ne in
      let first = first_stays old new place base n m other within ne in
      none other i within (omega arith) (omega arith))
]

off_new_of : (old new : BlockParts) (place base n : ℕ) → HasMoved old new place base n → (page : ℕ) → IsOutside new.handles page →
    IsOff (first_page base) n page
off_new_of old new place base n m page none = elim (in_or_off (first_page base) n page) [
  | inl here ↦ (
      let less = here.less in let pages = m.new_pages in
      absurd
      (none place here.i m.may.within (omega arith) (here.is ∙ ap (λ (k : ℕ). k + here.i) (sym (first_moved old new place base n m)))))
  | inr off ↦ off
]

-- a page among those of after and not among those of before is no block's before
free_before : (old : BlockParts) (place base n : ℕ) → MayMove old place base n → (page : ℕ) → IsIn (first_page base) n page →
    IsOff (first_page_of old.handles place) n page → IsOutside old.handles page
free_before old place base n m page here off = λ other i within less same. grind (arith, is_clear)

pub moved_entries : (old new : BlockParts) (budget place base n : ℕ) → HasMoved old new place base n →
    HasBlockEntries old.handles old.tables old.taken budget → HasBlockEntries new.handles new.tables new.taken budget
moved_entries old new budget place base n m h = grind (arith, absent, busy, idle, named, once)
  where
    named : (other i : ℕ) → other < MAX_BLOCKS → i < pages_of new.handles other →
        NamesBudgetFrame budget (entry_of new.tables (first_page_of new.handles other + i))
    named other i within less = elim (cases_eq other place) [
      | inl e ↦ (
          let few : i < n = subst (λ (k : ℕ). i < k) (ap (pages_of new.handles) e ∙ m.new_pages) less in
          let first : first_page_of new.handles other ≡ first_page base = ap (first_page_of new.handles) e
          ∙ first_moved old new place base n m in
          let pages = m.may.pages in
          rw (first, m.entries.there i few) (h.named place i m.may.within (omega arith)))
      | inr ne ↦ (
          let pages = m.other_pages other within ne in
          let clear = is_clear old place base n m.may other i within ne (omega arith) in
          rw (
            first_stays old new place base n m other within ne,
            m.entries.others (first_page_of old.handles other + i) clear.small clear.off_old clear.off_new,
          )
          (h.named other i within (omega arith)))
    ]

    absent : (page : ℕ) → page < BLOCK_REGION_PAGES → IsOutside new.handles page → entry_of new.tables page ≡ 0
    absent page small none =
        let off = off_new_of old new place base n m page none in
        elim (in_or_off (first_page_of old.handles place) n page) [
          | inl left ↦ m.entries.left page small left off
          | inr clear ↦ m.entries.others page small clear off ∙ h.absent page small (outside_before old new place base n m page none clear)
        ]

    once : (page other : ℕ) → page < BLOCK_REGION_PAGES → other < BLOCK_REGION_PAGES → page ≢ other → entry_of new.tables page ≢ 0 →
        entry_of new.tables page ≢ entry_of new.tables other
    once page other small less ne some same =
        let p = comes_from old new place base n m page small some in
        let q = comes_from old new place base n m other less (λ none. some (same ∙ none)) in
        h.once p.source q.source p.small q.small (apart_sources old place base n page other _ _ ne p q) (λ none. some (p.is ∙ none))
        (sym p.is ∙ same ∙ q.is)

    idle : (k page : ℕ) → k < budget → page < BLOCK_REGION_PAGES → slice_index new.taken k ≡ 0 → entry_of new.tables page ≢ budget_entry k
    idle k page few small none same =
        let p = comes_from old new place base n m page small (omega arith) in
        h.idle k p.source few p.small (ap (λ (t : List ℕ). slice_index t k) (sym m.taken) ∙ none) (sym p.is ∙ same)

    busy : (k : ℕ) → k < budget → slice_index new.taken k ≢ 0 → NamesFrame new.tables k
    busy k few some =
        let was = h.busy k few (λ none. some (ap (λ (t : List ℕ). slice_index t k) m.taken ∙ none)) in
        let named = was.named in
        elim (in_or_off (first_page_of old.handles place) n was.page) [
          | inl left ↦ grind (arith, named, pages_small)
          | inr clear ↦ grind (arith, absent, free_before, in_or_off, named)
        ]

pub moved_locks : (old new : BlockParts) (place base n : ℕ) → HasMoved old new place base n → KeepsLocks old.handles old.locks →
    KeepsLocks new.handles new.locks
moved_locks old new place base n m h = record {
  outside = λ page small none. (
      let off = off_new_of old new place base n m page none in
      elim (in_or_off (first_page_of old.handles place) n page) [
        | inl left ↦ m.locks.left page small left off
        | inr clear ↦ m.locks.others page small clear off ∙ h.outside page small (outside_before old new place base n m page none clear)
      ]);
}

-- the blocks: this one has another address, and the others are the same
other_stays : (old new : BlockParts) (place base n : ℕ) → HasMoved old new place base n → (other : ℕ) → other < MAX_BLOCKS → other ≢ place →
    block_of new other ≡ block_of old other
unfolding held_block
other_stays old new place base n m other within ne = grind (arith, is_clear, row_free, row_there, same_listed)

block_moves : (old new : BlockParts) (place base n : ℕ) → HasMoved old new place base n → block_of new place
    ≡ Some (record { base = base; bytes = bytes_of_block (block_of old place); locks = locks_of_block (block_of old place) })
block_moves old new place base n m =
    block_is new place (λ none. m.may.some (sym m.new_pages ∙ none))
    (record { base = base; bytes = bytes_of_block (block_of old place); locks = locks_of_block (block_of old place) }) (sym m.new_base)
    (grind (arith, byte, bytes_are, first_moved, same_listed))
    (grind (arith, first_moved, locks_are, same_listed))
  where
    byte : (at : ℕ) → at < PAGE_SIZE * n → page_byte new.tables old.frames (first_page base) at
        ≡ page_byte old.tables old.frames (first_page_of old.handles place) at
    byte at inside =
        ap (λ (e : ℕ). slice_index old.frames (PAGE_SIZE * (e / PAGE_SIZE - BUDGET_FRAMES) + at % PAGE_SIZE))
        (m.entries.there (at / PAGE_SIZE) (omega arith))

pub moved_blocks : (old new : BlockParts) (place base n : ℕ) → HasMoved old new place base n →
    blocks_of new ≡ slice_set (blocks_of old) place (at_base base (block_of old place))
moved_blocks old new place base n m = grind (arith, block_moves, listed-set, other_stays, row_there)

-- bytes of blocks stay where they are
abbrev pub byte_place : BlockParts → ℕ → ℕ → ℕ
byte_place s place at = PAGE_SIZE * (entry_of s.tables (first_page_of s.handles place + at / PAGE_SIZE) / PAGE_SIZE) + at % PAGE_SIZE

pub moved_place : (old new : BlockParts) (place base n : ℕ) → HasMoved old new place base n → (other at : ℕ) → other < MAX_BLOCKS →
    at < PAGE_SIZE * pages_of old.handles other → byte_place new other at ≡ byte_place old other at
moved_place old new place base n m other at within inside = grind (arith, first_moved, first_stays, is_clear)
