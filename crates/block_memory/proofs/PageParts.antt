-- A page given to a block and taken from it, as writes into the parts of the memory: the parts still keep what they must.
use Rattle.std.proofs.Common.{◌≡◌, ◌≢◌, ℕ, zero, suc, ◌+◌, ◌-◌, ◌*◌, ◌<◌, ◌≤◌, ◌⊎◌, inl, inr, List, [], ◌∷◌, length, slice_index, slice_set}
use Rattle.std.proofs.{Common.{refl, ap, ◌∙◌, sym, arith, get_or-set_same, get_or-set_other, length-set}, lemmas.Bool.{cases_eq, cases_lt}}
use Rattle.std.proofs.lemmas.Bool.{eq-eqb, ne_eqb}
use Rattle.std.specs.Prelude.{nat_eq, if◌then◌else◌}
use Rattle.client_world.specs.declared.host_frames.TheConstants.{PAGE_SIZE, BLOCK_ROW_FRAMES, BLOCK_ROW_SIZE, LOCK_COUNT_SIZE}
use Rattle.client_world.specs.declared.host_frames.TheConstants.{PAGE_ENTRY_SIZE, VECTOR_FRAMES, BUDGET_FRAMES}
use Rattle.client_world.specs.{declared.limits.TheConstants.{MAX_BLOCKS, MAX_PAGES}, declared.memory_map.TheConstants.{BLOCK_REGION_PAGES}}
use Rattle.guest_ram.specs.{Bytes.{put, dword, dword_bytes}, Listed.{copies}, Count.{used}}
use Rattle.guest_ram.proofs.{ListedLaws.{length-copies, at_copies}, PutLaws.{length-put, put_away, put_within, dword_put, dword_put_other}}
use Rattle.page_tables.proofs.FreeFrames.{dword_put_beside}
use Rattle.host_memory.specs.{Holds.{KeepsHandles, ListsFreeFrames, all_pages}, Layout.{base_of, pages_of, entry_of, lock_of}}
use Rattle.host_memory.specs.Vectors.{head_start}
use Rattle.host_memory.proofs.{BlockRows.{IsRange, HasRanges}, Parts.{MemoryParts, HoldsParts}, VectorParts.{keeps_head, put_head}}
use Rattle.block_memory.proofs.{PageSums.{used_more, one_page_more}, PageMore.{BlockParts, HasRoom, HasPageMore, AgreesBeside, region_page}}
use Rattle.block_memory.proofs.PageMore.{budget_entry, page_inside, page_outside, grows, shrinks, entries_kept, locks_kept}
use Rattle.block_memory.proofs.FreeSteps.{list_given, list_taken}

-- the parts that blocks lie in
abbrev pub block_parts : MemoryParts → BlockParts
block_parts p = record { handles = p.handles; tables = p.tables; taken = p.taken; locks = p.locks; frames = p.frames }

-- how long they are
pub record HasSizes (p : MemoryParts) (budget : ℕ) : Type 0 where
  pub handles : length p.handles ≡ PAGE_SIZE * BLOCK_ROW_FRAMES
  pub tables : length p.tables ≡ PAGE_ENTRY_SIZE * BLOCK_REGION_PAGES
  pub taken : length p.taken ≡ MAX_PAGES
  pub locks : length p.locks ≡ LOCK_COUNT_SIZE * BLOCK_REGION_PAGES
  pub frames : length p.frames ≡ PAGE_SIZE * budget
  pub vectors : length p.vectors ≡ PAGE_SIZE * VECTOR_FRAMES
  pub most : budget ≤ MAX_PAGES

-- the rows of the blocks with another row
abbrev pub with_row : List ℕ → ℕ → ℕ → ℕ → List ℕ
with_row handles place base pages =
    put (put handles (BLOCK_ROW_SIZE * place) (dword_bytes base)) (BLOCK_ROW_SIZE * place + 4) (dword_bytes pages)

pub row_pages : (handles : List ℕ) (place base pages : ℕ) → length handles ≡ PAGE_SIZE * BLOCK_ROW_FRAMES → place < MAX_BLOCKS →
    pages_of (with_row handles place base pages) place ≡ pages
row_pages handles place base pages long within =
    dword_put (put handles (BLOCK_ROW_SIZE * place) (dword_bytes base)) (BLOCK_ROW_SIZE * place + 4) pages
    (omega (arith, length-put handles (BLOCK_ROW_SIZE * place) (dword_bytes base)))

pub row_base : (handles : List ℕ) (place base pages : ℕ) → length handles ≡ PAGE_SIZE * BLOCK_ROW_FRAMES → place < MAX_BLOCKS →
    base_of (with_row handles place base pages) place ≡ base
row_base handles place base pages long within = grind (arith, dword_put, dword_put_other)

-- an address of another row
beside_row : (place other at n : ℕ) → other ≢ place → at + n ≤ BLOCK_ROW_SIZE → (BLOCK_ROW_SIZE * place + 8 ≤ BLOCK_ROW_SIZE * other + at)
    ⊎ (BLOCK_ROW_SIZE * other + at + n ≤ BLOCK_ROW_SIZE * place)
beside_row place other at n ne inside = grind arith

other_row : (handles : List ℕ) (place base pages other at : ℕ) → other ≢ place → at + 4 ≤ BLOCK_ROW_SIZE →
    dword (with_row handles place base pages) (BLOCK_ROW_SIZE * other + at) ≡ dword handles (BLOCK_ROW_SIZE * other + at)
other_row handles place base pages other at ne inside = grind (arith, beside_row, dword_put_other)

pub other_pages : (handles : List ℕ) (place base pages other : ℕ) → other ≢ place →
    pages_of (with_row handles place base pages) other ≡ pages_of handles other
other_pages handles place base pages other ne = other_row handles place base pages other 4 ne (omega arith)

pub other_base : (handles : List ℕ) (place base pages other : ℕ) → other ≢ place →
    base_of (with_row handles place base pages) other ≡ base_of handles other
other_base handles place base pages other ne = grind (arith, beside_row, dword_put_other)

-- a byte beside the two doublewords
row_byte : (handles : List ℕ) (place base pages k : ℕ) → (BLOCK_ROW_SIZE * place + 8 ≤ k) ⊎ (k < BLOCK_ROW_SIZE * place) →
    slice_index (with_row handles place base pages) k ≡ slice_index handles k
row_byte handles place base pages k away =
    put_away (put handles (BLOCK_ROW_SIZE * place) (dword_bytes base)) (BLOCK_ROW_SIZE * place + 4) (dword_bytes pages) k
    (elim away [ inl a ↦ inl (omega arith) | inr a ↦ inr (omega arith) ])
    ∙ put_away handles (BLOCK_ROW_SIZE * place) (dword_bytes base) k (elim away [ inl a ↦ inl (omega arith) | inr a ↦ inr (omega arith) ])

zero_dword : (at : ℕ) → at < 4 → slice_index (dword_bytes 0) at ≡ 0
zero_dword zero l = refl
zero_dword (suc zero) l = refl
zero_dword (suc (suc zero)) l = refl
zero_dword (suc (suc (suc zero))) l = refl
zero_dword (suc (suc (suc (suc at)))) l = absurd (omega arith)

-- the rows are exactly those of blocks; a row of no pages is 0
pub keeps_handles : (handles : List ℕ) (place base pages : ℕ) → length handles ≡ PAGE_SIZE * BLOCK_ROW_FRAMES → place < MAX_BLOCKS →
    (pages ≡ 0 → base ≡ 0) → KeepsHandles handles → KeepsHandles (with_row handles place base pages)
keeps_handles handles place base pages long within none keeps = record { rest = rest; free = free }
  where
    rest : (other at : ℕ) → other < MAX_BLOCKS → 8 ≤ at → at < BLOCK_ROW_SIZE →
        slice_index (with_row handles place base pages) (BLOCK_ROW_SIZE * other + at) ≡ 0
    rest other at inside from less = row_byte handles place base pages (BLOCK_ROW_SIZE * other + at) (grind arith)
        ∙ keeps.rest other at inside from less

    here : pages ≡ 0 → (at : ℕ) → at < BLOCK_ROW_SIZE → slice_index (with_row handles place base pages) (BLOCK_ROW_SIZE * place + at) ≡ 0
    here zeroed at less = elim (cases_lt at 4) [
      | inl low ↦ put_away (put handles (BLOCK_ROW_SIZE * place) (dword_bytes base)) (BLOCK_ROW_SIZE * place + 4) (dword_bytes pages)
          (BLOCK_ROW_SIZE * place + at) (inr (omega arith))
          ∙ put_within handles (BLOCK_ROW_SIZE * place) (dword_bytes base) at (BLOCK_ROW_SIZE * place + at) (omega arith) low refl
          ∙ ap (λ (v : ℕ). slice_index (dword_bytes v) at) (none zeroed) ∙ zero_dword at low
      | inr high ↦ elim (cases_lt at 8) [
        | inl second ↦ put_within (put handles (BLOCK_ROW_SIZE * place) (dword_bytes base)) (BLOCK_ROW_SIZE * place + 4) (dword_bytes pages)
            (at - 4) (BLOCK_ROW_SIZE * place + at)
            (omega (arith, length-put handles (BLOCK_ROW_SIZE * place) (dword_bytes base))) (omega arith) (omega arith)
            ∙ ap (λ (v : ℕ). slice_index (dword_bytes v) (at - 4)) zeroed ∙ zero_dword (at - 4) (omega arith)
        | inr behind ↦ row_byte handles place base pages (BLOCK_ROW_SIZE * place + at) (inl (omega arith))
            ∙ keeps.rest place at within behind less
      ]
    ]

    free : (other at : ℕ) → other < MAX_BLOCKS → pages_of (with_row handles place base pages) other ≡ 0 → at < BLOCK_ROW_SIZE →
        slice_index (with_row handles place base pages) (BLOCK_ROW_SIZE * other + at) ≡ 0
    free other at inside zeroed less = elim (cases_eq other place) [
      | inl same ↦ ap (λ (k : ℕ). slice_index (with_row handles place base pages) (BLOCK_ROW_SIZE * k + at)) same
          ∙ here (sym (row_pages handles place base pages long within) ∙ ap (pages_of (with_row handles place base pages)) (sym same)
          ∙ zeroed) at less
      | inr ne ↦ (
          let away = beside_row place other at 1 ne (omega arith) in
          row_byte handles place base pages (BLOCK_ROW_SIZE * other + at) (elim away [ inl a ↦ inl a | inr a ↦ inr (omega arith) ])
          ∙ keeps.free other at inside (sym (other_pages handles place base pages other ne) ∙ zeroed) less)
    ]

-- the entries of the pages
entry_put : (tables : List ℕ) (page v : ℕ) → length tables ≡ PAGE_ENTRY_SIZE * BLOCK_REGION_PAGES → page < BLOCK_REGION_PAGES →
    entry_of (put tables (PAGE_ENTRY_SIZE * page) (dword_bytes v)) page ≡ v
entry_put tables page v long small = dword_put tables (PAGE_ENTRY_SIZE * page) v (omega arith)

entry_other : (tables : List ℕ) (page v other : ℕ) → other ≢ page →
    entry_of (put tables (PAGE_ENTRY_SIZE * page) (dword_bytes v)) other ≡ entry_of tables other
entry_other tables page v other ne = dword_put_other tables (PAGE_ENTRY_SIZE * page) (PAGE_ENTRY_SIZE * other) v (grind arith)

-- the lock counts
abbrev pub without_lock : List ℕ → ℕ → List ℕ
without_lock locks page = put locks (LOCK_COUNT_SIZE * page) (0 ∷ 0 ∷ [])

lock_here : (locks : List ℕ) (page : ℕ) → length locks ≡ LOCK_COUNT_SIZE * BLOCK_REGION_PAGES → page < BLOCK_REGION_PAGES →
    lock_of (without_lock locks page) page ≡ 0
lock_here locks page long small =
    let low : slice_index (without_lock locks page) (LOCK_COUNT_SIZE * page) ≡ 0 =
    put_within locks (LOCK_COUNT_SIZE * page) (0 ∷ 0 ∷ []) 0 (LOCK_COUNT_SIZE * page) (omega arith) (omega arith) (omega arith) in
    let high : slice_index (without_lock locks page) (LOCK_COUNT_SIZE * page + 1) ≡ 0 =
    put_within locks (LOCK_COUNT_SIZE * page) (0 ∷ 0 ∷ []) 1 (LOCK_COUNT_SIZE * page + 1) (omega arith) (omega arith) refl in
    rw (low, high) refl

lock_other : (locks : List ℕ) (page other : ℕ) → other ≢ page → lock_of (without_lock locks page) other ≡ lock_of locks other
lock_other locks page other ne =
    let low : slice_index (without_lock locks page) (LOCK_COUNT_SIZE * other) ≡ slice_index locks (LOCK_COUNT_SIZE * other) =
    put_away locks (LOCK_COUNT_SIZE * page) (0 ∷ 0 ∷ []) (LOCK_COUNT_SIZE * other) (beside 0 (omega arith)) in
    let high : slice_index (without_lock locks page) (LOCK_COUNT_SIZE * other + 1) ≡ slice_index locks (LOCK_COUNT_SIZE * other + 1) =
    put_away locks (LOCK_COUNT_SIZE * page) (0 ∷ 0 ∷ []) (LOCK_COUNT_SIZE * other + 1) (beside_one 1) in
    rw (low, high) refl
  where
    beside : (at : ℕ) → at < 1 → (LOCK_COUNT_SIZE * page + 2 ≤ LOCK_COUNT_SIZE * other) ⊎ (LOCK_COUNT_SIZE * other < LOCK_COUNT_SIZE * page)
    beside at l = elim (cases_lt page other) [ inl below ↦ inl (omega arith) | inr above ↦ inr (omega arith) ]

    beside_one : ℕ → (LOCK_COUNT_SIZE * page + 2 ≤ LOCK_COUNT_SIZE * other + 1) ⊎ (LOCK_COUNT_SIZE * other + 1 < LOCK_COUNT_SIZE * page)
    beside_one at = elim (cases_lt page other) [ inl below ↦ inl (omega arith) | inr above ↦ inr (omega arith) ]

-- a page more

abbrev pub grown_parts : MemoryParts → ℕ → ℕ → ℕ → ℕ → MemoryParts
grown_parts p place base n frame = record p {
  handles = with_row p.handles place base (n + 1);
  tables = put p.tables (PAGE_ENTRY_SIZE * region_page base n) (dword_bytes (budget_entry frame));
  vectors = put_head p.vectors (dword p.frames (PAGE_SIZE * frame));
  taken = slice_set p.taken frame 1;
  frames = put p.frames (PAGE_SIZE * frame) (copies PAGE_SIZE 0);
}

-- what is asked: the block may have the page, and the frame is the first free one
pub record MayGrow (p : MemoryParts) (budget place base n frame : ℕ) : Type 0 where
  pub sizes : HasSizes p budget
  pub room : HasRoom (block_parts p) place base n
  pub few : frame < budget
  pub free : slice_index p.taken frame ≡ 0
  pub head : dword p.vectors head_start ≡ BUDGET_FRAMES + frame

pub grown_more : (p : MemoryParts) (budget place base n frame : ℕ) → HoldsParts p budget → MayGrow p budget place base n frame →
    HasPageMore (block_parts p) (block_parts (grown_parts p place base n frame)) budget place base n frame
grown_more p budget place base n frame h may =
    grind (
      arith,
      entry_other,
      entry_put,
      get_or-set_other,
      get_or-set_same,
      other_base,
      other_pages,
      page_inside,
      page_outside,
      row_base,
      row_pages,
    )

pub grown_beside : (p : MemoryParts) (budget place base n frame : ℕ) →
    AgreesBeside (block_parts p) (block_parts (grown_parts p place base n frame)) budget (region_page base n) frame
grown_beside p budget place base n frame = grind (arith, length-copies, put_away)

pub grown_zero : (p : MemoryParts) (budget place base n frame : ℕ) → MayGrow p budget place base n frame → (at : ℕ) → at < PAGE_SIZE →
    slice_index (grown_parts p place base n frame).frames (PAGE_SIZE * frame + at) ≡ 0
grown_zero p budget place base n frame may at small =
    let few = may.few in
    put_within p.frames (PAGE_SIZE * frame) (copies PAGE_SIZE 0) at (PAGE_SIZE * frame + at)
    (omega (arith, length-copies PAGE_SIZE 0, may.sizes.frames)) (omega (arith, length-copies PAGE_SIZE 0)) refl
    ∙ at_copies PAGE_SIZE 0 at small

pub grown_unlocked : (p : MemoryParts) (budget place base n frame : ℕ) → HoldsParts p budget → MayGrow p budget place base n frame →
    lock_of p.locks (region_page base n) ≡ 0
grown_unlocked p budget place base n frame h may =
    h.locks.outside (region_page base n) (page_inside base n may.room.range) (page_outside (block_parts p) place base n may.room)

grown_list : (p : MemoryParts) (budget place base n frame : ℕ) → HoldsParts p budget → MayGrow p budget place base n frame →
    ListsFreeFrames (put_head p.vectors (dword p.frames (PAGE_SIZE * frame))) (slice_set p.taken frame 1)
    (put p.frames (PAGE_SIZE * frame) (copies PAGE_SIZE 0)) budget
grown_list p budget place base n frame h may = grind (arith, dword_put_beside, length-copies, list_taken)

pub grown_holds : (p : MemoryParts) (budget place base n frame : ℕ) → HoldsParts p budget → MayGrow p budget place base n frame →
    HoldsParts (grown_parts p place base n frame) budget
grown_holds p budget place base n frame h may =
    let old = block_parts p in
    let new = block_parts (grown_parts p place base n frame) in
    let more = grown_more p budget place base n frame h may in let grown = grows old new budget place base n frame more in
    let beside = grown_beside p budget place base n frame in
    let few = may.few in let most = may.sizes.most in let pages = may.room.pages in
    let vectors = keeps_head p.vectors (dword p.frames (PAGE_SIZE * frame)) h.vectors in
    let handles = keeps_handles p.handles place base (n + 1) may.sizes.handles may.room.within (λ none. absurd (omega arith)) h.handles in
    let blocks = entries_kept old new budget (region_page base n) frame grown h.blocks in
    let free = grown_list p budget place base n frame h may in
    let count : used new.taken ≡ all_pages new.handles = grind (arith, length-set, one_page_more, other_pages, used_more) in
    let unlocked = grown_unlocked p budget place base n frame h may in
    let locks = locks_kept old new budget (region_page base n) frame grown beside.locks unlocked h.locks in
    assumption

-- a page less

-- the address in the row of a block of n pages
abbrev pub base_in_row : ℕ → ℕ → ℕ
base_in_row base pages = if nat_eq pages 0 then 0 else base

abbrev pub shrunk_parts : MemoryParts → ℕ → ℕ → ℕ → ℕ → MemoryParts
shrunk_parts p place base n frame = record p {
  handles = with_row p.handles place (base_in_row base n) n;
  tables = put p.tables (PAGE_ENTRY_SIZE * region_page base n) (dword_bytes 0);
  vectors = put_head p.vectors (BUDGET_FRAMES + frame);
  taken = slice_set p.taken frame 0;
  locks = without_lock p.locks (region_page base n);
  frames = put p.frames (PAGE_SIZE * frame) (dword_bytes (dword p.vectors head_start));
}

-- what is asked: page n is the last one of the block, and lies in the frame
pub record MayShrink (p : MemoryParts) (budget place base n frame : ℕ) : Type 0 where
  pub sizes : HasSizes p budget
  pub ranges : HasRanges p.handles
  pub within : place < MAX_BLOCKS
  pub pages : pages_of p.handles place ≡ n + 1
  pub based : base_of p.handles place ≡ base
  pub few : frame < budget
  pub named : entry_of p.tables (region_page base n) ≡ budget_entry frame

base_kept : (base n : ℕ) → n ≢ 0 → base_in_row base n ≡ base
base_kept base n some = rw (ne_eqb n 0 some) refl

base_gone : (base n : ℕ) → n ≡ 0 → base_in_row base n ≡ 0
base_gone base n none = rw (eq-eqb n 0 none) refl

own_range : (p : MemoryParts) (budget place base n frame : ℕ) → MayShrink p budget place base n frame → IsRange base (n + 1)
own_range p budget place base n frame may = grind arith

pub shrunk_room : (p : MemoryParts) (budget place base n frame : ℕ) → MayShrink p budget place base n frame →
    HasRoom (block_parts (shrunk_parts p place base n frame)) place base n
shrunk_room p budget place base n frame may = grind (arith, base_kept, other_base, other_pages, own_range, row_base, row_pages)

pub shrunk_less : (p : MemoryParts) (budget place base n frame : ℕ) → HoldsParts p budget → MayShrink p budget place base n frame →
    HasPageMore (block_parts (shrunk_parts p place base n frame)) (block_parts p) budget place base n frame
shrunk_less p budget place base n frame h may =
    let small = page_inside base n (own_range p budget place base n frame may) in
    let few = may.few in let most = may.sizes.most in
    let named = may.named in
    let bit = h.blocks.bits frame in
    record {
      room = shrunk_room p budget place base n frame may;
      new_pages = may.pages;
      new_base = may.based;
      other_pages = λ other inside ne. sym (other_pages p.handles place (base_in_row base n) n other ne);
      other_bases = λ other inside ne. sym (other_base p.handles place (base_in_row base n) n other ne);
      no_entry = entry_put p.tables (region_page base n) 0 may.sizes.tables small;
      entry = may.named;
      other_entries = λ page less ne. sym (entry_other p.tables (region_page base n) 0 page ne);
      few = may.few;
      free = get_or-set_same p.taken frame 0 0 (omega (arith, may.sizes.taken));
      busy = grind arith;
      other_frames = λ other ne. sym (get_or-set_other p.taken frame other 0 0 ne);
    }

pub shrunk_beside : (p : MemoryParts) (budget place base n frame : ℕ) →
    AgreesBeside (block_parts (shrunk_parts p place base n frame)) (block_parts p) budget (region_page base n) frame
shrunk_beside p budget place base n frame = record {
  locks = λ other less ne. sym (lock_other p.locks (region_page base n) other ne);
  frames = λ at inside away. sym (put_away p.frames (PAGE_SIZE * frame) (dword_bytes (dword p.vectors head_start)) at (grind arith));
}

pub shrunk_holds : (p : MemoryParts) (budget place base n frame : ℕ) → HoldsParts p budget → MayShrink p budget place base n frame →
    HoldsParts (shrunk_parts p place base n frame) budget
shrunk_holds p budget place base n frame h may =
    let old = block_parts (shrunk_parts p place base n frame) in
    let new = block_parts p in
    let more = shrunk_less p budget place base n frame h may in let shrunk = shrinks old new budget place base n frame more in
    let beside = shrunk_beside p budget place base n frame in
    let few = may.few in let most = may.sizes.most in let pages = more.room.pages in
    let count : used p.taken ≡ used (slice_set p.taken frame 0) + 1 =
    used_more (slice_set p.taken frame 0) p.taken frame (length-set p.taken frame 0)
    (omega (arith, may.sizes.taken, length-set p.taken frame 0)) more.free (let busy = more.busy in omega arith) more.other_frames in
    let together : all_pages p.handles ≡ all_pages (with_row p.handles place (base_in_row base n) n) + 1 =
    one_page_more (with_row p.handles place (base_in_row base n) n) p.handles place may.within
    (more.new_pages ∙ ap (λ (k : ℕ). k + 1) (sym pages)) more.other_pages in
    let vectors = keeps_head p.vectors (BUDGET_FRAMES + frame) h.vectors in
    let handles = keeps_handles p.handles place (base_in_row base n) n may.sizes.handles may.within (base_gone base n) h.handles in
    let blocks = entries_kept new old budget (region_page base n) frame shrunk h.blocks in
    let locks = locks_kept new old budget (region_page base n) frame shrunk (λ other small ne. sym (beside.locks other small ne))
    (lock_here p.locks (region_page base n) may.sizes.locks (page_inside base n (own_range p budget place base n frame may))) h.locks in
    grind (arith, list_given)
