-- Two states of the block region that differ in one page: the block of a handle less 1 has it in the second one, in a frame that is free
-- in the first one. Each of the two keeps its page entries where the other one does: so a block grows and shrinks by the same record.
use Rattle.std.proofs.Common.{◌≡◌, ◌≢◌, ℕ, ◌+◌, ◌-◌, ◌*◌, ◌/◌, ◌<◌, ◌≤◌, ◌⊎◌, inl, inr, true, List, slice_index, ap, ◌∙◌, sym, subst, arith}
use Rattle.std.proofs.lemmas.Bool.{cases_eq}
use Rattle.client_world.specs.{declared.host_frames.TheConstants.{PAGE_SIZE, BUDGET_FRAMES}, declared.limits.TheConstants.{MAX_BLOCKS}}
use Rattle.client_world.specs.declared.memory_map.TheConstants.{BLOCK_REGION, BLOCK_REGION_PAGES}
use Rattle.page_tables.specs.Entry.{page_entry}
use Rattle.host_memory.specs.{Layout.{base_of, pages_of, first_page_of, entry_of, lock_of}, Holds.{KeepsLocks}, Tables.{HasBlockEntries}}
use Rattle.host_memory.specs.Tables.{NamesFrame, IsOutside}
use Rattle.host_memory.proofs.BlockRows.{IsRange}

-- the rows of the blocks, the entries of their pages, the taken bytes, the lock counts, and the budget frames
pub record BlockParts : Type 0 where
  pub handles : List ℕ
  pub tables : List ℕ
  pub taken : List ℕ
  pub locks : List ℕ
  pub frames : List ℕ

-- page n of a block at a linear address, among those of the block region
abbrev pub first_page : ℕ → ℕ
first_page base = (base - BLOCK_REGION) / PAGE_SIZE

abbrev pub region_page : ℕ → ℕ → ℕ
region_page base n = first_page base + n

-- the entry of a page that lies in that frame of the budget
abbrev pub budget_entry : ℕ → ℕ
budget_entry frame = page_entry (BUDGET_FRAMES + frame) true

-- what is asked of the first state: the block has n pages, and one page more meets no other block
pub record HasRoom (old : BlockParts) (place base n : ℕ) : Type 0 where
  pub within : place < MAX_BLOCKS
  pub range : IsRange base (n + 1)
  pub pages : pages_of old.handles place ≡ n
  pub based : n ≢ 0 → base_of old.handles place ≡ base
  pub ranges : (other : ℕ) → other < MAX_BLOCKS → other ≢ place → pages_of old.handles other ≢ 0 →
      IsRange (base_of old.handles other) (pages_of old.handles other)
  pub apart : (other : ℕ) → other < MAX_BLOCKS → other ≢ place → pages_of old.handles other ≢ 0 →
      (base + PAGE_SIZE * (n + 1) ≤ base_of old.handles other) ⊎ (base_of old.handles other + PAGE_SIZE * pages_of old.handles other ≤ base)

-- and what differs
pub record HasPageMore (old new : BlockParts) (budget place base n frame : ℕ) : Type 0 where
  pub room : HasRoom old place base n
  pub new_pages : pages_of new.handles place ≡ n + 1
  pub new_base : base_of new.handles place ≡ base
  pub other_pages : (other : ℕ) → other < MAX_BLOCKS → other ≢ place → pages_of new.handles other ≡ pages_of old.handles other
  pub other_bases : (other : ℕ) → other < MAX_BLOCKS → other ≢ place → base_of new.handles other ≡ base_of old.handles other
  pub no_entry : entry_of old.tables (region_page base n) ≡ 0
  pub entry : entry_of new.tables (region_page base n) ≡ budget_entry frame
  pub other_entries : (page : ℕ) → page < BLOCK_REGION_PAGES → page ≢ region_page base n →
      entry_of new.tables page ≡ entry_of old.tables page
  pub few : frame < budget
  pub free : slice_index old.taken frame ≡ 0
  pub busy : slice_index new.taken frame ≡ 1
  pub other_frames : (other : ℕ) → other ≢ frame → slice_index new.taken other ≡ slice_index old.taken other

pub page_inside : (base n : ℕ) → IsRange base (n + 1) → region_page base n < BLOCK_REGION_PAGES
page_inside base n r = let from = r.from in let to = r.to in let whole = r.whole in omega arith

-- the first pages of the blocks
pub first_new : (old new : BlockParts) (budget place base n frame : ℕ) → HasPageMore old new budget place base n frame →
    first_page_of new.handles place ≡ first_page base
first_new old new budget place base n frame m = let e = m.new_base in omega arith

pub first_old : (old new : BlockParts) (budget place base n frame : ℕ) → HasPageMore old new budget place base n frame → n ≢ 0 →
    first_page_of old.handles place ≡ first_page base
first_old old new budget place base n frame m some = let e = m.room.based some in omega arith

pub first_other : (old new : BlockParts) (budget place base n frame : ℕ) → HasPageMore old new budget place base n frame →
    (other : ℕ) → other < MAX_BLOCKS → other ≢ place → first_page_of new.handles other ≡ first_page_of old.handles other
first_other old new budget place base n frame m other within ne = let e = m.other_bases other within ne in omega arith

-- a page of another block is not that page
pub record IsAway (old : BlockParts) (base n other i : ℕ) : Type 0 where
  pub small : first_page_of old.handles other + i < BLOCK_REGION_PAGES
  pub differs : first_page_of old.handles other + i ≢ region_page base n

pub is_away : (old : BlockParts) (place base n : ℕ) → HasRoom old place base n → (other i : ℕ) → other < MAX_BLOCKS → other ≢ place →
    i < pages_of old.handles other → IsAway old base n other i
is_away old place base n m other i within ne less = grind arith

-- no block has that page in the first state
pub page_outside : (old : BlockParts) (place base n : ℕ) → HasRoom old place base n → IsOutside old.handles (region_page base n)
page_outside old place base n m = λ other i within less same. grind (arith, is_away)

-- what follows holds in both directions. In each of the two states the page and the frame are free, or the page lies in the frame
pub record IsFree (s : BlockParts) (page frame : ℕ) : Type 0 where
  pub entry : entry_of s.tables page ≡ 0
  pub taken : slice_index s.taken frame ≡ 0
  pub outside : IsOutside s.handles page

pub record IsUsed (s : BlockParts) (page frame : ℕ) : Type 0 where
  pub entry : entry_of s.tables page ≡ budget_entry frame
  pub taken : slice_index s.taken frame ≡ 1
  pub held : ¬ (IsOutside s.handles page)

-- a page of a block that isn't that one, and that the block has in these rows as well
pub record IsBeside (handles : List ℕ) (page place offset here : ℕ) : Type 0 where
  pub less : offset < pages_of handles place
  pub is : here ≡ first_page_of handles place + offset
  pub small : here < BLOCK_REGION_PAGES
  pub differs : here ≢ page

abbrev pub AreBeside : List ℕ → List ℕ → ℕ → Type 0
AreBeside was is page = (place offset : ℕ) → place < MAX_BLOCKS → offset < pages_of is place →
    (first_page_of is place + offset ≡ page) ⊎ IsBeside was page place offset (first_page_of is place + offset)

-- the second state against the first one
pub record AgreesButFor (was is : BlockParts) (budget page frame : ℕ) : Type 0 where
  pub inside : page < BLOCK_REGION_PAGES
  pub few : frame < budget
  pub before : IsFree was page frame ⊎ IsUsed was page frame
  pub after : IsFree is page frame ⊎ IsUsed is page frame
  pub pages : AreBeside was.handles is.handles page
  pub back : AreBeside is.handles was.handles page
  pub entries : (other : ℕ) → other < BLOCK_REGION_PAGES → other ≢ page → entry_of is.tables other ≡ entry_of was.tables other
  pub frames : (other : ℕ) → other ≢ frame → slice_index is.taken other ≡ slice_index was.taken other

-- the block grows
pub grows : (old new : BlockParts) (budget place base n frame : ℕ) → HasPageMore old new budget place base n frame →
    AgreesButFor old new budget (region_page base n) frame
grows old new budget place base n frame m =
    let room = m.room in let old_pages = room.pages in let new_pages = m.new_pages in
    let inside = page_inside base n room.range in let first = first_new old new budget place base n frame m in
    record {
      inside = inside;
      few = m.few;
      before = inl (record { entry = m.no_entry; taken = m.free; outside = page_outside old place base n room });
      after = inr (record { entry = m.entry; taken = m.busy; held = λ none. none place n room.within (omega arith) (omega arith) });
      pages = λ other i within less. grind (arith, first_old, first_other, is_away);
      back = λ other i within less. grind (arith, first_old, first_other, is_away);
      entries = m.other_entries;
      frames = m.other_frames;
    }

-- the block shrinks
pub shrinks : (old new : BlockParts) (budget place base n frame : ℕ) → HasPageMore old new budget place base n frame →
    AgreesButFor new old budget (region_page base n) frame
shrinks old new budget place base n frame m = let g = grows old new budget place base n frame m in grind arith

module _ (was is : BlockParts) (budget page frame : ℕ) (m : AgreesButFor was is budget page frame) where
  still_outside : (other : ℕ) → other ≢ page → IsOutside is.handles other → IsOutside was.handles other
  still_outside other ne none = λ place i within less same. elim (m.back place i within less) [
    | inl e ↦ ne (same ∙ e)
    | inr there ↦ none place i within there.less (same ∙ there.is)
  ]

  pub entries_kept : HasBlockEntries was.handles was.tables was.taken budget → HasBlockEntries is.handles is.tables is.taken budget
  entries_kept h = record {
    named = λ place i within less. elim (m.pages place i within less) [
      | inl e ↦ elim m.after [
        | inl free ↦ absurd (free.outside place i within less (sym e))
        | inr used ↦ let few = m.few in rw (e, used.entry) (record { writable = omega arith; from = omega arith; to = omega arith })
      ]
      | inr there ↦
          rw (m.entries (first_page_of is.handles place + i) there.small there.differs, there.is) (h.named place i within there.less)
    ];
    absent = λ other small none. elim (cases_eq other page) [
      | inl e ↦ elim m.after [
        | inl free ↦ ap (entry_of is.tables) e ∙ free.entry
        | inr used ↦ absurd (used.held (subst (IsOutside is.handles) e none))
      ]
      | inr ne ↦ m.entries other small ne ∙ h.absent other small (still_outside other ne none)
    ];
    once = once;
    idle = idle;
    busy = busy;
    bits = λ k. elim (cases_eq k frame) [
      | inl e ↦ elim m.after [ inl free ↦ rw (e, free.taken) (omega arith) | inr used ↦ rw (e, used.taken) (omega arith) ]
      | inr ne ↦ rw (m.frames k ne) (h.bits k)
    ];
    beyond = λ k from small. let f = m.few in m.frames k (omega arith) ∙ h.beyond k from small;
  }
    where
      -- no other page lies in that frame
      alone : (other : ℕ) → other < BLOCK_REGION_PAGES → other ≢ page → entry_of was.tables other ≢ budget_entry frame
      alone other small ne same = elim m.before [
        | inl free ↦ h.idle frame other m.few small free.taken same
        | inr used ↦ h.once other page small m.inside ne (omega arith) (same ∙ sym used.entry)
      ]

      own : (other : ℕ) → other ≡ page → entry_of is.tables other ≢ 0 → entry_of is.tables other ≡ budget_entry frame
      own other e some = elim m.after [
        | inl free ↦ absurd (some (ap (entry_of is.tables) e ∙ free.entry))
        | inr used ↦ ap (entry_of is.tables) e ∙ used.entry
      ]

      once : (one two : ℕ) → one < BLOCK_REGION_PAGES → two < BLOCK_REGION_PAGES → one ≢ two → entry_of is.tables one ≢ 0 →
          entry_of is.tables one ≢ entry_of is.tables two
      once one two small less ne some same = elim (cases_eq one page) [
        | inl e ↦ (let q : two ≢ page = omega arith in alone two less q (sym (m.entries two less q) ∙ sym same ∙ own one e some))
        | inr p ↦ elim (cases_eq two page) [
          | inl e ↦ alone one small p (sym (m.entries one small p) ∙ same ∙ own two e (λ none. some (same ∙ none)))
          | inr q ↦ h.once one two small less ne (λ none. some (m.entries one small p ∙ none))
              (sym (m.entries one small p) ∙ same ∙ m.entries two less q)
        ]
      ]

      idle : (k other : ℕ) → k < budget → other < BLOCK_REGION_PAGES → slice_index is.taken k ≡ 0 →
          entry_of is.tables other ≢ budget_entry k
      idle k other few small none same = elim (cases_eq other page) [
        | inl e ↦ (
            let there = own other e (omega arith) in
            let here : k ≡ frame = omega arith in
            elim m.after [
              | inl free ↦ (let zero : entry_of is.tables other ≡ 0 = ap (entry_of is.tables) e ∙ free.entry in omega arith)
              | inr used ↦ (let one : slice_index is.taken k ≡ 1 = ap (slice_index is.taken) here ∙ used.taken in omega arith)
            ])
        | inr p ↦ elim (cases_eq k frame) [
          | inl e ↦ alone other small p (sym (m.entries other small p) ∙ same ∙ ap budget_entry e)
          | inr q ↦ h.idle k other few small (sym (m.frames k q) ∙ none) (sym (m.entries other small p) ∙ same)
        ]
      ]

      busy : (k : ℕ) → k < budget → slice_index is.taken k ≢ 0 → NamesFrame is.tables k
      busy k few some = elim (cases_eq k frame) [
        | inl e ↦ elim m.after [
          | inl free ↦ absurd (some (ap (slice_index is.taken) e ∙ free.taken))
          | inr used ↦ record { page = page; inside = m.inside; named = used.entry ∙ ap budget_entry (sym e) }
        ]
        | inr differs ↦ (
            let there = h.busy k few (λ none. some (m.frames k differs ∙ none)) in
            let ne : there.page ≢ page =
            (λ e. let here : entry_of was.tables page ≡ budget_entry k = ap (entry_of was.tables) (sym e) ∙ there.named in
            elim m.before [ inl free ↦ (let zero = free.entry in omega arith) | inr used ↦ (let its = used.entry in omega arith) ]) in
            record { page = there.page; inside = there.inside; named = m.entries there.page there.inside ne ∙ there.named })
      ]

  -- a page that is no block's has no lock
  pub locks_kept : ((other : ℕ) → other < BLOCK_REGION_PAGES → other ≢ page → lock_of is.locks other ≡ lock_of was.locks other) →
      lock_of is.locks page ≡ 0 →
      KeepsLocks was.handles was.locks → KeepsLocks is.handles is.locks
  locks_kept same none h = record {
    outside = λ other small out. elim (cases_eq other page) [
      | inl e ↦ ap (lock_of is.locks) e ∙ none
      | inr ne ↦ same other small ne ∙ h.outside other small (still_outside other ne out)
    ];
  }

-- the lock counts and the bytes are the same but for that page and that frame
pub record AgreesBeside (old new : BlockParts) (budget page frame : ℕ) : Type 0 where
  pub locks : (other : ℕ) → other < BLOCK_REGION_PAGES → other ≢ page → lock_of new.locks other ≡ lock_of old.locks other
  pub frames : (at : ℕ) → at < PAGE_SIZE * budget → (at < PAGE_SIZE * frame) ⊎ (PAGE_SIZE * frame + PAGE_SIZE ≤ at) →
      slice_index new.frames at ≡ slice_index old.frames at
