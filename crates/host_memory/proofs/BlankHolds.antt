-- A new memory holds a world, the blank one: its lists, whose length the bytes tell, its counts, which are 0, and all else.
use Rattle.std.proofs.Common.{◌≡◌, ℕ, ◌+◌, ◌*◌, ◌<◌, ◌≤◌, zero, suc, List, [], ◌∷◌, slice_index, refl, ap, ◌∙◌, sym, arith, ◌-◌, inl, inr}
use Rattle.std.proofs.Common.{true, false, nat_eq, None}
use Rattle.std.specs.{List.{range_with_len}, declared.option.Option.{Option}}
use Rattle.client_world.specs.{declared.dos_memory.DosEntry.{DosEntry}, declared.limits.TheConstants.{MAX_BLOCKS, GREATEST_DEPTH}}
use Rattle.client_world.specs.declared.limits.TheConstants.{MAX_PAGES, CALLBACKS, INTERRUPT_VECTORS, EXCEPTION_VECTORS}
use Rattle.client_world.specs.{declared.registers.Mode.TheVariants.{Real}, declared.host_frames.TheConstants.{DESCRIPTORS, BLOCK_ROW_SIZE}}
use Rattle.client_world.specs.declared.host_frames.TheConstants.{CALLBACK_SIZE, DESCRIPTOR_ROW_SIZE, VECTOR_SIZE}
use Rattle.client_world.specs.{declared.memory_map.TheConstants.{DOS_VIEW_PAGES}, declared.traps.TheConstants.{PROTECTED_VECTOR_TRAPS}}
use Rattle.client_world.specs.{declared.traps.TheConstants.{EXCEPTION_TRAPS}, Selector.{Row}, World.{Callback}}
use Rattle.guest_ram.specs.{Count.{used, total}, Listed.{listed}}
use Rattle.host_memory.specs.{Blank.{blank_arena, no_regs, blank_world, host_pointer}, DosList.{entry_at, entry_bytes, entries_from}}
use Rattle.host_memory.specs.{DosList.{entry_count, entry_size, arena_in, KeepsArena}, Holds.{all_pages, Holds, KeepsRows, KeepsHandles}}
use Rattle.host_memory.specs.Layout.{pages_of, world_of, fixed_part, tables_part, rows_part, vectors_part, records_part, handles_part}
use Rattle.host_memory.specs.{Layout.{locks_part, arena_part, taken_part, budget_part, block_in, blocks_in}, Records.{records_from}}
use Rattle.host_memory.specs.{Records.{record_count, record_size, calls_in, KeepsRecords}, Tables.{HasFixedEntries, HasBlockEntries}}
use Rattle.host_memory.specs.Vectors.{KeepsVectors, pointer_at, callback_at, callback_bytes, callbacks_start, pageable_start}
use Rattle.host_memory.specs.Vectors.{exceptions_start, interrupt_vectors_in, exception_vectors_in, callbacks_in, pageable_in}
use Rattle.host_memory.proofs.{FreshMemory.{whole_arena, IsBlank}, BlockRows.{row_free}, Parts.{parts_of_list}, BlankParts.{rows_zero}}
use Rattle.host_memory.proofs.BlankParts.{records_zero, handles_zero, taken_zero, no_entry, no_pages, no_lock, free_row_byte, no_row}
use Rattle.host_memory.proofs.BlankParts.{vector_of, vector_is, vector_byte_is, rest_zero, no_callback, free_callback_byte, arena_byte}
use Rattle.host_memory.proofs.BlankParts.{arena_zero}
use Rattle.guest_ram.proofs.{PutLaws.{dword-region}, ListedLaws.{same_listed}}
use Rattle.desc_table.specs.Rows.{row_at, row_bytes, rows_from}

-- where the first kind is 0 there is no record
no_record : (part : List ℕ) (place n : ℕ) → slice_index part (record_size * place) ≡ 0 → records_from part place n ≡ 0
unfolding records_from
no_record part place zero e = refl
no_record part place (suc n) e = rw e refl

pub no_records : (part : List ℕ) → ((at : ℕ) → slice_index part at ≡ 0) → record_count part ≡ 0
no_records part h = no_record part 0 GREATEST_DEPTH (h 0)

listed_none : {X : Type 0} (n : ℕ) (f : ℕ → X) → n ≡ 0 → listed n f ≡ []
unfolding listed
listed_none n f e = rw e refl

pub no_calls : (part : List ℕ) → ((at : ℕ) → slice_index part at ≡ 0) → calls_in part ≡ []
unfolding calls_in
no_calls part h = listed_none (record_count part) _ (no_records part h)

-- where the first state isn't 0 and the second one is, there is one entry
no_entry_more : (part : List ℕ) (n : ℕ) → slice_index part 12 ≡ 0 → entries_from part 1 n ≡ 0
unfolding entries_from
no_entry_more part zero e = refl
no_entry_more part (suc n) e = rw e refl

one_entry : (part : List ℕ) (n : ℕ) → slice_index part 4 ≡ 1 → slice_index part 12 ≡ 0 → entries_from part 0 (suc n) ≡ 1
unfolding entries_from
one_entry part n e f = let none : entries_from part 1 n ≡ 0 = no_entry_more part n f in rw (e, none) refl

-- the bytes of a list with the one entry of a new memory, and zeros after it
pub record OneEntry (part : List ℕ) : Type 0 where
  pub each : (at : ℕ) → at < entry_size → slice_index part at ≡ slice_index (entry_bytes whole_arena) at
  pub zeros : (at : ℕ) → entry_size ≤ at → slice_index part at ≡ 0

pub count_is : (part : List ℕ) → OneEntry part → entry_count part ≡ 1
count_is part h = one_entry part 40959 (h.each 4 (omega arith)) (h.zeros 12 (omega arith))

entry_is : (part : List ℕ) → OneEntry part → entry_at part 0 ≡ whole_arena
unfolding entry_at
entry_is part h = grind arith

one_listed : {X : Type 0} (n : ℕ) (f : ℕ → X) → n ≡ 1 → listed n f ≡ f 0 ∷ []
unfolding listed
one_listed n f e = rw e refl

pub arena_is_whole : (part : List ℕ) → OneEntry part → arena_in part ≡ blank_arena
unfolding arena_in
arena_is_whole part h = grind (arith, count_is, entry_is, one_listed)

pub keeps_one_entry : (part : List ℕ) → OneEntry part → KeepsArena part
keeps_one_entry part h = grind (arith, count_is, each)
  where
    each : (place at : ℕ) → place ≡ 0 → at < entry_size →
        slice_index part (entry_size * place + at) ≡ slice_index (entry_bytes (entry_at part (entry_size * place))) at
    each place at first small =
        ap (λ (k : ℕ). slice_index part k) (let e : entry_size * place + at ≡ at = omega arith in e)
        ∙ h.each at small
        ∙ ap (λ (entry : DosEntry). slice_index (entry_bytes entry) at)
        (sym (ap (λ (k : ℕ). entry_at part k) (let e : entry_size * place ≡ 0 = omega arith in e) ∙ entry_is part h))

-- where all are 0 none is used, and they are 0 together
pub none_used : (xs : List ℕ) → ((k : ℕ) → slice_index xs k ≡ 0) → used xs ≡ 0
none_used [] h = refl
none_used (x ∷ xs) h =
    let first : x ≡ 0 = h 0 in
    let others = none_used xs (λ k. h (suc k)) in
    rw (first, others) refl

none_together : (f : ℕ → ℕ) (from n : ℕ) → ((k : ℕ) → f k ≡ 0) → total f (range_with_len from n) ≡ 0
none_together f from zero h = refl
none_together f from (suc n) h =
    let first = h from in
    let others = none_together f (from + 1) n h in
    omega arith

pub no_pages_together : (handles : List ℕ) → ((place : ℕ) → pages_of handles place ≡ 0) → all_pages handles ≡ 0
unfolding all_pages
no_pages_together handles h = none_together (pages_of handles) 0 MAX_BLOCKS h

-- ---- the world

fixed_entries : (b : List ℕ) (budget : ℕ) → IsBlank b budget → HasFixedEntries (fixed_part b)
fixed_entries b budget h = grind (arith, dword-region)

free_rows : (b : List ℕ) (budget : ℕ) → IsBlank b budget → KeepsRows (rows_part b)
free_rows b budget h = record {
  each = λ index at small within.
      rows_zero b budget h (DESCRIPTOR_ROW_SIZE * index + at)
      ∙ sym (ap (λ (row : Row). slice_index (row_bytes row) at) (no_row b budget h (DESCRIPTOR_ROW_SIZE * index))
      ∙ free_row_byte at within);
}

host_vectors : (b : List ℕ) (budget : ℕ) → IsBlank b budget → KeepsVectors (vectors_part b)
host_vectors b budget h = record {
  vectors = λ n at small within. vector_byte_is b budget h n at small within;
  callbacks = λ slot at small within.
      rest_zero b budget h (callbacks_start + (CALLBACK_SIZE * slot + at)) (omega arith) (omega arith) (inl (omega arith))
      ∙ sym (ap (λ (callback : Option Callback). slice_index (callback_bytes callback) at)
      (no_callback b budget h (callbacks_start + CALLBACK_SIZE * slot) (omega arith) (omega arith)) ∙ free_callback_byte at within);
  pageable = λ page small. let e = rest_zero b budget h (pageable_start + page) (omega arith) (omega arith) (inl (omega arith)) in
      omega arith;
  rest = λ at from to. rest_zero b budget h at (omega arith) to (inr from);
}

records_none : (b : List ℕ) (budget : ℕ) → IsBlank b budget → KeepsRecords (records_part b)
records_none b budget h = record {
  each = λ place at within small. absurd (let none = no_records (records_part b) (records_zero b budget h) in omega arith);
  rest = λ at behind within. records_zero b budget h at;
}

free_handles : (b : List ℕ) (budget : ℕ) → IsBlank b budget → KeepsHandles (handles_part b)
free_handles b budget h = record {
  rest = λ place at small from to. handles_zero b budget h (BLOCK_ROW_SIZE * place + at);
  free = λ place at small none within. handles_zero b budget h (BLOCK_ROW_SIZE * place + at);
}

absent_entries : (b : List ℕ) (budget : ℕ) → IsBlank b budget → HasBlockEntries (handles_part b) (tables_part b) (taken_part b) budget
absent_entries b budget h = record {
  named = λ place offset small within. absurd (let none = no_pages b budget h place in omega arith);
  absent = λ page small outside. no_entry b budget h page;
  once = λ page other small within ne there. absurd (there (no_entry b budget h page));
  idle = λ frame page within small free named. let none = no_entry b budget h page in omega arith;
  busy = λ frame within taken. absurd (taken (taken_zero b budget h frame));
  bits = λ frame. let none = taken_zero b budget h frame in omega arith;
  beyond = λ frame from to. taken_zero b budget h frame;
}

has_one_entry : (b : List ℕ) (budget : ℕ) → IsBlank b budget → OneEntry (arena_part b)
has_one_entry b budget h = record { each = arena_byte b budget h; zeros = arena_zero b budget h }

-- a new memory holds a world
pub blank_holds : (b : List ℕ) (budget : ℕ) → budget ≤ MAX_PAGES → IsBlank b budget → Holds b budget
blank_holds b budget most h = record {
  size = h.size;
  most = most;
  fixed = fixed_entries b budget h;
  rows = free_rows b budget h;
  vectors = host_vectors b budget h;
  records = records_none b budget h;
  handles = free_handles b budget h;
  blocks = absent_entries b budget h;
  free = parts_of_list b budget (record { size = h.size; most = most }) h.free;
  count = none_used (taken_part b) (taken_zero b budget h) ∙ sym (no_pages_together (handles_part b) (no_pages b budget h));
  locks = record { outside = λ page small outside. no_lock b budget h page };
  arena = keeps_one_entry (arena_part b) (has_one_entry b budget h);
}

no_blocks : (b : List ℕ) (budget : ℕ) → IsBlank b budget →
    blocks_in (handles_part b) (tables_part b) (locks_part b) (budget_part b budget) ≡ listed MAX_BLOCKS (λ place. None)
no_blocks b budget h =
    same_listed MAX_BLOCKS (block_in (handles_part b) (tables_part b) (locks_part b) (budget_part b budget)) (λ place. None)
    (λ place small. row_free (handles_part b) (tables_part b) (locks_part b) (budget_part b budget) place (no_pages b budget h place))

no_rows : (b : List ℕ) (budget : ℕ) → IsBlank b budget → rows_from (rows_part b) 0 ≡ listed DESCRIPTORS (λ index. None)
unfolding rows_from
no_rows b budget h = same_listed DESCRIPTORS (λ index. row_at (rows_part b) (0 + DESCRIPTOR_ROW_SIZE * index)) (λ index. None)
    (λ index small. no_row b budget h (0 + DESCRIPTOR_ROW_SIZE * index))

interrupts : (b : List ℕ) (budget : ℕ) → IsBlank b budget →
    interrupt_vectors_in (vectors_part b) ≡ listed INTERRUPT_VECTORS (λ n. host_pointer (PROTECTED_VECTOR_TRAPS + n))
interrupts b budget h =
    same_listed INTERRUPT_VECTORS (λ n. pointer_at (vectors_part b) (VECTOR_SIZE * n)) (λ n. host_pointer (PROTECTED_VECTOR_TRAPS + n))
    (λ n small. vector_is b budget h n (omega arith)
    ∙ ap vector_of (let e : 0x200 + n ≡ 0xF0200 + n - 0xF0000 = omega arith in e))

exceptions : (b : List ℕ) (budget : ℕ) → IsBlank b budget →
    exception_vectors_in (vectors_part b) ≡ listed EXCEPTION_VECTORS (λ n. host_pointer (EXCEPTION_TRAPS + n))
exceptions b budget h = same_listed EXCEPTION_VECTORS (λ n. pointer_at (vectors_part b) (exceptions_start + VECTOR_SIZE * n))
    (λ n. host_pointer (EXCEPTION_TRAPS + n))
    (λ n small. ap (λ (at : ℕ). pointer_at (vectors_part b) at)
    (let e : exceptions_start + VECTOR_SIZE * n ≡ VECTOR_SIZE * (INTERRUPT_VECTORS + n) = omega arith in e)
    ∙ vector_is b budget h (INTERRUPT_VECTORS + n) (omega arith)
    ∙ ap vector_of (let e : 0x200 + (INTERRUPT_VECTORS + n) ≡ 0xF0300 + n - 0xF0000 = omega arith in e))

no_callbacks : (b : List ℕ) (budget : ℕ) → IsBlank b budget → callbacks_in (vectors_part b) ≡ listed CALLBACKS (λ slot. None)
no_callbacks b budget h =
    same_listed CALLBACKS (λ slot. callback_at (vectors_part b) (callbacks_start + CALLBACK_SIZE * slot)) (λ slot. None)
    (λ slot small. no_callback b budget h (callbacks_start + CALLBACK_SIZE * slot) (omega arith) (omega arith))

not_pageable : (b : List ℕ) (budget : ℕ) → IsBlank b budget → pageable_in (vectors_part b) ≡ listed DOS_VIEW_PAGES (λ page. false)
not_pageable b budget h =
    same_listed DOS_VIEW_PAGES (λ page. nat_eq (slice_index (vectors_part b) (pageable_start + page)) 1) (λ page. false)
    (λ page small.
    ap (λ (v : ℕ). nat_eq v 1) (rest_zero b budget h (pageable_start + page) (omega arith) (omega arith) (inl (omega arith))))

pub blank_world_is : (b : List ℕ) (budget : ℕ) → IsBlank b budget → world_of b budget Real no_regs true None ≡ blank_world budget
unfolding world_of blank_world
blank_world_is b budget h =
    rw (
      h.megabyte,
      arena_is_whole (arena_part b) (has_one_entry b budget h),
      no_blocks b budget h,
      not_pageable b budget h,
      no_rows b budget h,
      interrupts b budget h,
      exceptions b budget h,
      no_callbacks b budget h,
      no_calls (records_part b) (records_zero b budget h),
    )
