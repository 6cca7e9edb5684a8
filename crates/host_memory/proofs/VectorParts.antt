-- A far pointer, a callback, or a byte of a pageable page, put into the frame of the vectors: its lists, and what it must keep.
use Rattle.std.proofs.Common.{◌≡◌, ◌≢◌, ℕ, zero, suc, ◌+◌, ◌*◌, ◌/◌, ◌%◌, ◌<◌, ◌≤◌, ◌⊎◌, inl, inr, Bool, true, false, List, [], ◌∷◌, length}
use Rattle.std.proofs.Common.{slice_index, slice_set, refl, ap, ◌∙◌, sym, subst, arith, Option, Some, None, nat_eq, cond}
use Rattle.std.proofs.lemmas.Bool.{cases_eq, cases_lt}
use Rattle.client_world.specs.declared.host_frames.TheConstants.{PAGE_SIZE, CALLBACK_SIZE, VECTOR_FRAMES, VECTOR_SIZE}
use Rattle.client_world.specs.declared.limits.TheConstants.{CALLBACKS, INTERRUPT_VECTORS, EXCEPTION_VECTORS}
use Rattle.client_world.specs.{declared.memory_map.TheConstants.{DOS_VIEW_PAGES}, declared.segments.FarPtr.{FarPtr}, World.{Callback}}
use Rattle.guest_ram.specs.Bytes.{put, dword, dword_bytes, word_of}
use Rattle.guest_ram.proofs.{ListedLaws.{listed-set, same_listed}, PutLaws.{dword_put, length-put, put_away, put_below, put_within}}
use Rattle.guest_ram.proofs.PutLaws.{same_dword}
use Rattle.host_memory.specs.Vectors.{KeepsVectors, callback_at, callback_bytes, callbacks_in, callbacks_start, exception_vectors_in}
use Rattle.host_memory.specs.Vectors.{exceptions_start, head_end, head_start, interrupt_vectors_in, pageable_in, pageable_start, pointer_at}
use Rattle.host_memory.specs.Vectors.{vector_bytes, word_bytes}

-- ---- a pointer

abbrev pub put_pointer : List ℕ → ℕ → FarPtr → List ℕ
put_pointer part at p = put (put part at (dword_bytes p.off)) (at + 4) (word_bytes p.sel)

-- its six bytes alone change
pub pointer_away : (part : List ℕ) (at : ℕ) (p : FarPtr) (k : ℕ) → (at + 6 ≤ k) ⊎ (k < at) →
    slice_index (put_pointer part at p) k ≡ slice_index part k
pointer_away part at p k away =
    put_away (put part at (dword_bytes p.off)) (at + 4) (word_bytes p.sel) k (outer away)
    ∙ put_away part at (dword_bytes p.off) k (inner away)
  where
    outer : (at + 6 ≤ k) ⊎ (k < at) → (at + 4 + 2 ≤ k) ⊎ (k < at + 4)
    outer a = elim a [ inl above ↦ inl (omega arith) | inr below ↦ inr (omega arith) ]

    inner : (at + 6 ≤ k) ⊎ (k < at) → (at + 4 ≤ k) ⊎ (k < at)
    inner a = elim a [ inl above ↦ inl (omega arith) | inr below ↦ inr below ]

low_bytes : (part : List ℕ) (at : ℕ) (p : FarPtr) (i k : ℕ) → at + 6 ≤ length part → i < 4 → k ≡ at + i →
    slice_index (put_pointer part at p) k ≡ slice_index (dword_bytes p.off) i
low_bytes part at p i k room less e =
    put_below (put part at (dword_bytes p.off)) (at + 4) (word_bytes p.sel) k (omega arith)
    ∙ put_within part at (dword_bytes p.off) i k (omega arith) less e

high_bytes : (part : List ℕ) (at : ℕ) (p : FarPtr) (i k : ℕ) → at + 6 ≤ length part → i < 2 → k ≡ at + 4 + i →
    slice_index (put_pointer part at p) k ≡ slice_index (word_bytes p.sel) i
high_bytes part at p i k room less e =
    put_within (put part at (dword_bytes p.off)) (at + 4) (word_bytes p.sel) i k
    (omega (arith, length-put part at (dword_bytes p.off))) less e

abbrev pub far : ℕ → ℕ → FarPtr
far sel off = record { sel = sel; off = off }

pub same_parts : (p : FarPtr) (sel off : ℕ) → sel ≡ p.sel → off ≡ p.off → record { sel = sel; off = off } ≡ p
same_parts p sel off one other = ap (λ (s : ℕ). far s off) one ∙ ap (λ (o : ℕ). far p.sel o) other

pub pointer_there : (part : List ℕ) (at : ℕ) (p : FarPtr) → at + 6 ≤ length part → pointer_at (put_pointer part at p) at ≡ p
pointer_there part at p room = same_parts p _ _ selector offset
  where
    offset : dword (put_pointer part at p) at ≡ p.off
    offset = same_dword (put_pointer part at p) (put part at (dword_bytes p.off)) at at
        (λ i less. put_below (put part at (dword_bytes p.off)) (at + 4) (word_bytes p.sel) (at + i) (omega arith))
        ∙ dword_put part at p.off (omega arith)

    selector : word_of (put_pointer part at p) (at + 4) ≡ p.sel
    selector =
        let low : slice_index (put_pointer part at p) (at + 4) ≡ p.sel % 0x100 =
        high_bytes part at p 0 (at + 4) room (omega arith) (omega arith) in
        let high : slice_index (put_pointer part at p) (at + 4 + 1) ≡ p.sel / 0x100 =
        high_bytes part at p 1 (at + 4 + 1) room (omega arith) refl in
        rw (low, high) (omega arith)

pub same_pointer : (b c : List ℕ) (at : ℕ) → ((i : ℕ) → i < 6 → slice_index b (at + i) ≡ slice_index c (at + i)) →
    pointer_at b at ≡ pointer_at c at
same_pointer b c at same = grind (arith, same_dword, same_parts)

-- the bytes of a vector, of which the last two are 0
stored : (part : List ℕ) (at : ℕ) (p : FarPtr) → at + VECTOR_SIZE ≤ length part → slice_index part (at + 6) ≡ 0 →
    slice_index part (at + 7) ≡ 0 →
    (i : ℕ) → i < VECTOR_SIZE → slice_index (put_pointer part at p) (at + i) ≡ slice_index (vector_bytes p) i
stored part at p room six seven zero less = low_bytes part at p 0 (at + 0) (omega arith) (omega arith) (omega arith)
stored part at p room six seven (suc zero) less = low_bytes part at p 1 (at + 1) (omega arith) (omega arith) (omega arith)
stored part at p room six seven (suc (suc zero)) less = low_bytes part at p 2 (at + 2) (omega arith) (omega arith) (omega arith)
stored part at p room six seven (suc (suc (suc zero))) less = low_bytes part at p 3 (at + 3) (omega arith) (omega arith) (omega arith)
stored part at p room six seven (suc (suc (suc (suc zero)))) less =
    high_bytes part at p 0 (at + 4) (omega arith) (omega arith) (omega arith)
stored part at p room six seven (suc (suc (suc (suc (suc zero))))) less =
    high_bytes part at p 1 (at + 5) (omega arith) (omega arith) (omega arith)
stored part at p room six seven (suc (suc (suc (suc (suc (suc zero)))))) less = pointer_away part at p (at + 6) (inl (omega arith)) ∙ six
stored part at p room six seven (suc (suc (suc (suc (suc (suc (suc zero))))))) less =
    pointer_away part at p (at + 7) (inl (omega arith)) ∙ seven
stored part at p room six seven (suc (suc (suc (suc (suc (suc (suc (suc i)))))))) less = absurd (omega arith)

-- ---- the lists of the frame where some bytes are the same

same_callback : (b c : List ℕ) (at : ℕ) → ((i : ℕ) → i < CALLBACK_SIZE → slice_index b (at + i) ≡ slice_index c (at + i)) →
    callback_at b at ≡ callback_at c at
unfolding callback_at
same_callback b c at same =
    let procedure = same_pointer b c at (λ i less. same i (omega arith)) in
    let structure = same_pointer b c (at + 6) (λ i less. (let k : at + (6 + i) ≡ at + 6 + i = omega arith in
    ap (slice_index b) (sym k) ∙ same (6 + i) (omega arith) ∙ ap (slice_index c) k)) in
    rw (same 12 (omega arith), procedure, structure) refl

-- the bytes are the same from the callbacks on
pub same_callbacks : (b c : List ℕ) → ((k : ℕ) → callbacks_start ≤ k → k < pageable_start → slice_index b k ≡ slice_index c k) →
    callbacks_in b ≡ callbacks_in c
same_callbacks b c same = same_listed CALLBACKS (λ slot. callback_at b (callbacks_start + CALLBACK_SIZE * slot))
    (λ slot. callback_at c (callbacks_start + CALLBACK_SIZE * slot))
    (λ slot less. same_callback b c (callbacks_start + CALLBACK_SIZE * slot)
    (λ i small. same (callbacks_start + CALLBACK_SIZE * slot + i) (omega arith) (omega arith)))

pub same_pageable : (b c : List ℕ) → ((k : ℕ) → pageable_start ≤ k → k < head_start → slice_index b k ≡ slice_index c k) →
    pageable_in b ≡ pageable_in c
same_pageable b c same = same_listed DOS_VIEW_PAGES (λ page. nat_eq (slice_index b (pageable_start + page)) 1)
    (λ page. nat_eq (slice_index c (pageable_start + page)) 1)
    (λ page less. ap (λ (x : ℕ). nat_eq x 1) (same (pageable_start + page) (omega arith) (omega arith)))

pub same_interrupts : (b c : List ℕ) → ((k : ℕ) → k < exceptions_start → slice_index b k ≡ slice_index c k) →
    interrupt_vectors_in b ≡ interrupt_vectors_in c
same_interrupts b c same = same_listed INTERRUPT_VECTORS (λ n. pointer_at b (VECTOR_SIZE * n)) (λ n. pointer_at c (VECTOR_SIZE * n))
    (λ n less. same_pointer b c (VECTOR_SIZE * n) (λ i small. same (VECTOR_SIZE * n + i) (omega arith)))

pub same_exceptions : (b c : List ℕ) → ((k : ℕ) → exceptions_start ≤ k → k < callbacks_start → slice_index b k ≡ slice_index c k) →
    exception_vectors_in b ≡ exception_vectors_in c
same_exceptions b c same = same_listed EXCEPTION_VECTORS (λ n. pointer_at b (exceptions_start + VECTOR_SIZE * n))
    (λ n. pointer_at c (exceptions_start + VECTOR_SIZE * n))
    (λ n less. same_pointer b c (exceptions_start + VECTOR_SIZE * n)
    (λ i small. same (exceptions_start + VECTOR_SIZE * n + i) (omega arith) (omega arith)))

-- what the callbacks and the bytes after them must keep
keeps_callbacks : (part other : List ℕ) → KeepsVectors part →
    ((k : ℕ) → callbacks_start ≤ k → k < pageable_start → slice_index other k ≡ slice_index part k) →
    (slot at : ℕ) → slot < CALLBACKS → at < CALLBACK_SIZE → slice_index other (callbacks_start + (CALLBACK_SIZE * slot + at))
    ≡ slice_index (callback_bytes (callback_at other (callbacks_start + CALLBACK_SIZE * slot))) at
keeps_callbacks part other keeps same slot at less small = grind (arith, same_callback)

-- ---- a vector, of one of the two lists

pub keeps_pointer : (part : List ℕ) (v : ℕ) (p : FarPtr) → length part ≡ PAGE_SIZE * VECTOR_FRAMES →
    v < INTERRUPT_VECTORS + EXCEPTION_VECTORS → KeepsVectors part → KeepsVectors (put_pointer part (VECTOR_SIZE * v) p)
keeps_pointer part v p long within keeps = grind (arith, keeps_callbacks, pointer_away, vectors)
  where
    vectors : (n at : ℕ) → n < INTERRUPT_VECTORS + EXCEPTION_VECTORS → at < VECTOR_SIZE →
        slice_index (put_pointer part (VECTOR_SIZE * v) p) (VECTOR_SIZE * n + at)
        ≡ slice_index (vector_bytes (pointer_at (put_pointer part (VECTOR_SIZE * v) p) (VECTOR_SIZE * n))) at
    vectors n at small less = elim (cases_eq n v) [
      | inl same ↦ (let k : VECTOR_SIZE * n ≡ VECTOR_SIZE * v = omega arith in
          ap (λ (x : ℕ). slice_index (put_pointer part (VECTOR_SIZE * v) p) (x + at)) k
          ∙ stored part (VECTOR_SIZE * v) p (omega arith) (keeps.vectors v 6 within (omega arith))
          (keeps.vectors v 7 within (omega arith)) at less
          ∙ sym (ap (λ (q : FarPtr). slice_index (vector_bytes q) at)
          (ap (pointer_at (put_pointer part (VECTOR_SIZE * v) p)) k ∙ pointer_there part (VECTOR_SIZE * v) p (omega arith))))
      | inr ne ↦ (pointer_away part (VECTOR_SIZE * v) p (VECTOR_SIZE * n + at) (beside n at ne less)
          ∙ keeps.vectors n at small less
          ∙ sym (ap (λ (q : FarPtr). slice_index (vector_bytes q) at)
          (same_pointer (put_pointer part (VECTOR_SIZE * v) p) part (VECTOR_SIZE * n)
          (λ i s. pointer_away part (VECTOR_SIZE * v) p (VECTOR_SIZE * n + i) (beside n i ne (omega arith))))))
    ]
      where
        beside : (n at : ℕ) → n ≢ v → at < VECTOR_SIZE → (VECTOR_SIZE * v + 6 ≤ VECTOR_SIZE * n + at)
            ⊎ (VECTOR_SIZE * n + at < VECTOR_SIZE * v)
        beside n at ne less = elim (cases_lt n v) [ inl below ↦ inr (omega arith) | inr above ↦ inl (omega arith) ]

pub interrupts_set : (part : List ℕ) (n : ℕ) (p : FarPtr) → length part ≡ PAGE_SIZE * VECTOR_FRAMES → n < INTERRUPT_VECTORS →
    interrupt_vectors_in (put_pointer part (VECTOR_SIZE * n) p) ≡ slice_set (interrupt_vectors_in part) n p
interrupts_set part n p long within = grind (arith, listed-set, pointer_away, pointer_there, same_pointer)

pub exceptions_set : (part : List ℕ) (n : ℕ) (p : FarPtr) → length part ≡ PAGE_SIZE * VECTOR_FRAMES → n < EXCEPTION_VECTORS →
    exception_vectors_in (put_pointer part (exceptions_start + VECTOR_SIZE * n) p) ≡ slice_set (exception_vectors_in part) n p
exceptions_set part n p long within = grind (arith, listed-set, pointer_away, pointer_there, same_pointer)

-- ---- a callback

abbrev pub put_callback : List ℕ → ℕ → Option Callback → List ℕ
put_callback part slot row = put part (callbacks_start + CALLBACK_SIZE * slot) (callback_bytes row)

pub length-callback_bytes : (row : Option Callback) → length (callback_bytes row) ≡ CALLBACK_SIZE
unfolding callback_bytes
length-callback_bytes None = refl
length-callback_bytes (Some callback) = refl

-- its sixteen bytes alone change
pub callback_away : (part : List ℕ) (slot : ℕ) (row : Option Callback) (k : ℕ) →
    (callbacks_start + CALLBACK_SIZE * slot + CALLBACK_SIZE ≤ k) ⊎ (k < callbacks_start + CALLBACK_SIZE * slot) →
    slice_index (put_callback part slot row) k ≡ slice_index part k
callback_away part slot row k away =
    put_away part (callbacks_start + CALLBACK_SIZE * slot) (callback_bytes row) k (grind (arith, length-callback_bytes))

callback_within : (part : List ℕ) (slot : ℕ) (row : Option Callback) (i k : ℕ) → length part ≡ PAGE_SIZE * VECTOR_FRAMES →
    slot < CALLBACKS → i < CALLBACK_SIZE → k ≡ callbacks_start + CALLBACK_SIZE * slot + i →
    slice_index (put_callback part slot row) k ≡ slice_index (callback_bytes row) i
callback_within part slot row i k long within less e =
    put_within part (callbacks_start + CALLBACK_SIZE * slot) (callback_bytes row) i k (omega (arith, length-callback_bytes row))
    (omega (arith, length-callback_bytes row)) e

-- a far pointer and a callback by their bytes
pointer_from : (part : List ℕ) (at : ℕ) (p : FarPtr) → slice_index part at ≡ p.off % 0x100 →
    slice_index part (at + 1) ≡ p.off / 0x100 % 0x100 →
    slice_index part (at + 2) ≡ p.off / 0x10000 % 0x100 → slice_index part (at + 3) ≡ p.off / 0x1000000 →
    slice_index part (at + 4) ≡ p.sel % 0x100 → slice_index part (at + 4 + 1) ≡ p.sel / 0x100 → pointer_at part at ≡ p
unfolding dword
pointer_from part at p zeroth first second third low high =
    same_parts p _ _ (rw (low, high) (omega arith)) (rw (zeroth, first, second, third) (omega arith))

callback_from : (part : List ℕ) (at : ℕ) (row : Option Callback) →
    ((i k : ℕ) → i < CALLBACK_SIZE → k ≡ at + i → slice_index part k ≡ slice_index (callback_bytes row) i) → callback_at part at ≡ row
unfolding callback_at callback_bytes
callback_from part at None same = rw (same 12 (at + 12) (omega arith) refl) refl
callback_from part at (Some callback) same =
    let procedure = pointer_from part at callback.0
    (same 0 at (omega arith) (omega arith)) (same 1 (at + 1) (omega arith) refl) (same 2 (at + 2) (omega arith) refl)
    (same 3 (at + 3) (omega arith) refl)
    (same 4 (at + 4) (omega arith) refl) (same 5 (at + 4 + 1) (omega arith) (omega arith)) in
    let structure = pointer_from part (at + 6) callback.1
    (same 6 (at + 6) (omega arith) refl) (same 7 (at + 6 + 1) (omega arith) (omega arith)) (same 8 (at + 6 + 2) (omega arith) (omega arith))
    (same 9 (at + 6 + 3) (omega arith) (omega arith))
    (same 10 (at + 6 + 4) (omega arith) (omega arith)) (same 11 (at + 6 + 4 + 1) (omega arith) (omega arith)) in
    rw (same 12 (at + 12) (omega arith) refl, procedure, structure) refl

callback_there : (part : List ℕ) (slot : ℕ) (row : Option Callback) → length part ≡ PAGE_SIZE * VECTOR_FRAMES → slot < CALLBACKS →
    callback_at (put_callback part slot row) (callbacks_start + CALLBACK_SIZE * slot) ≡ row
callback_there part slot row long within =
    callback_from (put_callback part slot row) (callbacks_start + CALLBACK_SIZE * slot) row
    (λ i k less e. callback_within part slot row i k long within less e)

-- two slots don't meet
slots_apart : (other slot i : ℕ) → other ≢ slot → i < CALLBACK_SIZE →
    (callbacks_start + CALLBACK_SIZE * slot + CALLBACK_SIZE ≤ callbacks_start + CALLBACK_SIZE * other + i)
    ⊎ (callbacks_start + CALLBACK_SIZE * other + i < callbacks_start + CALLBACK_SIZE * slot)
slots_apart other slot i ne less = elim (cases_lt other slot) [ inl below ↦ inr (omega arith) | inr above ↦ inl (omega arith) ]

other_callback : (part : List ℕ) (slot : ℕ) (row : Option Callback) (other : ℕ) → other ≢ slot →
    callback_at (put_callback part slot row) (callbacks_start + CALLBACK_SIZE * other)
    ≡ callback_at part (callbacks_start + CALLBACK_SIZE * other)
other_callback part slot row other ne = grind (arith, callback_away, same_callback, slots_apart)

pub keeps_callback : (part : List ℕ) (slot : ℕ) (row : Option Callback) → length part ≡ PAGE_SIZE * VECTOR_FRAMES → slot < CALLBACKS →
    KeepsVectors part → KeepsVectors (put_callback part slot row)
keeps_callback part slot row long within keeps = record {
  vectors = λ n at small less. callback_away part slot row (VECTOR_SIZE * n + at) (inr (omega arith))
      ∙ keeps.vectors n at small less
      ∙ sym (ap (λ (q : FarPtr). slice_index (vector_bytes q) at) (same_pointer (put_callback part slot row) part (VECTOR_SIZE * n)
      (λ i s. callback_away part slot row (VECTOR_SIZE * n + i) (inr (omega arith)))));
  callbacks = callbacks;
  pageable = λ page less. subst (λ (x : ℕ). x < 2) (sym (callback_away part slot row (pageable_start + page) (inl (omega arith))))
      (keeps.pageable page less);
  rest = λ at from to. callback_away part slot row at (inl (omega arith)) ∙ keeps.rest at from to;
}
  where
    callbacks : (other at : ℕ) → other < CALLBACKS → at < CALLBACK_SIZE →
        slice_index (put_callback part slot row) (callbacks_start + (CALLBACK_SIZE * other + at))
        ≡ slice_index (callback_bytes (callback_at (put_callback part slot row) (callbacks_start + CALLBACK_SIZE * other))) at
    callbacks other at small less = elim (cases_eq other slot) [
      | inl same ↦ (grind (arith, callback_there, callback_within))
      | inr ne ↦ (let k : callbacks_start + (CALLBACK_SIZE * other + at) ≡ callbacks_start + CALLBACK_SIZE * other + at = omega arith in
          ap (slice_index (put_callback part slot row)) k
          ∙ callback_away part slot row (callbacks_start + CALLBACK_SIZE * other + at) (slots_apart other slot at ne less)
          ∙ ap (slice_index part) (sym k)
          ∙ keeps.callbacks other at small less
          ∙ sym (ap (λ (o : Option Callback). slice_index (callback_bytes o) at) (other_callback part slot row other ne)))
    ]

pub callbacks_set : (part : List ℕ) (slot : ℕ) (row : Option Callback) → length part ≡ PAGE_SIZE * VECTOR_FRAMES → slot < CALLBACKS →
    callbacks_in (put_callback part slot row) ≡ slice_set (callbacks_in part) slot row
callbacks_set part slot row long within = grind (arith, callback_there, listed-set, other_callback)

-- ---- the byte of a pageable page

abbrev pub put_pageable : List ℕ → ℕ → Bool → List ℕ
put_pageable part page on = slice_set part (pageable_start + page) (cond on 1 0)

pub pageable_away : (part : List ℕ) (page : ℕ) (on : Bool) (k : ℕ) → k ≢ pageable_start + page →
    slice_index (put_pageable part page on) k ≡ slice_index part k
pageable_away part page on k ne = put_away part (pageable_start + page) (cond on 1 0 ∷ []) k (grind arith)

pageable_there : (part : List ℕ) (page : ℕ) (on : Bool) → length part ≡ PAGE_SIZE * VECTOR_FRAMES → page < DOS_VIEW_PAGES →
    slice_index (put_pageable part page on) (pageable_start + page) ≡ cond on 1 0
pageable_there part page on long within =
    put_within part (pageable_start + page) (cond on 1 0 ∷ []) 0 (pageable_start + page) (omega arith) (omega arith) (omega arith)

is_one : (on : Bool) → nat_eq (cond on 1 0) 1 ≡ on
is_one true = refl
is_one false = refl

bit_small : (on : Bool) → cond on 1 0 < 2
bit_small true = omega arith
bit_small false = omega arith

pub keeps_pageable : (part : List ℕ) (page : ℕ) (on : Bool) → length part ≡ PAGE_SIZE * VECTOR_FRAMES → page < DOS_VIEW_PAGES →
    KeepsVectors part → KeepsVectors (put_pageable part page on)
keeps_pageable part page on long within keeps = record {
  vectors = λ n at small less. pageable_away part page on (VECTOR_SIZE * n + at) (λ z. omega arith)
      ∙ keeps.vectors n at small less
      ∙ sym (ap (λ (q : FarPtr). slice_index (vector_bytes q) at) (same_pointer (put_pageable part page on) part (VECTOR_SIZE * n)
      (λ i s. pageable_away part page on (VECTOR_SIZE * n + i) (λ z. omega arith))));
  callbacks = keeps_callbacks part (put_pageable part page on) keeps (λ k from to. pageable_away part page on k (λ z. omega arith));
  pageable = λ other less. elim (cases_eq other page) [
    | inl same ↦ subst (λ (x : ℕ). x < 2) (sym (ap (λ (k : ℕ). slice_index (put_pageable part page on) (pageable_start + k)) same
        ∙ pageable_there part page on long within)) (bit_small on)
    | inr ne ↦ subst (λ (x : ℕ). x < 2) (sym (pageable_away part page on (pageable_start + other) (λ z. ne (omega arith))))
        (keeps.pageable other less)
  ];
  rest = λ at from to. pageable_away part page on at (λ z. omega arith) ∙ keeps.rest at from to;
}

pub pageable_set : (part : List ℕ) (page : ℕ) (on : Bool) → length part ≡ PAGE_SIZE * VECTOR_FRAMES → page < DOS_VIEW_PAGES →
    pageable_in (put_pageable part page on) ≡ slice_set (pageable_in part) page on
pageable_set part page on long within = grind (arith, is_one, listed-set, pageable_away, pageable_there)

-- ---- the head of the list of free frames

abbrev pub put_head : List ℕ → ℕ → List ℕ
put_head part frame = put part head_start (dword_bytes frame)

pub head_away : (part : List ℕ) (frame k : ℕ) → (k < head_start) ⊎ (head_end ≤ k) → slice_index (put_head part frame) k ≡ slice_index part k
head_away part frame k away =
    put_away part head_start (dword_bytes frame) k (elim away [ inl below ↦ inr below | inr above ↦ inl (omega arith) ])

pub keeps_head : (part : List ℕ) (frame : ℕ) → KeepsVectors part → KeepsVectors (put_head part frame)
keeps_head part frame keeps = record {
  vectors = λ n at small less. head_away part frame (VECTOR_SIZE * n + at) (inl (omega arith))
      ∙ keeps.vectors n at small less
      ∙ sym (ap (λ (q : FarPtr). slice_index (vector_bytes q) at) (same_pointer (put_head part frame) part (VECTOR_SIZE * n)
      (λ i s. head_away part frame (VECTOR_SIZE * n + i) (inl (omega arith)))));
  callbacks = keeps_callbacks part (put_head part frame) keeps (λ k from to. head_away part frame k (inl (omega arith)));
  pageable = λ page less. subst (λ (x : ℕ). x < 2) (sym (head_away part frame (pageable_start + page) (inl (omega arith))))
      (keeps.pageable page less);
  rest = λ at from to. head_away part frame at (inr from) ∙ keeps.rest at from to;
}
