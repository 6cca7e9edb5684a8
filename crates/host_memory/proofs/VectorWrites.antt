-- The memory after a write of a vector, of a callback or of a pageable page.
use Rattle.std.proofs.Common.{◌≡◌, ℕ, ◌+◌, ◌*◌, ◌<◌, ◌≤◌, inl, Bool, List, [], ◌∷◌, length, slice_index, slice_set, subst, arith, Option}
use Rattle.std.proofs.Common.{cond}
use Rattle.client_world.specs.declared.host_frames.TheConstants.{PAGE_SIZE, CALLBACK_SIZE, VECTORS, VECTOR_FRAMES, VECTOR_SIZE}
use Rattle.client_world.specs.declared.limits.TheConstants.{CALLBACKS, INTERRUPT_VECTORS, EXCEPTION_VECTORS}
use Rattle.client_world.specs.{declared.memory_map.TheConstants.{DOS_VIEW_PAGES}, declared.place.Place.{Place}}
use Rattle.client_world.specs.{declared.registers.Mode.{Mode}, declared.registers.Regs.{Regs}, declared.registers.Width.{Width}}
use Rattle.client_world.specs.{declared.segments.FarPtr.{FarPtr}, World.{World, Callback}}
use Rattle.guest_ram.specs.Bytes.{put, dword_bytes}
use Rattle.guest_ram.proofs.PutLaws.{length-region, same_dword}
use Rattle.host_memory.specs.{Holds.{Holds}, Layout.{address_of, rows_part, vectors_part, world_of}, Vectors.{KeepsVectors, callback_bytes}}
use Rattle.host_memory.specs.Vectors.{callbacks_in, callbacks_start, exception_vectors_in, exceptions_start, head_end, head_start}
use Rattle.host_memory.specs.Vectors.{interrupt_vectors_in, pageable_in, pageable_start, word_bytes}
use Rattle.host_memory.proofs.Parts.{HasParts, HasSize, addresses_of, holds_by, holds_parts, holds_with_vectors, own_parts, parts_of}
use Rattle.host_memory.proofs.{Parts.{world_by}, PutParts.{Vectors, put_part}, VectorParts.{callback_away, callbacks_set, exceptions_set}}
use Rattle.host_memory.proofs.VectorParts.{head_away, interrupts_set, keeps_callback, keeps_pageable, keeps_pointer, length-callback_bytes}
use Rattle.host_memory.proofs.VectorParts.{pageable_away, pageable_set, pointer_away, put_callback, put_head, put_pageable, put_pointer}
use Rattle.host_memory.proofs.VectorParts.{same_callbacks, same_exceptions, same_interrupts, same_pageable}

-- a world with other vectors, other callbacks and other pageable pages
abbrev pub with_vectors : World → List FarPtr → List FarPtr → List (Option Callback) → List Bool → World
with_vectors w interrupts exceptions callbacks pageable = record w {
  interrupt_vectors = interrupts;
  exception_vectors = exceptions;
  callbacks = callbacks;
  pageable = pageable;
}

-- the memory still holds a world, of which those lists alone have changed
pub record ChangesVectors (b c : List ℕ) (budget : ℕ) (interrupts exceptions : List FarPtr) (callbacks : List (Option Callback))
    (pageable : List Bool) : Type 0 where
  pub holds : Holds c budget
  pub world : (mode : Mode) (regs : Regs) (vif : Bool) (width : Option Width) →
      world_of c budget mode regs vif width ≡ with_vectors (world_of b budget mode regs vif width) interrupts exceptions callbacks pageable
  pub rows : rows_part c ≡ rows_part b
  pub addresses : (p : Place) → address_of c p ≡ address_of b p

-- the lists of a frame
pub record Lists (part : List ℕ) (interrupts exceptions : List FarPtr) (callbacks : List (Option Callback)) (pageable : List Bool)
    : Type 0 where
  pub int : interrupt_vectors_in part ≡ interrupts
  pub exc : exception_vectors_in part ≡ exceptions
  pub back : callbacks_in part ≡ callbacks
  pub page : pageable_in part ≡ pageable

pub same_lists : (w : World) (part : List ℕ) (interrupts exceptions : List FarPtr) (callbacks : List (Option Callback))
    (pageable : List Bool) → Lists part interrupts exceptions callbacks pageable →
    with_vectors w (interrupt_vectors_in part) (exception_vectors_in part) (callbacks_in part) (pageable_in part)
    ≡ with_vectors w interrupts exceptions callbacks pageable
same_lists w part interrupts exceptions callbacks pageable l = grind arith

changes : (b c : List ℕ) (budget : ℕ) (part : List ℕ) (interrupts exceptions : List FarPtr) (callbacks : List (Option Callback))
    (pageable : List Bool) → Holds b budget → HasParts c budget (record (parts_of b budget) { vectors = part }) → KeepsVectors part →
    ((k : ℕ) → head_start ≤ k → k < head_end → slice_index part k ≡ slice_index (vectors_part b) k) →
    Lists part interrupts exceptions callbacks pageable → ChangesVectors b c budget interrupts exceptions callbacks pageable
unfolding world_of
changes b c budget part interrupts exceptions callbacks pageable holds has keeps same lists =
    grind (arith, addresses_of, holds_by, holds_parts, holds_with_vectors, same_dword, same_lists, world_by)

pub vectors_size : (b : List ℕ) (budget : ℕ) → HasSize b budget → length (vectors_part b) ≡ PAGE_SIZE * VECTOR_FRAMES
vectors_size b budget size = length-region b (PAGE_SIZE * VECTORS) (PAGE_SIZE * VECTOR_FRAMES) (omega (arith, size))

-- ---- a vector

abbrev pub with_vector : List ℕ → ℕ → FarPtr → List ℕ
with_vector b at p = put (put b (PAGE_SIZE * VECTORS + at) (dword_bytes p.off)) (PAGE_SIZE * VECTORS + at + 4) (word_bytes p.sel)

pointer_has : (b : List ℕ) (budget at : ℕ) (p : FarPtr) → Holds b budget → at + VECTOR_SIZE ≤ PAGE_SIZE * VECTOR_FRAMES →
    HasParts (with_vector b at p) budget (record (parts_of b budget) { vectors = put_pointer (vectors_part b) at p })
pointer_has b budget at p holds room =
    put_part Vectors (put b (PAGE_SIZE * VECTORS + at) (dword_bytes p.off)) budget _ (PAGE_SIZE * VECTORS + at + 4) (at + 4)
    (word_bytes p.sel)
    (put_part Vectors b budget (parts_of b budget) (PAGE_SIZE * VECTORS + at) at (dword_bytes p.off) (own_parts b budget holds)
    (omega arith)
    (omega arith)) (omega arith) (omega arith)

pub interrupt_changes : (b : List ℕ) (budget n : ℕ) (p : FarPtr) → Holds b budget → n < INTERRUPT_VECTORS →
    ChangesVectors b (with_vector b (VECTOR_SIZE * n) p) budget (slice_set (interrupt_vectors_in (vectors_part b)) n p)
    (exception_vectors_in (vectors_part b)) (callbacks_in (vectors_part b)) (pageable_in (vectors_part b))
interrupt_changes b budget n p holds within =
    let part = vectors_part b in
    let long = vectors_size b budget holds.size in
    changes b (with_vector b (VECTOR_SIZE * n) p) budget (put_pointer part (VECTOR_SIZE * n) p) (slice_set (interrupt_vectors_in part) n p)
    (exception_vectors_in part) (callbacks_in part) (pageable_in part) holds
    (pointer_has b budget (VECTOR_SIZE * n) p holds (omega arith))
    (keeps_pointer part n p long (omega arith) holds.vectors)
    (λ k from to. pointer_away part (VECTOR_SIZE * n) p k (inl (omega arith)))
    (grind (arith, interrupts_set, pointer_away, same_callbacks, same_exceptions, same_pageable))

keeps_exception : (part : List ℕ) (n : ℕ) (p : FarPtr) → length part ≡ PAGE_SIZE * VECTOR_FRAMES → n < EXCEPTION_VECTORS →
    KeepsVectors part → KeepsVectors (put_pointer part (exceptions_start + VECTOR_SIZE * n) p)
keeps_exception part n p long within keeps =
    let at : VECTOR_SIZE * (INTERRUPT_VECTORS + n) ≡ exceptions_start + VECTOR_SIZE * n = omega arith in
    subst (λ (k : ℕ). KeepsVectors (put_pointer part k p)) at (keeps_pointer part (INTERRUPT_VECTORS + n) p long (omega arith) keeps)

pub exception_changes : (b : List ℕ) (budget n : ℕ) (p : FarPtr) → Holds b budget → n < EXCEPTION_VECTORS →
    ChangesVectors b (with_vector b (exceptions_start + VECTOR_SIZE * n) p) budget (interrupt_vectors_in (vectors_part b))
    (slice_set (exception_vectors_in (vectors_part b)) n p) (callbacks_in (vectors_part b)) (pageable_in (vectors_part b))
exception_changes b budget n p holds within =
    let part = vectors_part b in
    let long = vectors_size b budget holds.size in
    let at = exceptions_start + VECTOR_SIZE * n in
    changes b (with_vector b at p) budget (put_pointer part at p) (interrupt_vectors_in part) (slice_set (exception_vectors_in part) n p)
    (callbacks_in part) (pageable_in part) holds
    (pointer_has b budget at p holds (omega arith))
    (keeps_exception part n p long within holds.vectors) (λ k from to. pointer_away part at p k (inl (omega arith)))
    (grind (arith, exceptions_set, pointer_away, same_callbacks, same_interrupts, same_pageable))

-- ---- a callback

abbrev pub with_callback : List ℕ → ℕ → Option Callback → List ℕ
with_callback b slot row = put b (PAGE_SIZE * VECTORS + (callbacks_start + CALLBACK_SIZE * slot)) (callback_bytes row)

pub callback_changes : (b : List ℕ) (budget slot : ℕ) (row : Option Callback) → Holds b budget → slot < CALLBACKS →
    ChangesVectors b (with_callback b slot row) budget (interrupt_vectors_in (vectors_part b)) (exception_vectors_in (vectors_part b))
    (slice_set (callbacks_in (vectors_part b)) slot row) (pageable_in (vectors_part b))
callback_changes b budget slot row holds within =
    let part = vectors_part b in
    let long = vectors_size b budget holds.size in
    let at = callbacks_start + CALLBACK_SIZE * slot in
    changes b (with_callback b slot row) budget (put_callback part slot row) (interrupt_vectors_in part) (exception_vectors_in part)
    (slice_set (callbacks_in part) slot row) (pageable_in part) holds
    (put_part Vectors b budget (parts_of b budget) (PAGE_SIZE * VECTORS + at) at (callback_bytes row) (own_parts b budget holds)
    (omega arith)
    (omega (arith, length-callback_bytes row)))
    (keeps_callback part slot row long within holds.vectors) (λ k from to. callback_away part slot row k (inl (omega arith)))
    (grind (arith, callback_away, callbacks_set, same_exceptions, same_interrupts, same_pageable))

-- ---- a pageable page

abbrev pub with_pageable : List ℕ → ℕ → Bool → List ℕ
with_pageable b page on = slice_set b (PAGE_SIZE * VECTORS + pageable_start + page) (cond on 1 0)

pub pageable_changes : (b : List ℕ) (budget page : ℕ) (on : Bool) → Holds b budget → page < DOS_VIEW_PAGES →
    ChangesVectors b (with_pageable b page on) budget (interrupt_vectors_in (vectors_part b)) (exception_vectors_in (vectors_part b))
    (callbacks_in (vectors_part b)) (slice_set (pageable_in (vectors_part b)) page on)
pageable_changes b budget page on holds within =
    let part = vectors_part b in
    let long = vectors_size b budget holds.size in
    changes b (with_pageable b page on) budget (put_pageable part page on) (interrupt_vectors_in part) (exception_vectors_in part)
    (callbacks_in part) (slice_set (pageable_in part) page on) holds
    (put_part Vectors b budget (parts_of b budget) (PAGE_SIZE * VECTORS + pageable_start + page) (pageable_start + page) (cond on 1 0 ∷ [])
    (own_parts b budget holds) (omega arith) (omega arith))
    (keeps_pageable part page on long within holds.vectors) (λ k from to. pageable_away part page on k (λ z. omega arith))
    (grind (arith, pageable_away, pageable_set, same_callbacks, same_exceptions, same_interrupts))

-- ---- the head of the list of free frames, which is in none of these lists
pub head_lists : (part : List ℕ) (frame : ℕ) →
    Lists (put_head part frame) (interrupt_vectors_in part) (exception_vectors_in part) (callbacks_in part) (pageable_in part)
head_lists part frame = grind (arith, head_away, same_callbacks, same_exceptions, same_interrupts, same_pageable)
