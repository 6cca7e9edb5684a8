-- The vectors, the callbacks and the pageable pages of a machine, read and written.
use Rattle.std.proofs.Common.{◌≡◌, ◌≢◌, ℕ, ◌+◌, ◌*◌, ◌<◌, ◌≤◌, Bool, false, List, slice_index, slice_set, length-set, refl, ap, ◌∙◌, sym}
use Rattle.std.proofs.Common.{subst, arith, nat_eq, Option, None}
use Rattle.client_world.specs.declared.host_frames.TheConstants.{PAGE_SIZE, CALLBACK_SIZE, VECTORS, VECTOR_FRAMES, VECTOR_SIZE}
use Rattle.client_world.specs.declared.limits.TheConstants.{CALLBACKS, INTERRUPT_VECTORS, EXCEPTION_VECTORS}
use Rattle.client_world.specs.{declared.memory_map.TheConstants.{DOS_VIEW_PAGES}, declared.segments.FarPtr.{FarPtr}, Soundness.{IsSound}}
use Rattle.client_world.specs.World.{Callback}
use Rattle.guest_ram.specs.Bytes.{word_of}
use Rattle.guest_ram.proofs.ListedLaws.{at_listed}
use Rattle.host_memory.specs.{Layout.{vectors_part}, Vectors.{callback_at, callbacks_in, callbacks_start, exception_vectors_in}}
use Rattle.host_memory.specs.{Vectors.{exceptions_start, interrupt_vectors_in, pageable_in, pageable_start, pointer_at}, View.{MachineView}}
use Rattle.host_memory.proofs.Parts.{part_byte, part_dword, part_word, callbacks_is, exception_vectors_is, interrupt_vectors_is}
use Rattle.host_memory.proofs.{Parts.{pageable_is}, VectorParts.{same_parts}, VectorWrites.{ChangesVectors, callback_changes}}
use Rattle.host_memory.proofs.VectorWrites.{exception_changes, interrupt_changes, pageable_changes, with_callback, with_pageable}
use Rattle.host_memory.proofs.VectorWrites.{with_vector, with_vectors}
use Rattle.guest_space.specs.{Machines.{Processor, held_world}, VectorLists.{callback_of_slot, is_pageable, vector_at}}
use Rattle.guest_space.specs.declared.machine.Machine.TheInside.{Inside}
use Rattle.guest_space.proofs.{BlockCalls.{IsView}, Insides.{processor_of, view_of, IsWhole, IsAfter, after_call}}
use Rattle.guest_space.proofs.SoundLists.{IsSound-callbacks, IsSound-vectors}

-- ---- reading

part_pointer : (b : List ℕ) (at : ℕ) → at + 6 ≤ PAGE_SIZE * VECTOR_FRAMES →
    pointer_at b (PAGE_SIZE * VECTORS + at) ≡ pointer_at (vectors_part b) at
part_pointer b at room =
    let next : PAGE_SIZE * VECTORS + at + 4 ≡ PAGE_SIZE * VECTORS + (at + 4) = omega arith in
    same_parts (pointer_at (vectors_part b) at) _ _ (ap (word_of b) next ∙ part_word b VECTORS VECTOR_FRAMES (at + 4) (omega arith))
    (part_dword b VECTORS VECTOR_FRAMES at (omega arith))

interrupts_of : (k : Processor) (b : List ℕ) → (held_world k b).interrupt_vectors ≡ interrupt_vectors_in (vectors_part b)
interrupts_of k b = interrupt_vectors_is b k.budget k.mode k.regs k.vif k.width

exceptions_of : (k : Processor) (b : List ℕ) → (held_world k b).exception_vectors ≡ exception_vectors_in (vectors_part b)
exceptions_of k b = exception_vectors_is b k.budget k.mode k.regs k.vif k.width

pageable_of : (k : Processor) (b : List ℕ) → (held_world k b).pageable ≡ pageable_in (vectors_part b)
pageable_of k b = pageable_is b k.budget k.mode k.regs k.vif k.width

callbacks_of : (k : Processor) (b : List ℕ) → (held_world k b).callbacks ≡ callbacks_in (vectors_part b)
callbacks_of k b = callbacks_is b k.budget k.mode k.regs k.vif k.width

pub interrupt_read : (k : Processor) (b : List ℕ) (v : MachineView) → IsView k b v → (n : ℕ) → n < INTERRUPT_VECTORS →
    pointer_at b (PAGE_SIZE * VECTORS + VECTOR_SIZE * n) ≡ vector_at v.world.interrupt_vectors n
interrupt_read k b v is n within = grind (arith, at_listed, interrupts_of, part_pointer)

pub exception_read : (k : Processor) (b : List ℕ) (v : MachineView) → IsView k b v → (n : ℕ) → n < EXCEPTION_VECTORS →
    pointer_at b (PAGE_SIZE * VECTORS + (exceptions_start + VECTOR_SIZE * n)) ≡ vector_at v.world.exception_vectors n
exception_read k b v is n within = grind (arith, at_listed, exceptions_of, part_pointer)

-- the place of a callback's second pointer
pub second_pointer : (b : List ℕ) (at : ℕ) → pointer_at b (PAGE_SIZE * VECTORS + (at + 6)) ≡ pointer_at b (PAGE_SIZE * VECTORS + at + 6)
second_pointer b at = grind arith

-- a callback in the memory is one of the frame
part_callback : (b : List ℕ) (at : ℕ) → at + CALLBACK_SIZE ≤ PAGE_SIZE * VECTOR_FRAMES →
    callback_at b (PAGE_SIZE * VECTORS + at) ≡ callback_at (vectors_part b) at
unfolding callback_at
part_callback b at room =
    let last : PAGE_SIZE * VECTORS + at + 12 ≡ PAGE_SIZE * VECTORS + (at + 12) = omega arith in
    let held : slice_index b (PAGE_SIZE * VECTORS + at + 12) ≡ slice_index (vectors_part b) (at + 12) =
    ap (slice_index b) last ∙ part_byte b VECTORS VECTOR_FRAMES (at + 12) (omega arith) in
    let procedure = part_pointer b at (omega arith) in
    let structure = sym (second_pointer b at) ∙ part_pointer b (at + 6) (omega arith) in
    rw (held, procedure, structure) refl

pub callback_read : (k : Processor) (b : List ℕ) (v : MachineView) → IsView k b v → (slot : ℕ) → slot < CALLBACKS →
    callback_at b (PAGE_SIZE * VECTORS + (callbacks_start + CALLBACK_SIZE * slot)) ≡ callback_of_slot v.world.callbacks slot
callback_read k b v is slot within = grind (arith, at_listed, callbacks_of, part_callback)

pub pageable_read : (k : Processor) (b : List ℕ) (v : MachineView) → IsView k b v → (page : ℕ) → page < DOS_VIEW_PAGES →
    nat_eq (slice_index b (PAGE_SIZE * VECTORS + pageable_start + page)) 1 ≡ is_pageable v.world.pageable page
pageable_read k b v is page within =
    let at : PAGE_SIZE * VECTORS + pageable_start + page ≡ PAGE_SIZE * VECTORS + (pageable_start + page) = omega arith in
    ap (λ (x : ℕ). nat_eq x 1) (ap (slice_index b) at ∙ part_byte b VECTORS VECTOR_FRAMES (pageable_start + page) (omega arith))
    ∙ sym (at_listed DOS_VIEW_PAGES (λ i. nat_eq (slice_index (vectors_part b) (pageable_start + i)) 1) page false within)
    ∙ ap (λ (xs : List Bool). is_pageable xs page) (sym (pageable_of k b))
    ∙ ap (λ (x : MachineView). is_pageable x.world.pageable page) is

-- ---- writing

-- the machine with other lists
vectors_after : (m : Inside) → IsWhole m →
    (c : List ℕ) (interrupts exceptions : List FarPtr) (callbacks : List (Option Callback)) (pageable : List Bool) →
    ChangesVectors m.ram c m.pages interrupts exceptions callbacks pageable →
    IsSound (with_vectors (view_of m).world interrupts exceptions callbacks pageable) →
    IsAfter m (view_of m) c (with_vectors (view_of m).world interrupts exceptions callbacks pageable)
vectors_after m whole c interrupts exceptions callbacks pageable ch sound = grind (arith, after_call, view_of, with_vectors)

pub set_interrupt : (m : Inside) (v : MachineView) → view_of m ≡ v → IsWhole m → (n : ℕ) (p : FarPtr) → n < INTERRUPT_VECTORS →
    (c : List ℕ) → c ≡ with_vector m.ram (VECTOR_SIZE * n) p →
    IsAfter m v c (record v.world { interrupt_vectors = slice_set v.world.interrupt_vectors n p })
set_interrupt m v is whole n p within c e =
    let k = processor_of m in let w = (view_of m).world in let s = whole.1 in
    subst (λ (u : MachineView). IsAfter m u c (record u.world { interrupt_vectors = slice_set u.world.interrupt_vectors n p })) is
    (vectors_after m whole c (slice_set w.interrupt_vectors n p) w.exception_vectors w.callbacks w.pageable
    (rw (e, interrupts_of k m.ram, exceptions_of k m.ram, callbacks_of k m.ram, pageable_of k m.ram)
    (interrupt_changes m.ram m.pages n p whole.0 within))
    (IsSound-vectors w (slice_set w.interrupt_vectors n p) w.exception_vectors w.pageable s
    (length-set w.interrupt_vectors n p ∙ s.interrupt_vectors)
    s.exception_vectors s.pageable))

pub set_exception : (m : Inside) (v : MachineView) → view_of m ≡ v → IsWhole m → (n : ℕ) (p : FarPtr) → n < EXCEPTION_VECTORS →
    (c : List ℕ) → c ≡ with_vector m.ram (exceptions_start + VECTOR_SIZE * n) p →
    IsAfter m v c (record v.world { exception_vectors = slice_set v.world.exception_vectors n p })
set_exception m v is whole n p within c e =
    let k = processor_of m in let w = (view_of m).world in let s = whole.1 in
    subst (λ (u : MachineView). IsAfter m u c (record u.world { exception_vectors = slice_set u.world.exception_vectors n p })) is
    (vectors_after m whole c w.interrupt_vectors (slice_set w.exception_vectors n p) w.callbacks w.pageable
    (rw (e, interrupts_of k m.ram, exceptions_of k m.ram, callbacks_of k m.ram, pageable_of k m.ram)
    (exception_changes m.ram m.pages n p whole.0 within))
    (IsSound-vectors w w.interrupt_vectors (slice_set w.exception_vectors n p) w.pageable s s.interrupt_vectors
    (length-set w.exception_vectors n p ∙ s.exception_vectors) s.pageable))

pub set_callback : (m : Inside) (v : MachineView) → view_of m ≡ v → IsWhole m → v.world.width ≢ None → (slot : ℕ) (row : Option Callback) →
    slot < CALLBACKS →
    (c : List ℕ) → c ≡ with_callback m.ram slot row → IsAfter m v c (record v.world { callbacks = slice_set v.world.callbacks slot row })
set_callback m v is whole some slot row within c e =
    let k = processor_of m in let w = (view_of m).world in let s = whole.1 in
    let own : w.width ≢ None = subst (λ (u : MachineView). u.world.width ≢ None) (sym is) some in
    subst (λ (u : MachineView). IsAfter m u c (record u.world { callbacks = slice_set u.world.callbacks slot row })) is
    (vectors_after m whole c w.interrupt_vectors w.exception_vectors (slice_set w.callbacks slot row) w.pageable
    (rw (e, interrupts_of k m.ram, exceptions_of k m.ram, callbacks_of k m.ram, pageable_of k m.ram)
    (callback_changes m.ram m.pages slot row whole.0 within))
    (IsSound-callbacks w (slice_set w.callbacks slot row) s own (length-set w.callbacks slot row ∙ s.callbacks)))

pub set_pageable : (m : Inside) (v : MachineView) → view_of m ≡ v → IsWhole m → (page : ℕ) (on : Bool) → page < DOS_VIEW_PAGES →
    (c : List ℕ) → c ≡ with_pageable m.ram page on → IsAfter m v c (record v.world { pageable = slice_set v.world.pageable page on })
set_pageable m v is whole page on within c e =
    let k = processor_of m in let w = (view_of m).world in let s = whole.1 in
    subst (λ (u : MachineView). IsAfter m u c (record u.world { pageable = slice_set u.world.pageable page on })) is
    (vectors_after m whole c w.interrupt_vectors w.exception_vectors w.callbacks (slice_set w.pageable page on)
    (rw (e, interrupts_of k m.ram, exceptions_of k m.ram, callbacks_of k m.ram, pageable_of k m.ram)
    (pageable_changes m.ram m.pages page on whole.0 within))
    (IsSound-vectors w w.interrupt_vectors w.exception_vectors (slice_set w.pageable page on) s s.interrupt_vectors s.exception_vectors
    (length-set w.pageable page on ∙ s.pageable)))
