-- The frame of the vectors, the records of calls and the entries of DOS memory of a memory that holds a world, said with no decoding.
use Rattle.std.proofs.Common.{◌≡◌, ℕ, ◌+◌, ◌*◌, ◌<◌, false, nat_eq, cond, List, get_or, slice_index, None, Some, ap, ◌∙◌, sym, arith, zero}
use Rattle.std.proofs.{Common.{suc, ◌≤◌, inl, inr, length}, lemmas.Bool.{eq-eqb, ne_eqb, cases_Bool}, lemmas.Option.{slice_get_within}}
use Rattle.std.proofs.lemmas.Option.{get_or_from_slice_get}
use Rattle.std.specs.List.{slice_get}
use Rattle.client_world.specs.{declared.segments.FarPtr.{FarPtr}, declared.host_frames.TheConstants.{PAGE_SIZE, VECTORS, CALLBACK_SIZE}}
use Rattle.client_world.specs.declared.host_frames.TheConstants.{VECTOR_FRAMES, VECTOR_SIZE, RECORDS, DOS_LIST, DOS_LIST_FRAMES}
use Rattle.client_world.specs.{declared.host_frames.TheConstants.{RECORD_FRAMES}, declared.limits.TheConstants.{CALLBACKS}}
use Rattle.client_world.specs.declared.limits.TheConstants.{INTERRUPT_VECTORS, EXCEPTION_VECTORS, GREATEST_DEPTH}
use Rattle.client_world.specs.{declared.memory_map.TheConstants.{DOS_VIEW_PAGES}, World.{World}, declared.calls.Record.{Record}}
use Rattle.client_world.specs.declared.dos_memory.DosEntry.{DosEntry}
use Rattle.guest_ram.specs.Listed.{listed}
use Rattle.guest_ram.proofs.ListedLaws.{length-listed, at_listed}
use Rattle.host_memory.specs.{Holds.{Holds}, HoldsWorld.{HoldsVectors, frame_place, HoldsLists}, Layout.{vectors_part, arena_part}}
use Rattle.host_memory.specs.{Layout.{records_part}, Vectors.{pointer_at, vector_bytes, callback_bytes, exceptions_start, callbacks_start}}
use Rattle.host_memory.specs.Vectors.{pageable_start, interrupt_vectors_in, exception_vectors_in, callbacks_in, pageable_in}
use Rattle.host_memory.specs.DosList.{arena_in, entry_at, entry_bytes, entry_count, entries_from, entry_room, entry_size}
use Rattle.host_memory.specs.Records.{calls_in, record_at, record_bytes, record_count, record_size, records_from}
use Rattle.host_memory.proofs.Parts.{part_byte}

-- an item of a list that is given by a function
pub record IsItem {X : Type 0} (n : ℕ) (f : ℕ → X) (place : ℕ) (x : X) : Type 0 where
  pub within : place < n
  pub is : x ≡ f place

pub item_is : {X : Type 0} (n : ℕ) (f : ℕ → X) (place : ℕ) (x : X) → slice_get (listed n f) place ≡ Some x → IsItem n f place x
item_is n f place x e =
    let long = length-listed n f in
    let less = slice_get_within (listed n f) place x e in
    let within : place < n = omega arith in
    record { within = within; is = sym (get_or_from_slice_get (listed n f) place x x e) ∙ at_listed n f place x within }

-- a byte of the frame
vectors_byte : (b : List ℕ) (at : ℕ) → at < PAGE_SIZE * VECTOR_FRAMES →
    slice_index b (frame_place VECTORS at) ≡ slice_index (vectors_part b) at
vectors_byte b at within = part_byte b VECTORS VECTOR_FRAMES at (omega arith)

-- a byte that is 0 or 1 says whether it is 1
bit_is : (n : ℕ) → n < 2 → n ≡ cond (nat_eq n 1) 1 0
bit_is n small = grind (arith, eq-eqb, ne_eqb)

pub interrupt_claim : (b : List ℕ) (budget : ℕ) (w : World) → Holds b budget → w.interrupt_vectors ≡ interrupt_vectors_in (vectors_part b) →
    (n at : ℕ) (p : FarPtr) → slice_get w.interrupt_vectors n ≡ Some p → at < VECTOR_SIZE →
    slice_index b (frame_place VECTORS (VECTOR_SIZE * n + at)) ≡ slice_index (vector_bytes p) at
interrupt_claim b budget w holds vectors n at p e less = grind (arith, item_is, vectors_byte)

pub exception_claim : (b : List ℕ) (budget : ℕ) (w : World) → Holds b budget → w.exception_vectors ≡ exception_vectors_in (vectors_part b) →
    (n at : ℕ) (p : FarPtr) → slice_get w.exception_vectors n ≡ Some p → at < VECTOR_SIZE →
    slice_index b (frame_place VECTORS (exceptions_start + (VECTOR_SIZE * n + at))) ≡ slice_index (vector_bytes p) at
exception_claim b budget w holds vectors n at p e less =
    let item = item_is EXCEPTION_VECTORS (λ k. pointer_at (vectors_part b) (exceptions_start + VECTOR_SIZE * k)) n p
    (sym (ap (λ (xs : List FarPtr). slice_get xs n) vectors) ∙ e) in
    let within = item.within in
    let start : VECTOR_SIZE * (INTERRUPT_VECTORS + n) ≡ exceptions_start + VECTOR_SIZE * n = omega arith in
    let place : exceptions_start + (VECTOR_SIZE * n + at) ≡ VECTOR_SIZE * (INTERRUPT_VECTORS + n) + at = omega arith in
    vectors_byte b (exceptions_start + (VECTOR_SIZE * n + at)) (omega arith) ∙ ap (slice_index (vectors_part b)) place
    ∙ holds.vectors.vectors (INTERRUPT_VECTORS + n) at (omega arith) less
    ∙ ap (λ (k : ℕ). slice_index (vector_bytes (pointer_at (vectors_part b) k)) at) start
    ∙ sym (ap (λ (q : FarPtr). slice_index (vector_bytes q) at) item.is)

pub callback_claim : (b : List ℕ) (budget : ℕ) (w : World) → Holds b budget → w.callbacks ≡ callbacks_in (vectors_part b) →
    (slot at : ℕ) → slot < CALLBACKS → at < CALLBACK_SIZE →
    slice_index b (frame_place VECTORS (callbacks_start + (CALLBACK_SIZE * slot + at)))
    ≡ slice_index (callback_bytes (get_or w.callbacks slot None)) at
callback_claim b budget w holds callbacks slot at within less = grind (arith, at_listed, vectors_byte)

pub pageable_claim : (b : List ℕ) (budget : ℕ) (w : World) → Holds b budget → w.pageable ≡ pageable_in (vectors_part b) → (page : ℕ) →
    page < DOS_VIEW_PAGES → slice_index b (frame_place VECTORS (pageable_start + page)) ≡ cond (get_or w.pageable page false) 1 0
pageable_claim b budget w holds pageable page within = grind (arith, at_listed, bit_is, vectors_byte)

-- the parts of the world that the frame holds
pub record HasVectors (b : List ℕ) (w : World) : Type 0 where
  pub interrupts : w.interrupt_vectors ≡ interrupt_vectors_in (vectors_part b)
  pub exceptions : w.exception_vectors ≡ exception_vectors_in (vectors_part b)
  pub callbacks : w.callbacks ≡ callbacks_in (vectors_part b)
  pub pageable : w.pageable ≡ pageable_in (vectors_part b)

pub vectors_claim : (b : List ℕ) (budget : ℕ) (w : World) → Holds b budget → HasVectors b w → HoldsVectors b w
vectors_claim b budget w holds has = grind (arith, callback_claim, exception_claim, interrupt_claim, pageable_claim, vectors_byte)

-- ---- records of calls and entries of DOS memory

-- no more records, or entries, are counted than there is room for
pub records_few : (part : List ℕ) (place n : ℕ) → records_from part place n ≤ n
unfolding records_from
records_few part place zero = omega arith
records_few part place (suc n) = elim (cases_Bool (nat_eq (slice_index part (record_size * place)) 0)) [
  | inl none ↦ rw none (omega arith)
  | inr some ↦ (let few = records_few part (place + 1) n in rw some (omega arith))
]

pub entries_few : (part : List ℕ) (place n : ℕ) → entries_from part place n ≤ n
unfolding entries_from
entries_few part place zero = omega arith
entries_few part place (suc n) = elim (cases_Bool (nat_eq (slice_index part (entry_size * place + 4)) 0)) [
  | inl none ↦ rw none (omega arith)
  | inr some ↦ (let few = entries_few part (place + 1) n in rw some (omega arith))
]

call_item : (part : List ℕ) (place : ℕ) (r : Record) → slice_get (calls_in part) place ≡ Some r →
    IsItem (record_count part) (λ k. record_at part (record_size * k)) place r
unfolding calls_in
call_item part place r e = item_is (record_count part) (λ k. record_at part (record_size * k)) place r e

arena_item : (part : List ℕ) (place : ℕ) (entry : DosEntry) → slice_get (arena_in part) place ≡ Some entry →
    IsItem (entry_count part) (λ k. entry_at part (entry_size * k)) place entry
unfolding arena_in
arena_item part place entry e = item_is (entry_count part) (λ k. entry_at part (entry_size * k)) place entry e

-- as many as the bytes tell
pub length-calls_in : (part : List ℕ) → length (calls_in part) ≡ record_count part
unfolding calls_in
length-calls_in part = length-listed (record_count part) (λ k. record_at part (record_size * k))

pub length-arena_in : (part : List ℕ) → length (arena_in part) ≡ entry_count part
unfolding arena_in
length-arena_in part = length-listed (entry_count part) (λ k. entry_at part (entry_size * k))

pub record_claim : (b : List ℕ) (budget : ℕ) (w : World) → Holds b budget → w.calls ≡ calls_in (records_part b) →
    (place at : ℕ) (r : Record) → slice_get w.calls place ≡ Some r → at < record_size →
    slice_index b (frame_place RECORDS (record_size * place + at)) ≡ slice_index (record_bytes r) at
record_claim b budget w holds calls place at r e less =
    let item = call_item (records_part b) place r (sym (ap (λ (xs : List Record). slice_get xs place) calls) ∙ e) in
    let within = item.within in
    let few = records_few (records_part b) 0 GREATEST_DEPTH in
    part_byte b RECORDS RECORD_FRAMES (record_size * place + at) (omega arith) ∙ holds.records.each place at within less
    ∙ sym (ap (λ (x : Record). slice_index (record_bytes x) at) item.is)

pub entry_claim : (b : List ℕ) (budget : ℕ) (w : World) → Holds b budget → w.arena ≡ arena_in (arena_part b) →
    (place at : ℕ) (entry : DosEntry) → slice_get w.arena place ≡ Some entry → at < entry_size →
    slice_index b (frame_place DOS_LIST (entry_size * place + at)) ≡ slice_index (entry_bytes entry) at
entry_claim b budget w holds arena place at entry e less =
    let item = arena_item (arena_part b) place entry (sym (ap (λ (xs : List DosEntry). slice_get xs place) arena) ∙ e) in
    let within = item.within in
    let few = entries_few (arena_part b) 0 entry_room in
    part_byte b DOS_LIST DOS_LIST_FRAMES (entry_size * place + at) (omega arith) ∙ holds.arena.each place at within less
    ∙ sym (ap (λ (x : DosEntry). slice_index (entry_bytes x) at) item.is)

pub lists_claim : (b : List ℕ) (budget : ℕ) (w : World) → Holds b budget → w.calls ≡ calls_in (records_part b) →
    w.arena ≡ arena_in (arena_part b) → HoldsLists b w
lists_claim b budget w holds calls arena = record {
  records = record_claim b budget w holds calls;
  no_more_records = λ at from less. part_byte b RECORDS RECORD_FRAMES at (omega arith) ∙ holds.records.rest at (omega (arith, depth)) less;
  entries = entry_claim b budget w holds arena;
  no_more_entries = λ at from less. part_byte b DOS_LIST DOS_LIST_FRAMES at (omega arith)
      ∙ holds.arena.rest at (omega (arith, number)) less;
}
  where
    depth : length w.calls ≡ record_count (records_part b)
    depth = ap (λ (xs : List Record). length xs) calls ∙ length-calls_in (records_part b)

    number : length w.arena ≡ entry_count (arena_part b)
    number = ap (λ (xs : List DosEntry). length xs) arena ∙ length-arena_in (arena_part b)
