-- Bytes that are put where a translation ends are bytes at the places of the run, and leave a machine a machine.
use Rattle.std.proofs.Common.{◌≡◌, ℕ, suc, ◌+◌, ◌%◌, ◌<◌, ◌≤◌, ◌^◌, Ok, true, List, [], ◌∷◌, length, drop, slice_index, slice_index_or}
use Rattle.std.proofs.{Common.{slice_set, refl, ap, ◌∙◌, sym, arith, add-zero}, Math.Seq.{drop-cons}, lemmas.List.{drop_all}}
use Rattle.client_world.specs.{declared.place.Place.{Place}, declared.place.Place.TheVariants.{Nothing}}
use Rattle.client_world.specs.{declared.host_frames.TheConstants.{PAGE_SIZE}, Access.{place_in, may_touch, with_byte_of, places_from}}
use Rattle.client_world.specs.World.{World}
use Rattle.client_world.proofs.PlaceLaws.{length-places_from, places_from-at, place_in-with_byte_of}
use Rattle.guest_ram.specs.Bytes.{put}
use Rattle.host_memory.specs.{Layout.{address_of}, View.{MachineView}}
use Rattle.host_memory.proofs.PlaceEnds.{TouchesAt}
use Rattle.guest_space.specs.{Machines.{Processor, held_world, IsMachine}, Transfer.{translated, with_bytes_at, with_places}}
use Rattle.guest_space.proofs.Machines.{CanWrite, CanWriteAll, AllBytes, with_place, written_machine, written_machines, written_addresses}
use Rattle.guest_space.proofs.{Machines.{can_write_after, with_places_none, with_places_first, with_places_bytes}, Runs.{run_touches}}
use Rattle.guest_space.proofs.Runs.{run_all, can_write_run}

-- one byte
pub can_write_there : (w : World) (lin : ℕ) → may_touch (place_in w.blocks lin) true ≡ true → CanWrite w (place_in w.blocks lin)
can_write_there w lin may = record { at = lin; is = refl; may = may }

pub put_machine : (k : Processor) (v : MachineView) (lin p x : ℕ) → IsMachine k v → TouchesAt v.bytes (place_in v.world.blocks lin) true p →
    x < 0x100 → IsMachine k (record { world = with_byte_of v.world (place_in v.world.blocks lin) x; bytes = slice_set v.bytes p x })
put_machine k v lin p x m touches small =
    rw touches.address (written_machine k v (place_in v.world.blocks lin) x m (can_write_there v.world lin touches.may) small)

pub put_is : (k : Processor) (v : MachineView) (lin p x : ℕ) → IsMachine k v → TouchesAt v.bytes (place_in v.world.blocks lin) true p →
    x < 0x100 → record { world = held_world k (slice_set v.bytes p x); bytes = slice_set v.bytes p x }
    ≡ with_places v (place_in v.world.blocks lin ∷ []) (x ∷ [])
put_is k v lin p x m touches small =
    ap (λ (w : World). record { world = w; bytes = slice_set v.bytes p x }) (sym (put_machine k v lin p x m touches small).is)
    ∙ ap (λ (a : ℕ). record { world = with_byte_of v.world (place_in v.world.blocks lin) x; bytes = slice_set v.bytes a x }) touches.address
    ∙ sym (with_places_first v (place_in v.world.blocks lin) [] x [] ∙ with_places_none (with_place v (place_in v.world.blocks lin) x) [])

-- a run of bytes whose places lie one after another
pub put_run : (k : Processor) (v : MachineView) (places : List Place) (bytes : List ℕ) (p : ℕ) → IsMachine k v →
    CanWriteAll v.world places → AllBytes bytes → length bytes ≡ length places →
    ((i : ℕ) → i < length places → p + i ≡ address_of v.bytes (slice_index_or places i Nothing)) →
    put v.bytes p bytes ≡ with_bytes_at v.bytes places bytes
put_run k v [] [] p m can small size stands = refl
put_run k v [] (x ∷ bytes) p m can small size stands = absurd cc
put_run k v (q ∷ places) [] p m can small size stands = absurd cc
put_run k v (q ∷ places) (x ∷ bytes) p m can small size stands =
    let here : p ≡ address_of v.bytes q = sym (add-zero p) ∙ stands 0 (omega arith) in
    let first : CanWrite v.world q = can 0 (omega arith) in
    ap (λ (a : ℕ). put (slice_set v.bytes a x) (p + 1) bytes) here
    ∙ put_run k (with_place v q x) places bytes (p + 1) (written_machine k v q x m first (small 0 (omega arith)))
    (λ i within. can_write_after v.world q (slice_index_or places i Nothing) x (can (suc i) (omega arith)))
    (λ i within. small (suc i) (omega arith)) (omega arith)
    (λ i within. (let same : p + 1 + i ≡ p + suc i = omega arith in
    same ∙ stands (suc i) (omega arith) ∙ sym (written_addresses k v q x m first (slice_index_or places i Nothing))))

-- those of a run in one page do, where one translation ends
pub run_stands : (k : Processor) (v : MachineView) (lin n p : ℕ) → IsMachine k v → lin < 2 ^ 32 → lin % PAGE_SIZE + n ≤ PAGE_SIZE →
    translated v lin true ≡ Ok p → (i : ℕ) → i < length (places_from v.world.blocks lin n) →
    p + i ≡ address_of v.bytes (slice_index_or (places_from v.world.blocks lin n) i Nothing)
run_stands k v lin n p m small room ends i within =
    let size = length-places_from v.world.blocks lin n in
    let less : i < n = omega arith in
    (run_touches k v lin i n p true m small room less ends).address
    ∙ ap (address_of v.bytes) (sym (places_from-at v.world.blocks lin n i Nothing less))

pub store_machine : (k : Processor) (v : MachineView) (lin n p : ℕ) (bytes : List ℕ) → IsMachine k v → lin < 2 ^ 32 →
    lin % PAGE_SIZE + n ≤ PAGE_SIZE →
    translated v lin true ≡ Ok p → length bytes ≡ n → AllBytes bytes → IsMachine k (with_places v (places_from v.world.blocks lin n) bytes)
store_machine k v lin n p bytes m small room ends size all =
    written_machines k v (places_from v.world.blocks lin n) bytes m
    (can_write_run v.world lin n (run_all k v lin n p true m small room ends)) all

pub store_bytes : (k : Processor) (v : MachineView) (lin n p : ℕ) (bytes : List ℕ) → IsMachine k v → lin < 2 ^ 32 →
    lin % PAGE_SIZE + n ≤ PAGE_SIZE → translated v lin true ≡ Ok p → length bytes ≡ n → AllBytes bytes →
    put v.bytes p bytes ≡ (with_places v (places_from v.world.blocks lin n) bytes).bytes
store_bytes k v lin n p bytes m small room ends size all =
    put_run k v (places_from v.world.blocks lin n) bytes p m (can_write_run v.world lin n (run_all k v lin n p true m small room ends)) all
    (size ∙ sym (length-places_from v.world.blocks lin n)) (run_stands k v lin n p m small room ends)
    ∙ sym (with_places_bytes v (places_from v.world.blocks lin n) bytes)

-- the memory after it
pub store_opened : (k : Processor) (v : MachineView) (lin n p : ℕ) (bytes : List ℕ) → IsMachine k v → lin < 2 ^ 32 →
    lin % PAGE_SIZE + n ≤ PAGE_SIZE → translated v lin true ≡ Ok p → length bytes ≡ n → AllBytes bytes →
    IsMachine k (record { world = held_world k (put v.bytes p bytes); bytes = put v.bytes p bytes })
store_opened k v lin n p bytes m small room ends size all =
    let after = store_machine k v lin n p bytes m small room ends size all in
    rw (store_bytes k v lin n p bytes m small room ends size all)
    (record { holds = after.holds; is = refl; sound = rw (← after.is) after.sound })

pub store_is : (k : Processor) (v : MachineView) (lin n p : ℕ) (bytes : List ℕ) → IsMachine k v → lin < 2 ^ 32 →
    lin % PAGE_SIZE + n ≤ PAGE_SIZE → translated v lin true ≡ Ok p → length bytes ≡ n → AllBytes bytes →
    record { world = held_world k (put v.bytes p bytes); bytes = put v.bytes p bytes }
    ≡ with_places v (places_from v.world.blocks lin n) bytes
store_is k v lin n p bytes m small room ends size all =
    let after = store_machine k v lin n p bytes m small room ends size all in
    let same = store_bytes k v lin n p bytes m small room ends size all in
    ap (λ (b : List ℕ). record { world = held_world k b; bytes = b }) same
    ∙ ap (λ (w : World). record { world = w; bytes = (with_places v (places_from v.world.blocks lin n) bytes).bytes }) (sym after.is)

-- bytes that are put one by one: what is left to do leads to the same end
pub put_step : (v w : MachineView) (places : List Place) (bytes : List ℕ) (i : ℕ) → length places ≡ length bytes → i < length bytes →
    with_places v (drop i places) (drop i bytes) ≡ w →
    with_places (with_places v (slice_index_or places i Nothing ∷ []) (slice_index bytes i ∷ [])) (drop (i + 1) places)
    (drop (i + 1) bytes) ≡ w
put_step v w places bytes i size within left = grind (arith, drop-cons, with_place, with_places_first, with_places_none)

pub put_end : (v w : MachineView) (places : List Place) (bytes : List ℕ) (i : ℕ) → length places ≡ length bytes → length bytes ≤ i →
    with_places v (drop i places) (drop i bytes) ≡ w → v ≡ w
put_end v w places bytes i size done left = grind (arith, drop_all, with_places_none)

-- a byte that is put moves no place
pub put_keeps : (v u : MachineView) (p : Place) (x l : ℕ) → u ≡ with_places v (p ∷ []) (x ∷ []) →
    place_in u.world.blocks l ≡ place_in v.world.blocks l
put_keeps v u p x l e = grind (arith, place_in-with_byte_of, with_place, with_places_first, with_places_none)
