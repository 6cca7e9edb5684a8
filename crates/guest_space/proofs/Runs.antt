-- An access to a run of bytes, by the walks of its bytes: where it ends, and which fault it has.
use Rattle.std.proofs.Common.{◌≡◌, ℕ, zero, suc, ◌+◌, ◌-◌, ◌%◌, ◌<◌, ◌≤◌, ◌^◌, inl, inr, Bool, true, false, List, [], ◌∷◌, length}
use Rattle.std.proofs.Common.{slice_index, slice_index_or, refl, ap, ◌∙◌, sym, arith, Option, None, Some, Ok, Err}
use Rattle.std.proofs.{lemmas.Bool.{cases_Bool, cases_lt}, lemmas.Bool.Decides.{nat_tests}, lemmas.Grind.{same_number_lists}}
use Rattle.std.proofs.lemmas.List.{same_lists}
use Rattle.std.specs.Prelude.{nat_le}
use Rattle.client_world.specs.{declared.faults.Fault.{Fault}, declared.faults.PageFault.{PageFault}, declared.place.Place.{Place}}
use Rattle.client_world.specs.{declared.place.Place.TheVariants.{Nothing}, declared.host_frames.TheConstants.{PAGE_SIZE, PAGE_DIRECTORY}}
use Rattle.client_world.specs.Access.{place_in, place_of, may_touch, is_present, page_fault, byte_of, bytes_of, linear, places_from}
use Rattle.client_world.specs.{Access.{first_forbidden}, World.{World, MemoryBlock}}
use Rattle.client_world.proofs.PlaceLaws.{length-places_from, places_from-at, first_forbidden-none, first_forbidden-none_where_allowed}
use Rattle.client_world.proofs.SoundWrites.{length-bytes_of, at_bytes_of}
use Rattle.page_tables.specs.Walk.{walked}
use Rattle.page_tables.proofs.MapLaws.{same_run, run_linear}
use Rattle.guest_ram.specs.Bytes.{region}
use Rattle.guest_ram.proofs.PutLaws.{length-region, at_region}
use Rattle.host_memory.specs.{Law.{walk_result}, View.{MachineView}}
use Rattle.host_memory.proofs.{PlaceEnds.{TouchesAt, told_ends, told_fails, told_may}, WalkLaw.{walk_agrees}}
use Rattle.guest_space.specs.{Transfer.{translated, linear_access, bytes_at, fault_of}, Machines.{Processor, IsMachine}}
use Rattle.guest_space.proofs.Machines.{sound_blocks, stands_there, CanWriteAll}

-- a walk ends where the place says
pub walk_of_place : (k : Processor) (v : MachineView) (lin : ℕ) (write : Bool) → IsMachine k v → lin < 2 ^ 32 →
    walked v.bytes PAGE_DIRECTORY lin write ≡ walk_result v.bytes (place_in v.world.blocks lin) write
walk_of_place k v lin write m small = grind (arith, sound_blocks, walk_agrees)

-- a translation, by the walk
pub translated_by_walk : (k : Processor) (v : MachineView) (lin : ℕ) (write : Bool) (p : ℕ) → IsMachine k v → lin < 2 ^ 32 →
    walked v.bytes PAGE_DIRECTORY lin write ≡ Ok p → translated v lin write ≡ Ok p
unfolding translated
translated_by_walk k v lin write p m small ends = grind (arith, told_ends, walk_of_place)

pub translated_by_failure : (k : Processor) (v : MachineView) (lin : ℕ) (write : Bool) (f : PageFault) → IsMachine k v → lin < 2 ^ 32 →
    walked v.bytes PAGE_DIRECTORY lin write ≡ Err f → translated v lin write ≡ Err (page_fault f.present write)
unfolding translated
translated_by_failure k v lin write f m small fails = grind (arith, told_fails, walk_of_place)

-- what a translation says of the place
pub translated_ends : (v : MachineView) (lin : ℕ) (write : Bool) (p : ℕ) → translated v lin write ≡ Ok p →
    TouchesAt v.bytes (place_in v.world.blocks lin) write p
unfolding translated
translated_ends v lin write p e = grind (arith, cases_Bool)

-- the place forbids it, and this is the fault
pub record Refused (p : Place) (write : Bool) (f : Fault) : Type 0 where
  pub barred : may_touch p write ≡ false
  pub fault : f ≡ page_fault (is_present p) write

pub translated_fails : (v : MachineView) (lin : ℕ) (write : Bool) (f : Fault) → translated v lin write ≡ Err f →
    Refused (place_in v.world.blocks lin) write f
unfolding translated
translated_fails v lin write f e = grind (arith, cases_Bool)

-- one translation serves a run of bytes that does not leave its page
pub run_touches : (k : Processor) (v : MachineView) (lin i n p : ℕ) (write : Bool) → IsMachine k v → lin < 2 ^ 32 →
    lin % PAGE_SIZE + n ≤ PAGE_SIZE →
    i < n → translated v lin write ≡ Ok p → TouchesAt v.bytes (place_in v.world.blocks (linear (lin + i))) write (p + i)
run_touches k v lin i n p write m small room within ends =
    let first = translated_ends v lin write p ends in
    let walk : walked v.bytes PAGE_DIRECTORY lin write ≡ Ok p = walk_of_place k v lin write m small
    ∙ told_may v.bytes (place_in v.world.blocks lin) write first.may ∙ ap (λ (a : ℕ). Ok a) (sym first.address) in
    let same : linear (lin + i) ≡ lin + i = run_linear lin i n small room within in
    let less : lin + i < 2 ^ 32 = omega arith in
    rw same (told_ends v.bytes (place_in v.world.blocks (lin + i)) write (p + i)
    (sym (walk_of_place k v (lin + i) write m less) ∙ same_run v.bytes PAGE_DIRECTORY lin i n p write room within walk))

-- each byte of the run may be touched
abbrev pub AllTouch : List (Option MemoryBlock) → ℕ → ℕ → Bool → Type 0
AllTouch blocks at n write = (i : ℕ) → i < n → may_touch (place_in blocks (linear (at + i))) write ≡ true

pub none_forbidden : (blocks : List (Option MemoryBlock)) (at n : ℕ) (write : Bool) → AllTouch blocks at n write →
    first_forbidden (places_from blocks at n) write ≡ None
none_forbidden blocks at n write all = grind (arith, first_forbidden-none_where_allowed, length-places_from, places_from-at)

pub access_ends : (w : World) (at n : ℕ) (write : Bool) → AllTouch w.blocks at n write →
    linear_access w at n write ≡ Ok (places_from w.blocks at n)
access_ends w at n write all = rw (none_forbidden w.blocks at n write all)

-- the first byte that forbids it
some_forbidden : (places : List Place) (write : Bool) (i : ℕ) → i < length places →
    ((j : ℕ) → j < i → may_touch (slice_index_or places j Nothing) write ≡ true) →
    may_touch (slice_index_or places i Nothing) write ≡ false → first_forbidden places write ≡ Some (slice_index_or places i Nothing)
some_forbidden [] write i within before barred = absurd (omega arith)
some_forbidden (p ∷ places) write zero within before barred = rw barred
some_forbidden (p ∷ places) write (suc i) within before barred =
    rw (before 0 (omega arith)) (some_forbidden places write i (omega arith) (λ j less. before (suc j) (omega arith)) barred)

pub access_fails : (w : World) (at n i : ℕ) (write : Bool) (f : Fault) → i < n → AllTouch w.blocks at i write →
    Refused (place_in w.blocks (linear (at + i))) write f → linear_access w at n write ≡ Err f
access_fails w at n i write f within before refused =
    let here = places_from-at w.blocks at n i Nothing within in
    let size = length-places_from w.blocks at n in
    let forbidden : first_forbidden (places_from w.blocks at n) write ≡ Some (slice_index_or (places_from w.blocks at n) i Nothing) =
    some_forbidden (places_from w.blocks at n) write i (omega arith)
    (λ j less. grind (arith, places_from-at))
    (ap (λ (p : Place). may_touch p write) here ∙ refused.barred) in
    rw forbidden (ap (λ (p : Place). Err (page_fault (is_present p) write)) here ∙ ap (λ (g : Fault). Err g) (sym refused.fault))

-- where an access has no fault each byte may be touched
allowed_of : (o : Option Place) (places : List Place) (write : Bool) →
    fault_of (Rattle.client_world.specs.Access.unless_forbidden o places write) ≡ None → o ≡ None
allowed_of None places write e = refl
allowed_of (Some p) places write e = absurd cc

pub all_touch : (w : World) (at n : ℕ) (write : Bool) → fault_of (linear_access w at n write) ≡ None → AllTouch w.blocks at n write
all_touch w at n write e i within =
    let size = length-places_from w.blocks at n in
    sym (ap (λ (p : Place). may_touch p write) (places_from-at w.blocks at n i Nothing within))
    ∙ first_forbidden-none (places_from w.blocks at n) write
    (allowed_of (first_forbidden (places_from w.blocks at n) write) (places_from w.blocks at n) write e)
    i (omega arith)

-- and may be written
pub can_write_run : (w : World) (at n : ℕ) → AllTouch w.blocks at n true → CanWriteAll w (places_from w.blocks at n)
can_write_run w at n all i within = grind (arith, length-places_from, places_from-at)

-- linear addresses turn over alike, whether the sum did before or not
pub linear_run : (blocks : List (Option MemoryBlock)) (at n : ℕ) → places_from blocks (linear at) n ≡ places_from blocks at n
linear_run blocks at n = grind (arith, length-places_from, places_from-at, same_lists)

-- bytes that were read one by one
pub bytes_read : (w : World) (at n : ℕ) (bytes : List ℕ) → length bytes ≡ n →
    ((i : ℕ) → i < n → slice_index bytes i ≡ byte_of w (place_in w.blocks (linear (at + i)))) →
    bytes ≡ bytes_of w (places_from w.blocks at n)
bytes_read w at n bytes size each = grind (arith, at_bytes_of, length-bytes_of, length-places_from, places_from-at, same_number_lists)

-- a run in one page is the region where the translation of its first byte ends
pub run_all : (k : Processor) (v : MachineView) (lin n p : ℕ) (write : Bool) → IsMachine k v → lin < 2 ^ 32 →
    lin % PAGE_SIZE + n ≤ PAGE_SIZE → translated v lin write ≡ Ok p → AllTouch v.world.blocks lin n write
run_all k v lin n p write m small room ends i within = (run_touches k v lin i n p write m small room within ends).may

pub run_inside : (k : Processor) (v : MachineView) (lin n p : ℕ) (write : Bool) → IsMachine k v → lin < 2 ^ 32 →
    lin % PAGE_SIZE + n ≤ PAGE_SIZE → 0 < n → translated v lin write ≡ Ok p → p + n ≤ length v.bytes
run_inside k v lin n p write m small room some ends =
    let last = run_touches k v lin (n - 1) n p write m small room (omega arith) ends in
    let stands = stands_there k v (linear (lin + (n - 1))) write m last.may in
    let inside = stands.inside in
    let address = last.address in
    omega arith

pub run_bytes : (k : Processor) (v : MachineView) (lin n p : ℕ) → IsMachine k v → lin < 2 ^ 32 → lin % PAGE_SIZE + n ≤ PAGE_SIZE → 0 < n →
    translated v lin false ≡ Ok p → region v.bytes p n ≡ bytes_of v.world (places_from v.world.blocks lin n)
run_bytes k v lin n p m small room some ends =
    bytes_read v.world lin n (region v.bytes p n) (length-region v.bytes p n (run_inside k v lin n p false m small room some ends))
    (λ i within. let touches = run_touches k v lin i n p false m small room within ends in
    let stands = stands_there k v (linear (lin + i)) false m touches.may in
    at_region v.bytes p n i within ∙ ap (λ (a : ℕ). slice_index v.bytes a) touches.address ∙ stands.byte)

-- an access that goes over the end of its page: it ends where each of its parts does
pub parts_end : (k : Processor) (v : MachineView) (lin n p q : ℕ) (write : Bool) → IsMachine k v → lin < 2 ^ 32 → n ≤ PAGE_SIZE →
    PAGE_SIZE < lin % PAGE_SIZE + n → translated v lin write ≡ Ok p →
    translated v ((lin + (PAGE_SIZE - lin % PAGE_SIZE)) % 2 ^ 32) write ≡ Ok q → AllTouch v.world.blocks lin n write
parts_end k v lin n p q write m small few over ends later i within = elim (cases_lt i (PAGE_SIZE - lin % PAGE_SIZE)) [
  | inl first ↦ run_all k v lin (PAGE_SIZE - lin % PAGE_SIZE) p write m small (omega arith) ends i first
  | inr second ↦ (
      let start = (lin + (PAGE_SIZE - lin % PAGE_SIZE)) % 2 ^ 32 in
      let same : linear ((lin + (PAGE_SIZE - lin % PAGE_SIZE)) % 2 ^ 32 + (i - (PAGE_SIZE - lin % PAGE_SIZE))) ≡ linear (lin + i) =
      omega arith in
      ap (λ (a : ℕ). may_touch (place_in v.world.blocks a) write) (sym same)
      ∙ run_all k v start (n - (PAGE_SIZE - lin % PAGE_SIZE)) q write m (omega arith) (omega arith) later
      (i - (PAGE_SIZE - lin % PAGE_SIZE)) (omega arith))
]

-- and fails where the first one that does fails
pub first_part_fails : (v : MachineView) (lin n : ℕ) (write : Bool) (f : Fault) → lin < 2 ^ 32 → 0 < n → translated v lin write ≡ Err f →
    linear_access v.world lin n write ≡ Err f
first_part_fails v lin n write f small some fails =
    let refused = translated_fails v lin write f fails in
    let same : linear (lin + 0) ≡ lin = omega arith in
    access_fails v.world lin n 0 write f some (λ i none. absurd (omega arith)) (rw same refused)

pub second_part_fails : (k : Processor) (v : MachineView) (lin n p : ℕ) (write : Bool) (f : Fault) → IsMachine k v → lin < 2 ^ 32 →
    PAGE_SIZE < lin % PAGE_SIZE + n → translated v lin write ≡ Ok p →
    translated v ((lin + (PAGE_SIZE - lin % PAGE_SIZE)) % 2 ^ 32) write ≡ Err f → linear_access v.world lin n write ≡ Err f
second_part_fails k v lin n p write f m small over ends fails =
    access_fails v.world lin n (PAGE_SIZE - lin % PAGE_SIZE) write f (omega arith)
    (run_all k v lin (PAGE_SIZE - lin % PAGE_SIZE) p write m small (omega arith) ends)
    (translated_fails v ((lin + (PAGE_SIZE - lin % PAGE_SIZE)) % 2 ^ 32) write f fails)

-- so no fault is one of the access
pub no_fault : (w : World) (lin n : ℕ) (write : Bool) → AllTouch w.blocks lin n write → fault_of (linear_access w lin n write) ≡ None
no_fault w lin n write all = ap fault_of (access_ends w lin n write all)

-- whether a run lies in one page, as it is asked
pub is_in : (a b : ℕ) → nat_le a b ≡ true → a ≤ b
is_in a b h = grind (arith, nat_tests)

pub is_over : (a b : ℕ) → nat_le a b ≡ false → b < a
is_over a b h = grind (arith, nat_tests)

pub run_loaded : (k : Processor) (v : MachineView) (lin n p : ℕ) → IsMachine k v → lin < 2 ^ 32 → lin % PAGE_SIZE + n ≤ PAGE_SIZE → 0 < n →
    translated v lin false ≡ Ok p → Ok (region v.bytes p n) ≡ bytes_at v.world (linear_access v.world lin n false)
run_loaded k v lin n p m small room some ends = grind (arith, access_ends, run_all, run_bytes)

-- bytes that were read one by one, as an answer, and the first that could not be read
pub each_loaded : (w : World) (lin n : ℕ) (bytes : List ℕ) → length bytes ≡ n → AllTouch w.blocks lin n false →
    ((i : ℕ) → i < n → slice_index bytes i ≡ byte_of w (place_in w.blocks (linear (lin + i)))) →
    Ok bytes ≡ bytes_at w (linear_access w lin n false)
each_loaded w lin n bytes size all each = grind (arith, access_ends, bytes_read)

pub load_fails : (v : MachineView) (lin n i : ℕ) (f : Fault) → i < n → AllTouch v.world.blocks lin i false →
    translated v ((lin + i) % 2 ^ 32) false ≡ Err f → bytes_at v.world (linear_access v.world lin n false) ≡ Err f
load_fails v lin n i f within before fails = grind (arith, access_fails, translated_fails)
