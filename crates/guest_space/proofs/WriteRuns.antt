-- Runs of bytes in one page: their parts are runs and are read as such, a write leaves them runs, and writes to them have no fault.
use Rattle.std.proofs.Common.{◌≡◌, ℕ, suc, ◌+◌, ◌-◌, ◌%◌, ◌<◌, ◌≤◌, ◌^◌, Bool, true, List, [], ◌∷◌, length, slice_index_or, ap, ◌∙◌, sym}
use Rattle.std.proofs.{Common.{subst, arith, None, Ok, false, refl}, lemmas.Bool.Decides.{nat_tests}, lemmas.List.{get_or_default}}
use Rattle.std.specs.List.{AllWithin}
use Rattle.client_world.specs.{declared.place.Place.{Place}, declared.place.Place.TheVariants.{Nothing, Dos, Block, Host}}
use Rattle.client_world.specs.{declared.segments.SegReg.{SegReg}, Access.{place_in, linear, segment_base, places_from, may_touch}}
use Rattle.client_world.specs.{World.{World}, declared.registers.Mode.{Mode}, declared.registers.Mode.TheVariants.{Real, Protected}}
use Rattle.client_world.specs.{declared.registers.Regs.{Regs}, Segments.{selector}, Selector.{Row}}
use Rattle.guest_ram.specs.Bytes.{put, region}
use Rattle.host_memory.specs.{Layout.{address_of}, View.{MachineView}}
use Rattle.host_memory.proofs.PlaceEnds.{TouchesAt}
use Rattle.guest_space.specs.{declared.pending.Write.{Write}, Machines.{Processor, held_world, IsMachine}, Pending.{byte_count}}
use Rattle.guest_space.specs.{Pending.{number_bytes, write_fault, after_write, first_write_fault}, Transfer.{translated, access_fault}}
use Rattle.guest_space.specs.{Transfer.{after_store, with_places, read_result}, WriteRuns.{LiesIn, IsRun, AreRuns}}
use Rattle.guest_space.proofs.Accesses.{refusal_linear, stored_linear, loaded_linear, segment_part, protected_read}
use Rattle.guest_space.proofs.{MemoryAlone.{SameAccess, same_places}, Machines.{AllBytes, CanWrite, CanWriteAll, with_place}}
use Rattle.guest_space.proofs.Machines.{can_write_after, with_places_none, with_places_short, with_places_first, written_machine}
use Rattle.guest_space.proofs.{Machines.{written_addresses}, Puts.{store_is}, Runs.{run_all, run_inside, run_touches, no_fault}}
use Rattle.guest_space.proofs.{Runs.{can_write_run, run_loaded}, Writes.{first_none, first_later}}

-- one more write in a span that may have grown
pub span_grows : (seg : SegReg) (low high least most : ℕ) (xs : List Write) (i : ℕ) (e : Write) → i < length xs →
    AllWithin (λ (x : Write). LiesIn seg low high x) xs 0 i → LiesIn seg least most (slice_index_or xs i e) → least ≤ low → high ≤ most →
    AllWithin (λ (x : Write). LiesIn seg least most x) xs 0 (i + 1)
span_grows seg low high least most xs i e within before here lower higher = grind (arith, get_or_default)

-- where a place may be touched, its translation is its address
pub translated_where : (v : MachineView) (lin : ℕ) (write : Bool) (p : ℕ) → TouchesAt v.bytes (place_in v.world.blocks lin) write p →
    translated v lin write ≡ Ok p
unfolding translated
translated_where v lin write p touches = rw touches.may (ap (λ (a : ℕ). Ok a) (sym touches.address))

-- a part of a run is a run
pub part_of_run : (k : Processor) (v : MachineView) (seg : SegReg) (low n at i m : ℕ) → IsMachine k v → IsRun v seg low n at → i + m ≤ n →
    0 < m → IsRun v seg (low + i) m (at + i)
part_of_run k v seg low n at i m machine run within some =
    let lin = linear (run.base + low) in
    let room = run.room in
    let same : linear (lin + i) ≡ linear (run.base + (low + i)) = omega arith in
    record {
      base = run.base;
      allowed = segment_part v.world.mode v.world.regs v.world.descriptors seg low n i m true run.base within run.allowed;
      room = omega arith;
      ends = grind (arith, run_touches, translated_where);
    }

-- it lies inside the memory, whose addresses are numbers of 32 bits
pub run_in_memory : (k : Processor) (v : MachineView) (seg : SegReg) (low n at : ℕ) → IsMachine k v → IsRun v seg low n at → 0 < n →
    at + n ≤ length v.bytes
run_in_memory k v seg low n at machine run some =
    run_inside k v (linear (run.base + low)) n at true machine (omega arith) run.room some run.ends

pub run_is_small : (k : Processor) (v : MachineView) (seg : SegReg) (low n at : ℕ) → IsMachine k v → IsRun v seg low n at → 0 < n →
    at + n ≤ 2 ^ 32
run_is_small k v seg low n at machine run some =
    let inside = run_in_memory k v seg low n at machine run some in
    let size = machine.holds.size in
    let most = machine.holds.most in
    omega arith

-- a write with its bytes in the run, at its offset and the shift of the run
pub count_some : (width : ℕ) → 0 < byte_count width
count_some width = grind (arith, nat_tests)

pub write_in_run : (k : Processor) (v : MachineView) (seg : SegReg) (low high n at : ℕ) (x : Write) → IsMachine k v → IsRun v seg low n at →
    low + n ≡ high →
    low < 2 ^ 32 → LiesIn seg low high x → IsRun v x.seg x.off (byte_count x.width) (linear (x.off + (at + (2 ^ 32 - low)) % 2 ^ 32))
write_in_run k v seg low high n at x machine run end small lies =
    let above : low ≤ x.off = lies.1 in
    let below : x.off + byte_count x.width ≤ high = lies.2 in
    let some = count_some x.width in
    let part = part_of_run k v seg low n at (x.off - low) (byte_count x.width) machine run (omega arith) some in
    let last = run_is_small k v seg low n at machine run (omega arith) in
    let offset : low + (x.off - low) ≡ x.off = omega arith in
    let address : at + (x.off - low) ≡ linear (x.off + (at + (2 ^ 32 - low)) % 2 ^ 32) = omega arith in
    subst (λ (s : SegReg). IsRun v s x.off (byte_count x.width) (linear (x.off + (at + (2 ^ 32 - low)) % 2 ^ 32))) (sym lies.0)
    (subst (λ (a : ℕ). IsRun v seg x.off (byte_count x.width) a) address
    (subst (λ (o : ℕ). IsRun v seg o (byte_count x.width) (at + (x.off - low))) offset part))

-- none of the writes has a fault
pub run_not_refused : (k : Processor) (v : MachineView) (seg : SegReg) (low n at : ℕ) → IsMachine k v → IsRun v seg low n at →
    access_fault v.world seg low n true ≡ None
run_not_refused k v seg low n at machine run =
    refusal_linear v.world seg low n run.base true run.allowed
    ∙ no_fault v.world (linear (run.base + low)) n true
    (run_all k v (linear (run.base + low)) n at true machine (omega arith) run.room run.ends)

write_not_refused : (k : Processor) (v : MachineView) (x : Write) (at : ℕ) → IsMachine k v → IsRun v x.seg x.off (byte_count x.width) at →
    write_fault v.world x ≡ None
unfolding write_fault
write_not_refused k v x at machine run = run_not_refused k v x.seg x.off (byte_count x.width) at machine run

pub runs_not_refused : (k : Processor) (v : MachineView) (shift : ℕ) (xs : List Write) → IsMachine k v → AreRuns v shift xs →
    first_write_fault v.world xs ≡ None
runs_not_refused k v shift [] machine runs = first_none v.world
runs_not_refused k v shift (x ∷ xs) machine runs =
    first_later v.world x xs (write_not_refused k v x (linear (x.off + shift)) machine (runs 0 x (omega arith)))
    ∙ runs_not_refused k v shift xs machine (λ i d within. runs (suc i) d (omega arith))

-- bytes that are put where a run is
pub run_stored : (k : Processor) (v : MachineView) (seg : SegReg) (low n at : ℕ) (bytes : List ℕ) → IsMachine k v → IsRun v seg low n at →
    length bytes ≡ n → AllBytes bytes →
    record { world = held_world k (put v.bytes at bytes); bytes = put v.bytes at bytes } ≡ after_store v seg low n bytes
run_stored k v seg low n at bytes machine run size small =
    let lin = linear (run.base + low) in
    store_is k v lin n at bytes machine (omega arith) run.room run.ends size small
    ∙ stored_linear v seg low n run.base bytes run.allowed
    (no_fault v.world lin n true (run_all k v lin n at true machine (omega arith) run.room run.ends))

-- they move no place, and no address of one
pub places_keep_addresses : (k : Processor) (v : MachineView) (places : List Place) (bytes : List ℕ) → IsMachine k v →
    CanWriteAll v.world places → AllBytes bytes → (q : Place) → address_of (with_places v places bytes).bytes q ≡ address_of v.bytes q
places_keep_addresses k v [] bytes m can small q = ap (λ (u : MachineView). address_of u.bytes q) (with_places_none v bytes)
places_keep_addresses k v (p ∷ places) [] m can small q = ap (λ (u : MachineView). address_of u.bytes q) (with_places_short v (p ∷ places))
places_keep_addresses k v (p ∷ places) (x ∷ bytes) m can small q =
    let first : CanWrite v.world p = can 0 (omega arith) in
    ap (λ (u : MachineView). address_of u.bytes q) (with_places_first v p places x bytes)
    ∙ places_keep_addresses k (with_place v p x) places bytes (written_machine k v p x m first (small 0 (omega arith)))
    (λ i within. can_write_after v.world p (slice_index_or places i Nothing) x (can (suc i) (omega arith)))
    (λ i within. small (suc i) (omega arith)) q
    ∙ written_addresses k v p x m first q

pub translated_same : (v u : MachineView) (lin : ℕ) (write : Bool) → place_in u.world.blocks lin ≡ place_in v.world.blocks lin →
    ((q : Place) → address_of u.bytes q ≡ address_of v.bytes q) → translated u lin write ≡ translated v lin write
unfolding translated
translated_same v u lin write same addresses = grind arith

base_same : (w u : World) → SameAccess w u → (seg : SegReg) (offset n : ℕ) →
    segment_base u.mode u.regs u.descriptors seg offset n true ≡ segment_base w.mode w.regs w.descriptors seg offset n true
base_same w u same seg offset n = grind arith

run_same : (v u : MachineView) → SameAccess v.world u.world → ((q : Place) → address_of u.bytes q ≡ address_of v.bytes q) →
    (seg : SegReg) (offset n at : ℕ) → IsRun v seg offset n at → IsRun u seg offset n at
run_same v u same addresses seg offset n at run = grind (arith, base_same, translated_same)

-- so each run is one still
pub run_kept : (k : Processor) (v : MachineView) (seg : SegReg) (low n at : ℕ) (bytes : List ℕ) → IsMachine k v → IsRun v seg low n at →
    length bytes ≡ n → AllBytes bytes → (s : SegReg) (offset m address : ℕ) → IsRun v s offset m address →
    IsRun (record { world = held_world k (put v.bytes at bytes); bytes = put v.bytes at bytes }) s offset m address
run_kept k v seg low n at bytes machine run size small s offset m address other =
    let lin = linear (run.base + low) in
    let places = places_from v.world.blocks lin n in
    subst (λ (u : MachineView). IsRun u s offset m address)
    (sym (store_is k v lin n at bytes machine (omega arith) run.room run.ends size small))
    (run_same v (with_places v places bytes) (same_places v places bytes)
    (places_keep_addresses k v places bytes machine
    (can_write_run v.world lin n (run_all k v lin n at true machine (omega arith) run.room run.ends)) small)
    s offset m address other)

-- a write is its bytes stored
pub written_by_bytes : (v new : MachineView) (x : Write) (n : ℕ) (bytes : List ℕ) → byte_count x.width ≡ n →
    number_bytes x.width x.value ≡ bytes → new ≡ after_store v x.seg x.off n bytes → new ≡ after_write v x
unfolding after_write
written_by_bytes v new x n bytes count is e = grind arith

-- what may be written may be read
base_for_read : (mode : Mode) (r : Regs) (rows : List Row) (seg : SegReg) (offset n base : ℕ) →
    segment_base mode r rows seg offset n true ≡ Ok base → segment_base mode r rows seg offset n false ≡ Ok base
unfolding segment_base
base_for_read Real r rows seg offset n base e = e
base_for_read Protected r rows seg offset n base e = protected_read rows seg (selector r seg) offset n base e

pub place_for_read : (p : Place) → may_touch p true ≡ true → may_touch p false ≡ true
place_for_read (Dos at) e = refl
place_for_read (Block number at) e = refl
place_for_read Host e = absurd cc
place_for_read Nothing e = absurd cc

touches_for_read : (b : List ℕ) (place : Place) (p : ℕ) → TouchesAt b place true p → TouchesAt b place false p
touches_for_read b place p touches = record { may = place_for_read place touches.may; address = touches.address }

read_of_run : (k : Processor) (v : MachineView) (seg : SegReg) (low n at : ℕ) → IsMachine k v → IsRun v seg low n at → 0 < n →
    read_result v.world seg low n ≡ Ok (region v.bytes at n)
read_of_run k v seg low n at machine run some =
    let lin = linear (run.base + low) in
    let room = run.room in
    let none : linear (lin + 0) ≡ lin = omega arith in
    let first : at + 0 ≡ at = omega arith in
    let touches : TouchesAt v.bytes (place_in v.world.blocks (linear (lin + 0))) true (at + 0) =
    run_touches k v lin 0 n at true machine (omega arith) room some run.ends in
    let ends : translated v lin false ≡ Ok at =
    ap (λ (a : ℕ). translated v a false) (sym none)
    ∙ translated_where v (linear (lin + 0)) false (at + 0)
    (touches_for_read v.bytes (place_in v.world.blocks (linear (lin + 0))) (at + 0) touches)
    ∙ ap (λ (a : ℕ). Ok a) first in
    sym (run_loaded k v lin n at machine (omega arith) room some ends
    ∙ loaded_linear v.world seg low n run.base (base_for_read v.world.mode v.world.regs v.world.descriptors seg low n run.base run.allowed))

-- a part of a run, as it is read
pub part_is_read : (k : Processor) (v : MachineView) (seg : SegReg) (low n at i m : ℕ) → IsMachine k v → IsRun v seg low n at → i + m ≤ n →
    0 < m → read_result v.world seg (low + i) m ≡ Ok (region v.bytes (at + i) m)
part_is_read k v seg low n at i m machine run within some =
    read_of_run k v seg (low + i) m (at + i) machine (part_of_run k v seg low n at i m machine run within some) some
