-- What is read at a run after a part of it was written: a run that is reachable ends at 100000000h at the latest, and so the parts of a
-- structure are.
use Rattle.std.proofs.Common.{◌≡◌, ℕ, ◌+◌, ◌≤◌, ◌^◌, Bool, true, false, ◌&&◌, ap, ◌∙◌, sym, arith, List, length, None, Some, Ok, ◌-◌, ◌%◌}
use Rattle.std.proofs.{Common.{◌<◌, ◌⊎◌, inl, inr, [], get_or, refl, slice_index_or, Result}, lemmas.Bool.{cases_Bool, and_parts}}
use Rattle.std.proofs.{lemmas.Bool.{not-false, cases_lt}, lemmas.Bool.Decides.{nat_tests}, lemmas.Grind.{same_number_lists}}
use Rattle.std.specs.Prelude.{IsTrue, nat_lt, nat_le, if◌then◌else◌}
use Rattle.client_world.specs.{declared.descriptors.Desc.{Desc}, declared.segments.FarPtr.{FarPtr}}
use Rattle.client_world.specs.{declared.segments.SegReg.TheVariants.{Es}, declared.faults.TheConstants.{GENERAL_PROTECTION}}
use Rattle.client_world.specs.Access.{base_in_row, fault_with, is_reachable, byte_of, bytes_of, far_access, linear, place_in, places_from}
use Rattle.client_world.specs.{Access.{with_bytes_of}, Descriptor.{is_inside}, Selector.{Row, is_null, row_of_selector}, World.{World}}
use Rattle.client_world.specs.{declared.place.Place.{Place}, declared.place.Place.TheVariants.{Nothing}, declared.faults.Fault.{Fault}}
use Rattle.client_world.specs.{declared.host_frames.TheConstants.{PAGE_SIZE}, Soundness.{IsSound}}
use Rattle.guest_space.proofs.FarLaws.{parts_reachable, reached, Reached, far_places, reachable_linear, part_is_read, written_is_read}
use Rattle.guest_space.proofs.{FarLaws.{far_bytes_is, world_far_written}, Accesses.{passed, protected_part, protected_read}}
use Rattle.guest_space.proofs.{ReadBack.{addresses_apart, bytes_kept}, MemoryAlone.{far_access_same, reachable_kept, same_places}}
use Rattle.guest_space.specs.{Far.{further, far_bytes, world_after_far_write}, Transfer.{places_of_access, with_places}}
use Rattle.translation.specs.{declared.structure.TheConstants.{STRUCTURE_SIZE}, Structure.{has_structure}}
use Rattle.client_world.proofs.{PlaceLaws.{length-places_from, places_from-at}, SoundWrites.{at_bytes_of, length-bytes_of}}
use Rattle.guest_ram.specs.Bytes.{put, region}
use Rattle.guest_ram.proofs.PutLaws.{at_region, length-put, put_away, put_within}
use Rattle.host_memory.specs.View.{MachineView}

up_ends : (end limit : ℕ) → (nat_le end limit && nat_le end (2 ^ 32)) ≡ true → end ≤ 2 ^ 32
up_ends end limit e = grind (arith, nat_tests)

down_ends : (offset end limit greatest : ℕ) → greatest ≤ 0xFFFFFFFF → (nat_lt limit offset && nat_le end (greatest + 1)) ≡ true →
    end ≤ 2 ^ 32
down_ends offset end limit greatest h e = grind (arith, nat_tests)

greatest_fits : (size : Bool) → (if size then 0xFFFFFFFF else 0xFFFF) ≤ 0xFFFFFFFF
greatest_fits true = omega arith
greatest_fits false = omega arith

inside_ends : (d : Desc) (offset n : ℕ) → is_inside d offset n ≡ true → offset + n ≤ 2 ^ 32
inside_ends d offset n e = grind (arith, cases_Bool, down_ends, greatest_fits, up_ends)

row_ends : (sel : ℕ) (row : Row) (offset n base : ℕ) (write : Bool) → base_in_row Es sel row offset n write ≡ Ok base → offset + n ≤ 2 ^ 32
row_ends sel None offset n base write e = absurd cc
row_ends sel (Some row) offset n base write e = grind (arith, inside_ends, not-false, passed)

pub run_ends : (w : World) (p : FarPtr) (n : ℕ) (write : Bool) → is_reachable w p n write ≡ true → p.off + n ≤ 2 ^ 32
run_ends w p n write e =
    let run = reached w p n write e in
    let some = passed (is_null p.sel) (fault_with GENERAL_PROTECTION 0) _ run.base run.is in
    row_ends p.sel (row_of_selector w.descriptors p.sel) p.off n run.base write some.1

-- a structure is a run that may be read, and one that may be written
pub structure_read : (w : World) (at : FarPtr) → IsTrue (has_structure w at) → is_reachable w at STRUCTURE_SIZE false ≡ true
structure_read w at e = (and_parts (is_reachable w at STRUCTURE_SIZE false) (is_reachable w at STRUCTURE_SIZE true) e).0

pub structure_written : (w : World) (at : FarPtr) → IsTrue (has_structure w at) → is_reachable w at STRUCTURE_SIZE true ≡ true
structure_written w at e = (and_parts (is_reachable w at STRUCTURE_SIZE false) (is_reachable w at STRUCTURE_SIZE true) e).1

pub structure_ends : (w : World) (at : FarPtr) → IsTrue (has_structure w at) → at.off + STRUCTURE_SIZE ≤ 2 ^ 32
structure_ends w at e = run_ends w at STRUCTURE_SIZE true (structure_written w at e)

pub no_further : (at : FarPtr) → further at 0 ≡ at
no_further at = grind arith

pub first_reachable : (w : World) (at : FarPtr) (bytes : List ℕ) → IsTrue (has_structure w at) → length bytes ≡ 0x0C →
    IsTrue (is_reachable w at (length bytes) true)
first_reachable w at bytes e size =
    ap (λ (p : FarPtr). is_reachable w p (length bytes) true) (sym (no_further at))
    ∙ parts_reachable w at STRUCTURE_SIZE 0 (length bytes) true (structure_written w at e) (omega (arith, size))

-- a machine with that world, whose bytes don't matter
abbrev bare : World → MachineView
bare w = record { world = w; bytes = [] }

world_put : (w : World) (p : FarPtr) (n : ℕ) (bytes : List ℕ) →
    world_after_far_write w p n bytes ≡ with_bytes_of w (places_of_access (far_access w p n true)) bytes
unfolding world_after_far_write
world_put w p n bytes = refl

-- reaching is the same after a write
pub reachable_after : (w : World) (q : FarPtr) (m : ℕ) (bytes : List ℕ) (p : FarPtr) (n : ℕ) (write : Bool) →
    is_reachable (world_after_far_write w q m bytes) p n write ≡ is_reachable w p n write
unfolding world_after_far_write with_places
reachable_after w q m bytes p n write = reachable_kept (bare w) (places_of_access (far_access w q m true)) bytes p n write

access_after : (w : World) (places : List Place) (bytes : List ℕ) (p : FarPtr) (n : ℕ) →
    far_access (with_bytes_of w places bytes) p n false ≡ far_access w p n false
unfolding with_places
access_after w places bytes p n = far_access_same w (with_places (bare w) places bytes).world (same_places (bare w) places bytes) p n false

-- a run that may be read and written
pub record IsOpen (w : World) (p : FarPtr) (n : ℕ) : Type 0 where
  pub sound : IsSound w
  pub few : n ≤ PAGE_SIZE
  pub read : is_reachable w p n false ≡ true
  pub write : is_reachable w p n true ≡ true

-- its places
abbrev start : (w : World) (p : FarPtr) (n : ℕ) → Reached w p n true → ℕ
start w p n run = (run.base + p.off) % 2 ^ 32

read_before : (w : World) (p : FarPtr) (n : ℕ) (run : Reached w p n true) → is_reachable w p n false ≡ true →
    places_of_access (far_access w p n false) ≡ places_from w.blocks (start w p n run) n
read_before w p n run e = grind (arith, far_places, protected_read, reachable_linear)

-- the byte i of a run, before a write and after it
byte_before : (w : World) (p : FarPtr) (n i : ℕ) (run : Reached w p n true) → is_reachable w p n false ≡ true → i < n →
    get_or (far_bytes w p n) i 0 ≡ byte_of w (place_in w.blocks (linear (start w p n run + i)))
byte_before w p n i run e inside =
    let places = places_from w.blocks (start w p n run) n in
    ap (λ (xs : List ℕ). get_or xs i 0) (far_bytes_is w p n ∙ ap (bytes_of w) (read_before w p n run e))
    ∙ at_bytes_of w places i (omega (arith, length-places_from w.blocks (start w p n run) n))
    ∙ ap (byte_of w) (places_from-at w.blocks (start w p n run) n i Nothing inside)

byte_after : (w : World) (q : List Place) (bytes : List ℕ) (p : FarPtr) (n i : ℕ) (run : Reached w p n true) →
    is_reachable w p n false ≡ true → i < n → get_or (far_bytes (with_bytes_of w q bytes) p n) i 0
    ≡ byte_of (with_bytes_of w q bytes) (place_in w.blocks (linear (start w p n run + i)))
byte_after w q bytes p n i run e inside =
    let u = with_bytes_of w q bytes in
    let places = places_from w.blocks (start w p n run) n in
    ap (λ (xs : List ℕ). get_or xs i 0)
    (far_bytes_is u p n ∙ ap (λ (x : Result (List Place) Fault). bytes_of u (places_of_access x)) (access_after w q bytes p n)
    ∙ ap (bytes_of u) (read_before w p n run e))
    ∙ at_bytes_of u places i (omega (arith, length-places_from w.blocks (start w p n run) n))
    ∙ ap (byte_of u) (places_from-at w.blocks (start w p n run) n i Nothing inside)

-- the places of a part that is written
part_places : (w : World) (p : FarPtr) (n k m : ℕ) (run : Reached w p n true) → is_reachable w p n true ≡ true → k + m ≤ n →
    places_of_access (far_access w (further p k) m true) ≡ places_from w.blocks ((run.base + (p.off + k)) % 2 ^ 32) m
part_places w p n k m run e within =
    let base = protected_part w.descriptors Es p.sel p.off n k m true run.base within run.is in
    far_places w (further p k) m run.base true base
    (reachable_linear w (further p k) m run.base true base (parts_reachable w p n k m true e within))

apart : (w : World) (p : FarPtr) (n k m i : ℕ) (run : Reached w p n true) → n ≤ PAGE_SIZE → k + m ≤ n → i < n →
    (k + m ≤ i) ⊎ (i < k) → (j : ℕ) → j < length (places_from w.blocks ((run.base + (p.off + k)) % 2 ^ 32) m) →
    slice_index_or (places_from w.blocks ((run.base + (p.off + k)) % 2 ^ 32) m) j Nothing
    ≡ place_in w.blocks (linear (start w p n run + i)) → ⊥
apart w p n k m i run few within inside away j less e =
    let lin = start w p n run in
    let part = (run.base + (p.off + k)) % 2 ^ 32 in
    let short : j < m = omega (arith, length-places_from w.blocks part m) in
    let same : linear (lin + (k + j)) ≡ linear (part + j) = omega arith in
    let meets : k + j ≡ i =
    addresses_apart w.blocks lin (k + j) i (omega arith) (omega arith) (run.all (k + j) (omega arith))
    (ap (place_in w.blocks) same ∙ sym (places_from-at w.blocks part m j Nothing short) ∙ e) in
    elim away [ inl above ↦ absurd (omega arith) | inr below ↦ absurd (omega arith) ]

-- a byte of the run outside the part stays
outside : (w : World) (p : FarPtr) (n k m i : ℕ) (bytes : List ℕ) → IsOpen w p n → k + m ≤ n → i < n → (k + m ≤ i) ⊎ (i < k) →
    get_or (far_bytes (world_after_far_write w (further p k) m bytes) p n) i 0 ≡ get_or (far_bytes w p n) i 0
outside w p n k m i bytes open_run within inside away =
    let run = reached w p n true open_run.write in
    let q = places_from w.blocks ((run.base + (p.off + k)) % 2 ^ 32) m in
    let place = place_in w.blocks (linear (start w p n run + i)) in
    ap (λ (u : World). get_or (far_bytes u p n) i 0)
    (world_put w (further p k) m bytes
    ∙ ap (λ (ps : List Place). with_bytes_of w ps bytes) (part_places w p n k m run open_run.write within))
    ∙ byte_after w q bytes p n i run open_run.read inside
    ∙ bytes_kept w q bytes place (apart w p n k m i run open_run.few within inside away)
    ∙ sym (byte_before w p n i run open_run.read inside)

length-far : (w : World) (p : FarPtr) (n : ℕ) → IsOpen w p n → length (far_bytes w p n) ≡ n
length-far w p n open_run =
    let run = reached w p n true open_run.write in
    ap (λ (xs : List ℕ). length xs) (far_bytes_is w p n ∙ ap (bytes_of w) (read_before w p n run open_run.read))
    ∙ length-bytes_of w (places_from w.blocks (start w p n run) n) ∙ length-places_from w.blocks (start w p n run) n

-- a byte of the part is the one that was written
within_part : (w : World) (p : FarPtr) (n k m j : ℕ) (bytes : List ℕ) → IsOpen w p n → k + m ≤ n → length bytes ≡ m → j < m →
    get_or (far_bytes (world_after_far_write w (further p k) m bytes) p n) (k + j) 0 ≡ get_or bytes j 0
within_part w p n k m j bytes open_run within size less =
    let u = world_after_far_write w (further p k) m bytes in
    let few = open_run.few in
    let back : far_bytes u (further p k) m ≡ bytes =
    ap (λ (x : World). far_bytes x (further p k) m) (sym (world_far_written (bare w) (further p k) m bytes))
    ∙ written_is_read (bare w) (further p k) m bytes open_run.sound (omega arith) size
    (parts_reachable w p n k m true open_run.write within) in
    let part : far_bytes u (further p k) m ≡ region (far_bytes u p n) k m =
    part_is_read u p n k m (reachable_after w (further p k) m bytes p n false ∙ open_run.read) within in
    sym (at_region (far_bytes u p n) k m j less) ∙ ap (λ (xs : List ℕ). get_or xs j 0) (sym part ∙ back)

-- after a part was written, the run is the old one with the part put there
pub part_put : (w : World) (p : FarPtr) (n k m : ℕ) (bytes : List ℕ) → IsOpen w p n →
    IsOpen (world_after_far_write w (further p k) m bytes) p n → k + m ≤ n →
    length bytes ≡ m → far_bytes (world_after_far_write w (further p k) m bytes) p n ≡ put (far_bytes w p n) k bytes
part_put w p n k m bytes open_run after within size =
    let u = world_after_far_write w (further p k) m bytes in
    let old = far_bytes w p n in
    let long = length-far w p n open_run in
    let now = length-far u p n after in
    same_number_lists (far_bytes u p n) (put old k bytes) (omega (arith, length-put old k bytes)) (λ i inside.
    elim (cases_lt i k) [
      | inl below ↦ outside w p n k m i bytes open_run within (omega arith) (inr below) ∙ sym (put_away old k bytes i (inr below))
      | inr from ↦ elim (cases_lt i (k + m)) [
        | inl less ↦ (
            let is : k + (i - k) ≡ i = omega arith in
            ap (λ (x : ℕ). get_or (far_bytes u p n) x 0) (sym is) ∙ within_part w p n k m (i - k) bytes open_run within size (omega arith)
            ∙ sym (put_within old k bytes (i - k) i (omega (arith, size)) (omega (arith, size)) (sym is)))
        | inr above ↦ (
            let past : k + length bytes ≤ i = omega (arith, size) in
            outside w p n k m i bytes open_run within (omega arith) (inl above) ∙ sym (put_away old k bytes i (inl past)))
      ]
    ])
