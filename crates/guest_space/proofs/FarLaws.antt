-- Accesses at far pointers: what is reachable, and the parts of it; a write leaves a sound world sound and changes memory alone; what was
-- written is read there, and what is read at a part is that part of what is read.
use Rattle.std.proofs.Common.{◌≡◌, ℕ, ◌+◌, ◌%◌, ◌≤◌, ◌^◌, Bool, true, false, List, refl, ap, ◌∙◌, sym, arith, None, Some, Result, Ok, Err}
use Rattle.std.proofs.Common.{length}
use Rattle.std.specs.Prelude.{IsTrue, MatchResult, is_ok}
use Rattle.client_world.specs.{declared.faults.Fault.{Fault}, declared.place.Place.{Place}, declared.segments.FarPtr.{FarPtr}}
use Rattle.client_world.specs.{declared.segments.SegReg.TheVariants.{Es}, Access.{far_access, is_reachable, protected_base, places_at}}
use Rattle.client_world.specs.{Access.{places_from, place_in, may_touch, linear, bytes_of, with_bytes_of}, World.{World}}
use Rattle.client_world.specs.{Soundness.{IsSound}, declared.host_frames.TheConstants.{PAGE_SIZE}}
use Rattle.host_memory.specs.View.{MachineView}
use Rattle.guest_space.specs.{Far.{far_bytes, after_far_write, further, world_after_far_write}, Transfer.{linear_access, fault_of}}
use Rattle.guest_space.specs.Transfer.{places_of_access, with_places, HasOtherMemory}
use Rattle.guest_space.proofs.{Accesses.{places_linear, places_linear_access, protected_part, protected_read}, Runs.{AllTouch, all_touch}}
use Rattle.guest_space.proofs.{Runs.{access_ends, can_write_run, bytes_read}, MemoryAlone.{other_bytes, far_access_same, same_places}}
use Rattle.guest_space.proofs.{OnlyWritten.{can_write_at}, ReadBack.{addresses_apart, AreDistinct, read_back}, Machines.{with_places_world}}
use Rattle.guest_space.proofs.WriteRuns.{place_for_read}
use Rattle.client_world.proofs.{SoundWrites.{MayWrite, IsSound-with_bytes_of, length-bytes_of, at_bytes_of}, PlaceLaws.{length-places_from}}
use Rattle.client_world.proofs.PlaceLaws.{places_from-at}
use Rattle.guest_ram.specs.Bytes.{AreBytes, region}
use Rattle.guest_ram.proofs.PutLaws.{length-region, at_region}

-- through the linear address
pub far_linear : (w : World) (p : FarPtr) (n base : ℕ) (write : Bool) → protected_base w.descriptors Es p.sel p.off n write ≡ Ok base →
    far_access w p n write ≡ linear_access w ((base + p.off) % 2 ^ 32) n write
unfolding far_access
far_linear w p n base write e = grind (arith, places_linear)

pub far_refused : (w : World) (p : FarPtr) (n : ℕ) (write : Bool) (f : Fault) →
    protected_base w.descriptors Es p.sel p.off n write ≡ Err f → far_access w p n write ≡ Err f
unfolding far_access
far_refused w p n write f e = ap (λ (r : Result ℕ Fault). places_at w.blocks r p.off n write) e

-- a check says whether it has a fault
checked : (r : Result (Unit {0}) Fault) (x : Result (List Place) Fault) →
    MatchResult r (λ _. fault_of x ≡ None) (λ fault. fault_of x ≡ Some fault) → is_ok r ≡ is_ok x
checked (Ok u) (Ok places) h = refl
checked (Ok u) (Err f) h = absurd cc
checked (Err f) (Ok places) h = absurd cc
checked (Err f) (Err g) h = refl

pub reachable_checked : (w : World) (p : FarPtr) (n base : ℕ) (write : Bool) (r : Result (Unit {0}) Fault) →
    protected_base w.descriptors Es p.sel p.off n write ≡ Ok base →
    MatchResult r (λ _. fault_of (linear_access w ((base + p.off) % 2 ^ 32) n write) ≡ None)
    (λ fault. fault_of (linear_access w ((base + p.off) % 2 ^ 32) n write) ≡ Some fault) → is_ok r ≡ is_reachable w p n write
reachable_checked w p n base write r e h = grind (arith, checked, far_linear)

pub not_reachable : (w : World) (p : FarPtr) (n : ℕ) (write : Bool) (f : Fault) →
    protected_base w.descriptors Es p.sel p.off n write ≡ Err f → false ≡ is_reachable w p n write
not_reachable w p n write f e = ap is_ok (sym (far_refused w p n write f e))

-- what is reachable has no fault
no_fault_where : (x : Result (List Place) Fault) → is_ok x ≡ true → fault_of x ≡ None
no_fault_where (Ok places) e = refl
no_fault_where (Err f) e = absurd cc

pub reachable_linear : (w : World) (p : FarPtr) (n base : ℕ) (write : Bool) →
    protected_base w.descriptors Es p.sel p.off n write ≡ Ok base →
    IsTrue (is_reachable w p n write) → fault_of (linear_access w ((base + p.off) % 2 ^ 32) n write) ≡ None
reachable_linear w p n base write e reachable = grind (arith, far_linear, no_fault_where)

pub reachable_not_refused : (w : World) (p : FarPtr) (n : ℕ) (write : Bool) (f : Fault) →
    protected_base w.descriptors Es p.sel p.off n write ≡ Err f → IsTrue (is_reachable w p n write) → ⊥
reachable_not_refused w p n write f e reachable = grind (arith, not_reachable)

-- the bytes there, and those that are written there
pub far_places : (w : World) (p : FarPtr) (n base : ℕ) (write : Bool) → protected_base w.descriptors Es p.sel p.off n write ≡ Ok base →
    fault_of (linear_access w ((base + p.off) % 2 ^ 32) n write) ≡ None →
    places_of_access (far_access w p n write) ≡ places_from w.blocks ((base + p.off) % 2 ^ 32) n
far_places w p n base write e none = grind (arith, far_linear, places_linear_access)

pub far_bytes_linear : (w : World) (p : FarPtr) (n base : ℕ) → protected_base w.descriptors Es p.sel p.off n false ≡ Ok base →
    IsTrue (is_reachable w p n false) → bytes_of w (places_from w.blocks ((base + p.off) % 2 ^ 32) n) ≡ far_bytes w p n
unfolding far_bytes
far_bytes_linear w p n base e reachable = grind (arith, far_places, reachable_linear)

pub far_written_linear : (v : MachineView) (p : FarPtr) (n base : ℕ) (bytes : List ℕ) →
    protected_base v.world.descriptors Es p.sel p.off n true ≡ Ok base → IsTrue (is_reachable v.world p n true) →
    with_places v (places_from v.world.blocks ((base + p.off) % 2 ^ 32) n) bytes ≡ after_far_write v p n bytes
unfolding after_far_write
far_written_linear v p n base bytes e reachable = grind (arith, far_places, reachable_linear)

-- a run that is reachable: its segment allows it, and each of its bytes may be touched
pub record Reached (w : World) (p : FarPtr) (n : ℕ) (write : Bool) : Type 0 where
  pub base : ℕ
  pub is : protected_base w.descriptors Es p.sel p.off n write ≡ Ok base
  pub all : AllTouch w.blocks ((base + p.off) % 2 ^ 32) n write

reached_by : (w : World) (p : FarPtr) (n : ℕ) (write : Bool) (r : Result ℕ Fault) →
    protected_base w.descriptors Es p.sel p.off n write ≡ r → is_reachable w p n write ≡ true → Reached w p n write
reached_by w p n write (Ok base) is e = record {
  base = base;
  is = is;
  all = all_touch w ((base + p.off) % 2 ^ 32) n write
      (no_fault_where (linear_access w ((base + p.off) % 2 ^ 32) n write) (ap is_ok (sym (far_linear w p n base write is)) ∙ e));
}
reached_by w p n write (Err f) is e = absurd (let one = not_reachable w p n write f is in cc)

pub reached : (w : World) (p : FarPtr) (n : ℕ) (write : Bool) → is_reachable w p n write ≡ true → Reached w p n write
reached w p n write e = reached_by w p n write (protected_base w.descriptors Es p.sel p.off n write) refl e

-- and so do its parts
pub reachable_where : (w : World) (p : FarPtr) (n base : ℕ) (write : Bool) → protected_base w.descriptors Es p.sel p.off n write ≡ Ok base →
    AllTouch w.blocks ((base + p.off) % 2 ^ 32) n write → is_reachable w p n write ≡ true
reachable_where w p n base write e all = ap is_ok (far_linear w p n base write e ∙ access_ends w ((base + p.off) % 2 ^ 32) n write all)

pub parts_reachable : (w : World) (p : FarPtr) (n k m : ℕ) (write : Bool) → is_reachable w p n write ≡ true → k + m ≤ n →
    is_reachable w (further p k) m write ≡ true
parts_reachable w p n k m write e within =
    let run = reached w p n write e in
    reachable_where w (further p k) m run.base write (protected_part w.descriptors Es p.sel p.off n k m write run.base within run.is)
    (λ i less. (let same : linear ((run.base + (p.off + k)) % 2 ^ 32 + i) ≡ linear ((run.base + p.off) % 2 ^ 32 + (k + i)) = omega arith in
    ap (λ (a : ℕ). may_touch (place_in w.blocks a) write) same ∙ run.all (k + i) (omega arith)))

far_places_may : (w : World) (p : FarPtr) (n : ℕ) (places : List Place) → far_access w p n true ≡ Ok places → MayWrite places
unfolding far_access
far_places_may w p n places e i within = (can_write_at w (protected_base w.descriptors Es p.sel p.off n true) p.off n places e i within).may

put_at : (w : World) (r : Result (List Place) Fault) (bytes : List ℕ) → ((places : List Place) → r ≡ Ok places → MayWrite places) →
    IsSound w → AreBytes bytes → IsSound (with_bytes_of w (places_of_access r) bytes)
put_at w (Ok places) bytes may s small = IsSound-with_bytes_of w places bytes s (may places refl) (λ i within. small i)
put_at w (Err f) bytes may s small = s

pub sound_far_put : (w : World) (p : FarPtr) (n : ℕ) (bytes : List ℕ) → IsSound w → AreBytes bytes →
    IsSound (world_after_far_write w p n bytes)
unfolding world_after_far_write
sound_far_put w p n bytes s small = put_at w (far_access w p n true) bytes (far_places_may w p n) s small

pub other_far_put : (w : World) (p : FarPtr) (n : ℕ) (bytes : List ℕ) → HasOtherMemory w (world_after_far_write w p n bytes)
unfolding world_after_far_write
other_far_put w p n bytes = other_bytes w (places_of_access (far_access w p n true)) bytes

-- the write of a machine is that of its world
pub world_far_written : (v : MachineView) (p : FarPtr) (n : ℕ) (bytes : List ℕ) →
    (after_far_write v p n bytes).world ≡ world_after_far_write v.world p n bytes
unfolding after_far_write world_after_far_write with_places
world_far_written v p n bytes = refl

pub sound_far : (v : MachineView) (p : FarPtr) (n : ℕ) (bytes : List ℕ) → IsSound v.world → AreBytes bytes →
    IsSound (after_far_write v p n bytes).world
sound_far v p n bytes s small = rw (world_far_written v p n bytes) (sound_far_put v.world p n bytes s small)

pub far_alone : (v u : MachineView) (p : FarPtr) (n : ℕ) (bytes : List ℕ) → v.world ≡ u.world →
    (after_far_write v p n bytes).world ≡ (after_far_write u p n bytes).world
far_alone v u p n bytes same = rw (world_far_written v p n bytes, world_far_written u p n bytes, same) refl

-- ---- the laws

-- the places of a short run are distinct
run_distinct : (w : World) (lin n : ℕ) → n ≤ PAGE_SIZE → AllTouch w.blocks lin n true → AreDistinct (places_from w.blocks lin n)
run_distinct w lin n few all i j one two e = grind (arith, addresses_apart, length-places_from, places_from-at)

read_places : (w : World) (p : FarPtr) (n : ℕ) (run : Reached w p n true) →
    places_of_access (far_access w p n false) ≡ places_from w.blocks ((run.base + p.off) % 2 ^ 32) n
read_places w p n run = grind (arith, far_places, place_for_read, protected_read, reachable_linear, reachable_where)

pub far_bytes_is : (w : World) (p : FarPtr) (n : ℕ) → far_bytes w p n ≡ bytes_of w (places_of_access (far_access w p n false))
unfolding far_bytes
far_bytes_is w p n = refl

pub written_is_read : (v : MachineView) (p : FarPtr) (n : ℕ) (bytes : List ℕ) → IsSound v.world → n ≤ PAGE_SIZE → length bytes ≡ n →
    is_reachable v.world p n true ≡ true → far_bytes (after_far_write v p n bytes).world p n ≡ bytes
written_is_read v p n bytes sound few size e =
    let w = v.world in
    let run = reached w p n true e in
    let lin = (run.base + p.off) % 2 ^ 32 in
    let places = places_from w.blocks lin n in
    let megabyte = sound.megabyte in
    ap (λ (u : MachineView). far_bytes u.world p n) (sym (far_written_linear v p n run.base bytes run.is e))
    ∙ far_bytes_is (with_places v places bytes).world p n
    ∙ ap (λ (x : Result (List Place) Rattle.client_world.specs.declared.faults.Fault.Fault).
    bytes_of (with_places v places bytes).world (places_of_access x))
    (far_access_same w (with_places v places bytes).world (same_places v places bytes) p n false)
    ∙ ap (bytes_of (with_places v places bytes).world) (read_places w p n run)
    ∙ ap (λ (u : World). bytes_of u places) (with_places_world v places bytes)
    ∙ read_back w places bytes megabyte.size (can_write_run w lin n run.all) (run_distinct w lin n few run.all)
    (size ∙ sym (length-places_from w.blocks lin n))

-- what is read at a part
pub part_is_read : (w : World) (p : FarPtr) (n k m : ℕ) → is_reachable w p n false ≡ true → k + m ≤ n →
    far_bytes w (further p k) m ≡ region (far_bytes w p n) k m
part_is_read w p n k m e within =
    let run = reached w p n false e in
    let lin = (run.base + p.off) % 2 ^ 32 in
    let part = (run.base + (p.off + k)) % 2 ^ 32 in
    let places = places_from w.blocks lin n in
    let whole = far_bytes_linear w p n run.base run.is e in
    let size = length-places_from w.blocks lin n in
    let long = length-bytes_of w places in
    let base = protected_part w.descriptors Es p.sel p.off n k m false run.base within run.is in
    sym (far_bytes_linear w (further p k) m run.base base (parts_reachable w p n k m false e within))
    ∙ sym (bytes_read w part m (region (bytes_of w places) k m) (length-region (bytes_of w places) k m (omega arith))
    (λ i less. grind (arith, at_bytes_of, at_region, places_from-at)))
    ∙ ap (λ (xs : List ℕ). region xs k m) whole
