-- A write changes memory alone and moves no place: the same accesses are allowed after it, at the same places, and the same are refused.
use Rattle.std.proofs.Common.{ℕ, List, [], ◌∷◌, refl, ap, ◌∙◌, ◌≡◌, Bool, Result, Ok, Err, arith}
use Rattle.client_world.specs.{declared.place.Place.{Place}, declared.place.Place.TheVariants.{Dos, Block, Host, Nothing}}
use Rattle.client_world.specs.{declared.segments.FarPtr.{FarPtr}, Access.{with_byte_of, with_bytes_of, access, far_access, is_reachable}}
use Rattle.client_world.specs.{Access.{place_in, places_at}, World.{World, MemoryBlock}, declared.faults.Fault.{Fault}}
use Rattle.client_world.specs.declared.segments.SegReg.{SegReg}
use Rattle.host_memory.specs.View.{MachineView}
use Rattle.guest_space.specs.{declared.pending.Write.{Write}, Far.{after_far_write}, Pending.{after_writes, after_write}}
use Rattle.guest_space.specs.Transfer.{after_store, with_places, HasOtherMemory, access_fault, fault_of}
use Rattle.guest_space.proofs.Machines.{with_places_world}
use Rattle.std.specs.{Prelude.{is_ok}, declared.option.Option.{Option}}
use Rattle.client_world.proofs.PlaceLaws.{place_in-with_byte_of, places_from-same}

other_byte : (w : World) (p : Place) (x : ℕ) → HasOtherMemory w (with_byte_of w p x)
other_byte w (Dos at) x = refl
other_byte w (Block number at) x = refl
other_byte w Host x = refl
other_byte w Nothing x = refl

pub other_then : (w u t : World) → HasOtherMemory w u → HasOtherMemory u t → HasOtherMemory w t
other_then w u t before after = after ∙ ap (λ (x : World). record x { dos = t.dos; blocks = t.blocks }) before

pub other_bytes : (w : World) (places : List Place) (bytes : List ℕ) → HasOtherMemory w (with_bytes_of w places bytes)
other_bytes w [] bytes = refl
other_bytes w (p ∷ places) [] = refl
other_bytes w (p ∷ places) (x ∷ bytes) =
    other_then w (with_byte_of w p x) (with_bytes_of (with_byte_of w p x) places bytes) (other_byte w p x)
    (other_bytes (with_byte_of w p x) places bytes)

pub other_places : (v : MachineView) (places : List Place) (bytes : List ℕ) → HasOtherMemory v.world (with_places v places bytes).world
other_places v places bytes = rw (with_places_world v places bytes) (other_bytes v.world places bytes)

pub other_written : (v : MachineView) (x : Write) → HasOtherMemory v.world (after_write v x).world
unfolding after_write after_store
other_written v x = other_places v _ _

pub other_all : (v : MachineView) (xs : List Write) → HasOtherMemory v.world (after_writes v xs).world
unfolding after_writes
other_all v [] = refl
other_all v (x ∷ xs) =
    other_then v.world (after_write v x).world (after_writes (after_write v x) xs).world (other_written v x)
    (other_all (after_write v x) xs)

pub other_far : (v : MachineView) (p : FarPtr) (n : ℕ) (bytes : List ℕ) → HasOtherMemory v.world (after_far_write v p n bytes).world
unfolding after_far_write
other_far v p n bytes = other_places v _ _

-- two worlds that an access can't tell apart
pub record SameAccess (w u : World) : Type 0 where
  pub mode : u.mode ≡ w.mode
  pub regs : u.regs ≡ w.regs
  pub descriptors : u.descriptors ≡ w.descriptors
  pub places : (at : ℕ) → place_in u.blocks at ≡ place_in w.blocks at

pub same_then : (w u t : World) → SameAccess w u → SameAccess u t → SameAccess w t
same_then w u t before after = grind arith

places_stay : (w : World) (places : List Place) (bytes : List ℕ) (at : ℕ) →
    place_in (with_bytes_of w places bytes).blocks at ≡ place_in w.blocks at
places_stay w [] bytes at = refl
places_stay w (p ∷ places) [] at = refl
places_stay w (p ∷ places) (x ∷ bytes) at = places_stay (with_byte_of w p x) places bytes at ∙ place_in-with_byte_of w p x at

same_bytes : (w : World) (places : List Place) (bytes : List ℕ) → SameAccess w (with_bytes_of w places bytes)
same_bytes w places bytes = grind (arith, other_bytes, places_stay)

pub same_places : (v : MachineView) (places : List Place) (bytes : List ℕ) → SameAccess v.world (with_places v places bytes).world
same_places v places bytes = rw (with_places_world v places bytes) (same_bytes v.world places bytes)

pub same_stored : (v : MachineView) (seg : SegReg) (offset n : ℕ) (bytes : List ℕ) →
    SameAccess v.world (after_store v seg offset n bytes).world
unfolding after_store
same_stored v seg offset n bytes = same_places v _ bytes

-- the same places are given
same_at : (a b : List (Option MemoryBlock)) → ((at : ℕ) → place_in b at ≡ place_in a at) →
    (r : Result ℕ Fault) (offset n : ℕ) (write : Bool) → places_at b r offset n write ≡ places_at a r offset n write
same_at a b same (Ok base) offset n write = grind (arith, places_from-same)
same_at a b same (Err fault) offset n write = refl

pub access_same : (w u : World) → SameAccess w u → (seg : SegReg) (offset n : ℕ) (write : Bool) →
    access u seg offset n write ≡ access w seg offset n write
unfolding access
access_same w u same seg offset n write = grind (arith, same_at)

pub far_access_same : (w u : World) → SameAccess w u → (p : FarPtr) (n : ℕ) (write : Bool) → far_access u p n write ≡ far_access w p n write
unfolding far_access
far_access_same w u same p n write = grind (arith, same_at)

pub refusal_same : (w u : World) → SameAccess w u → (seg : SegReg) (offset n : ℕ) (write : Bool) →
    access_fault u seg offset n write ≡ access_fault w seg offset n write
unfolding access_fault
refusal_same w u same seg offset n write = ap fault_of (access_same w u same seg offset n write)

-- the laws of it

pub near_kept : (v : MachineView) (places : List Place) (bytes : List ℕ) (seg : SegReg) (offset n : ℕ) (write : Bool) →
    access (with_places v places bytes).world seg offset n write ≡ access v.world seg offset n write
near_kept v places bytes = access_same v.world (with_places v places bytes).world (same_places v places bytes)

pub far_kept : (v : MachineView) (places : List Place) (bytes : List ℕ) (p : FarPtr) (n : ℕ) (write : Bool) →
    far_access (with_places v places bytes).world p n write ≡ far_access v.world p n write
far_kept v places bytes = far_access_same v.world (with_places v places bytes).world (same_places v places bytes)

pub reachable_kept : (v : MachineView) (places : List Place) (bytes : List ℕ) (p : FarPtr) (n : ℕ) (write : Bool) →
    is_reachable (with_places v places bytes).world p n write ≡ is_reachable v.world p n write
reachable_kept v places bytes p n write = ap is_ok (far_kept v places bytes p n write)
