-- A view whose bytes hold its world, as every machine's do, and one byte that is written where the client may write.
use Rattle.std.proofs.Common.{◌≡◌, ℕ, suc, ◌<◌, Bool, true, List, [], ◌∷◌, length, slice_index, slice_index_or, slice_set, refl, ap, ◌∙◌}
use Rattle.std.proofs.Common.{sym, subst, arith}
use Rattle.client_world.specs.{declared.place.Place.{Place}, declared.place.Place.TheVariants.{Nothing}, Access.{place_in, may_touch}}
use Rattle.client_world.specs.{Access.{with_byte_of, with_bytes_of, IsHeld}, Soundness.{IsSound, SoundBlocks}, World.{World}}
use Rattle.client_world.proofs.{PlaceLaws.{held-place, place_in-with_byte_of}, SoundWrites.{IsSound-with_byte_of}}
use Rattle.host_memory.specs.{Holds.{Holds}, Law.{StandsAt}, Layout.{address_of}, View.{MachineView}}
use Rattle.host_memory.proofs.{ClientPlaces.{byte_agrees}, ClientWrites.{write_world, write_holds, write_addresses}, Parts.{budget_is}}
use Rattle.guest_space.specs.{Machines.{Processor, held_world, IsMachine, HoldsItsWorld}, Transfer.{with_bytes_at, with_places}}

pub machine_of : (k : Processor) (b : List ℕ) → Holds b k.budget → IsSound (held_world k b) →
    IsMachine k (record { world = held_world k b; bytes = b })
machine_of k b holds sound = record { holds = holds; is = refl; sound = sound }

pub opened : (k : Processor) (b : List ℕ) (v : MachineView) → record { world = held_world k b; bytes = b } ≡ v → Holds b k.budget →
    IsSound (held_world k b) → IsMachine k v
opened k b v is holds sound = subst (IsMachine k) is (machine_of k b holds sound)

pub opened_holds : (k : Processor) (b : List ℕ) (v : MachineView) → record { world = held_world k b; bytes = b } ≡ v → Holds b k.budget →
    IsSound (held_world k b) → HoldsItsWorld v
opened_holds k b v is holds sound = record { processor = k; machine = opened k b v is holds sound }

-- its blocks are sound
pub sound_blocks : (k : Processor) (v : MachineView) → IsMachine k v → SoundBlocks (held_world k v.bytes).blocks k.budget
sound_blocks k v m = grind (arith, budget_is)

-- the client may write at the place, which lies at a linear address
pub record CanWrite (w : World) (p : Place) : Type 0 where
  pub at : ℕ
  pub is : p ≡ place_in w.blocks at
  pub may : may_touch p true ≡ true

pub held_there : (w : World) (p : Place) → CanWrite w p → IsHeld w p
held_there w p can = rw can.is (held-place w can.at true (rw can.is at can.may))

-- the view with another byte at a place
abbrev pub with_place : MachineView → Place → ℕ → MachineView
with_place v p x = record { world = with_byte_of v.world p x; bytes = slice_set v.bytes (address_of v.bytes p) x }

pub can_write_after : (w : World) (p q : Place) (x : ℕ) → CanWrite w q → CanWrite (with_byte_of w p x) q
can_write_after w p q x can = record { at = can.at; is = can.is ∙ sym (place_in-with_byte_of w p x can.at); may = can.may }

-- it is a machine still
pub written_machine : (k : Processor) (v : MachineView) (p : Place) (x : ℕ) → IsMachine k v → CanWrite v.world p → x < 0x100 →
    IsMachine k (with_place v p x)
written_machine k v p x m can small =
    let held : IsHeld (held_world k v.bytes) p = subst (λ (w : World). IsHeld w p) m.is (held_there v.world p can) in
    record {
      holds = write_holds v.bytes k.budget m.holds k.mode k.regs k.vif k.width p x can.may held;
      is = ap (λ (w : World). with_byte_of w p x) m.is
          ∙ sym (write_world v.bytes k.budget k.budget m.holds k.mode k.regs k.vif k.width (sound_blocks k v m) p x can.may held);
      sound = IsSound-with_byte_of v.world p x m.sound can.may small;
    }

-- and places keep their addresses
pub written_addresses : (k : Processor) (v : MachineView) (p : Place) (x : ℕ) → IsMachine k v → CanWrite v.world p → (q : Place) →
    address_of (with_place v p x).bytes q ≡ address_of v.bytes q
written_addresses k v p x m can =
    let held : IsHeld (held_world k v.bytes) p = subst (λ (w : World). IsHeld w p) m.is (held_there v.world p can) in
    write_addresses v.bytes k.budget m.holds k.mode k.regs k.vif k.width p x can.may held

-- the byte of a place that may be touched is at its address
pub stands_there : (k : Processor) (v : MachineView) (lin : ℕ) (write : Bool) → IsMachine k v →
    may_touch (place_in v.world.blocks lin) write ≡ true → StandsAt v.bytes v.world (place_in v.world.blocks lin)
stands_there k v lin write m may = grind (arith, byte_agrees)

-- bytes at several places, one after the other

abbrev pub CanWriteAll : World → List Place → Type 0
CanWriteAll w places = (i : ℕ) → i < length places → CanWrite w (slice_index_or places i Nothing)

abbrev pub AllBytes : List ℕ → Type 0
AllBytes bytes = (i : ℕ) → i < length bytes → slice_index bytes i < 0x100

pub with_places_none : (v : MachineView) (bytes : List ℕ) → with_places v [] bytes ≡ v
unfolding with_places
with_places_none v bytes = refl

pub with_places_short : (v : MachineView) (places : List Place) → with_places v places [] ≡ v
unfolding with_places
with_places_short v [] = refl
with_places_short v (p ∷ places) = refl

pub with_places_first : (v : MachineView) (p : Place) (places : List Place) (x : ℕ) (bytes : List ℕ) →
    with_places v (p ∷ places) (x ∷ bytes) ≡ with_places (with_place v p x) places bytes
unfolding with_places
with_places_first v p places x bytes = refl

pub with_places_world : (v : MachineView) (places : List Place) (bytes : List ℕ) →
    (with_places v places bytes).world ≡ with_bytes_of v.world places bytes
unfolding with_places
with_places_world v places bytes = refl

pub with_places_bytes : (v : MachineView) (places : List Place) (bytes : List ℕ) →
    (with_places v places bytes).bytes ≡ with_bytes_at v.bytes places bytes
unfolding with_places
with_places_bytes v places bytes = refl

-- they leave a machine a machine
pub written_machines : (k : Processor) (v : MachineView) (places : List Place) (bytes : List ℕ) → IsMachine k v →
    CanWriteAll v.world places → AllBytes bytes → IsMachine k (with_places v places bytes)
written_machines k v [] bytes m can small = subst (IsMachine k) (sym (with_places_none v bytes)) m
written_machines k v (p ∷ places) [] m can small = subst (IsMachine k) (sym (with_places_short v (p ∷ places))) m
written_machines k v (p ∷ places) (x ∷ bytes) m can small =
    let first : CanWrite v.world p = can 0 (omega arith) in
    subst (IsMachine k) (sym (with_places_first v p places x bytes))
    (written_machines k (with_place v p x) places bytes (written_machine k v p x m first (small 0 (omega arith)))
    (λ i within. can_write_after v.world p (slice_index_or places i Nothing) x (can (suc i) (omega arith)))
    (λ i within. small (suc i) (omega arith)))
