-- A write through a segment register changes the bytes of its places, and nothing else in the memory.
use Rattle.std.proofs.Common.{◌≡◌, ℕ, suc, Bool, true, List, [], ◌∷◌, slice_index_or, refl, ap, ◌∙◌, sym, subst, arith, None, Some, Result}
use Rattle.std.proofs.Common.{Ok, Err}
use Rattle.std.specs.declared.option.Option.{Option}
use Rattle.client_world.specs.{declared.faults.Fault.{Fault}, declared.place.Place.{Place}, declared.place.Place.TheVariants.{Dos, Block}}
use Rattle.client_world.specs.{declared.place.Place.TheVariants.{Host, Nothing}, declared.registers.Mode.{Mode}}
use Rattle.client_world.specs.{declared.registers.Regs.{Regs}, declared.registers.Width.{Width}, declared.segments.SegReg.{SegReg}}
use Rattle.client_world.specs.Access.{access, segment_base, places_at, places_from, first_forbidden, unless_forbidden, with_byte_of, IsHeld}
use Rattle.client_world.specs.{Soundness.{IsSound, SoundBlocks}, World.{World}}
use Rattle.client_world.proofs.SoundWrites.{SoundBlocks-written}
use Rattle.host_memory.specs.{Holds.{Holds}, Layout.{world_of}, View.{MachineView, OnlyAt}}
use Rattle.host_memory.proofs.{ClientWrites.{write_world, write_holds, write_addresses, write_host}, WorldWalks.{only_start, only_step}}
use Rattle.host_memory.proofs.{WorldWalks.{only_then}, Parts.{budget_is}}
use Rattle.guest_space.specs.{Machines.{Processor, held_world}, Transfer.{after_store, with_places, fault_of}}
use Rattle.guest_space.proofs.{Runs.{all_touch, can_write_run}, Machines.{CanWrite, CanWriteAll, with_place, held_there, can_write_after}}
use Rattle.guest_space.proofs.Machines.{with_places_none, with_places_short, with_places_first}

-- the bytes hold a world with sound blocks. Nothing is said of its bytes, so any numbers may be written
pub record HoldsBlocks (k : Processor) (v : MachineView) : Type 0 where
  pub holds : Holds v.bytes k.budget
  pub is : v.world ≡ held_world k v.bytes
  pub blocks : SoundBlocks v.world.blocks k.budget

blocks_after : (w : World) (p : Place) (x budget : ℕ) → SoundBlocks w.blocks budget → SoundBlocks (with_byte_of w p x).blocks budget
blocks_after w (Dos at) x budget s = s
blocks_after w (Block number at) x budget s = SoundBlocks-written w.blocks budget number at x s
blocks_after w Host x budget s = s
blocks_after w Nothing x budget s = s

held_by : (k : Processor) (v : MachineView) (p : Place) → HoldsBlocks k v → CanWrite v.world p → IsHeld (held_world k v.bytes) p
held_by k v p h can = subst (λ (w : World). IsHeld w p) h.is (held_there v.world p can)

blocks_by : (k : Processor) (v : MachineView) → HoldsBlocks k v → SoundBlocks (held_world k v.bytes).blocks k.budget
blocks_by k v h = subst (λ (w : World). SoundBlocks w.blocks k.budget) h.is h.blocks

-- one byte
pub byte_holds : (k : Processor) (v : MachineView) (p : Place) (x : ℕ) → HoldsBlocks k v → CanWrite v.world p →
    HoldsBlocks k (with_place v p x)
byte_holds k v p x h can = record {
  holds = write_holds v.bytes k.budget h.holds k.mode k.regs k.vif k.width p x can.may (held_by k v p h can);
  is = ap (λ (w : World). with_byte_of w p x) h.is
      ∙ sym (write_world v.bytes k.budget k.budget h.holds k.mode k.regs k.vif k.width (blocks_by k v h) p x can.may (held_by k v p h can));
  blocks = blocks_after v.world p x k.budget h.blocks;
}

only_byte : (k : Processor) (v : MachineView) (p : Place) (x : ℕ) → HoldsBlocks k v → CanWrite v.world p →
    OnlyAt (p ∷ []) v.bytes (with_place v p x).bytes
only_byte k v p x h can =
    only_step (p ∷ []) v.bytes v.bytes (with_place v p x).bytes p 0 x (only_start (p ∷ []) v.bytes) refl (omega arith) refl
    (write_addresses v.bytes k.budget h.holds k.mode k.regs k.vif k.width p x can.may (held_by k v p h can))
    (λ at from to. write_host v.bytes k.budget h.holds k.mode k.regs k.vif k.width p x can.may (held_by k v p h can) at (omega arith) to)

-- and bytes at several places
pub only_places : (k : Processor) (v : MachineView) (places : List Place) (bytes : List ℕ) → HoldsBlocks k v → CanWriteAll v.world places →
    OnlyAt places v.bytes (with_places v places bytes).bytes
only_places k v [] bytes h can = grind (arith, only_start, with_places_none)
only_places k v (p ∷ places) [] h can = grind (arith, only_start, with_places_short)
only_places k v (p ∷ places) (x ∷ bytes) h can =
    let first : CanWrite v.world p = can 0 (omega arith) in
    subst (λ (u : MachineView). OnlyAt (p ∷ places) v.bytes u.bytes) (sym (with_places_first v p places x bytes))
    (only_then (p ∷ []) places v.bytes (with_place v p x).bytes (with_places (with_place v p x) places bytes).bytes
    (only_byte k v p x h first)
    (only_places k (with_place v p x) places bytes (byte_holds k v p x h first)
    (λ i within. can_write_after v.world p (slice_index_or places i Nothing) x (can (suc i) (omega arith)))))

-- the places of a run without a fault
can_write_unless : (w : World) (o : Option Place) (at n : ℕ) (places : List Place) → o ≡ first_forbidden (places_from w.blocks at n) true →
    unless_forbidden o (places_from w.blocks at n) true ≡ Ok places → CanWriteAll w places
can_write_unless w None at n places o e =
    let same : places_from w.blocks at n ≡ places = cc in
    subst (CanWriteAll w) same (can_write_run w at n
    (all_touch w at n true (ap (λ (x : Option Place). fault_of (unless_forbidden x (places_from w.blocks at n) true)) (sym o))))
can_write_unless w (Some p) at n places o e = absurd cc

pub can_write_at : (w : World) (r : Result ℕ Fault) (offset n : ℕ) (places : List Place) → places_at w.blocks r offset n true ≡ Ok places →
    CanWriteAll w places
can_write_at w (Ok base) offset n places e = grind (arith, can_write_unless)
can_write_at w (Err fault) offset n places e = absurd cc

-- the places of an access to the client's memory may be written where it asked for that
pub write_places : (w : World) (seg : SegReg) (offset n : ℕ) (places : List Place) → access w seg offset n true ≡ Ok places →
    CanWriteAll w places
unfolding access
write_places w seg offset n places e = can_write_at w (segment_base w.mode w.regs w.descriptors seg offset n true) offset n places e

pub only_stored : (b : List ℕ) (budget : ℕ) (mode : Mode) (regs : Regs) (vif : Bool) (width : Option Width) → Holds b budget →
    IsSound (world_of b budget mode regs vif width) → (seg : SegReg) (offset n : ℕ) (bytes : List ℕ) (places : List Place) →
    access (world_of b budget mode regs vif width) seg offset n true ≡ Ok places →
    OnlyAt places b (after_store (record { world = world_of b budget mode regs vif width; bytes = b }) seg offset n bytes).bytes
unfolding after_store
only_stored b budget mode regs vif width holds sound seg offset n bytes places e =
    let k : Processor = record { budget = budget; mode = mode; regs = regs; vif = vif; width = width } in
    let w = world_of b budget mode regs vif width in
    let v : MachineView = record { world = w; bytes = b } in
    let blocks = sound.blocks in
    let holds_blocks : HoldsBlocks k v =
    record { holds = holds; is = refl; blocks = rw (budget_is b budget mode regs vif width) at blocks } in
    rw e (only_places k v places bytes holds_blocks (write_places w seg offset n places e))
