-- The host's protected-mode stacks are writable memory of every client that has entered protected mode; and what a write at a far pointer
-- leaves.
use Rattle.std.proofs.Common.{◌≡◌, ◌≢◌, ℕ, ◌+◌, ◌*◌, ◌%◌, ◌<◌, ◌≤◌, ◌^◌, Bool, true, false, List, [], ◌∷◌, refl, ap, ◌∙◌, arith, Option}
use Rattle.std.proofs.{Common.{None, Some, Result, Ok, Err, slice_index_or}, lemmas.Bool.{lt-ltb, le-leb}}
use Rattle.std.specs.Prelude.{nat_le, ◌&&◌, is_ok}
use Rattle.client_world.specs.{declared.faults.Fault.{Fault}, declared.limits.TheConstants.{GREATEST_DEPTH}}
use Rattle.client_world.specs.declared.memory_map.TheConstants.{PROTECTED_STACKS, PROTECTED_STACK_SIZE, ROM_START}
use Rattle.client_world.specs.{declared.place.Place.{Place}, declared.place.Place.TheVariants.{Dos, Block, Host, Nothing}}
use Rattle.client_world.specs.{declared.calls.Record.{Record}, declared.registers.Mode.{Mode}, declared.registers.Mode.TheVariants.{Real}}
use Rattle.client_world.specs.{declared.registers.Mode.TheVariants.{Protected}, declared.registers.Regs.{Regs}}
use Rattle.client_world.specs.{declared.registers.Width.{Width}, declared.segments.FarPtr.{FarPtr}}
use Rattle.client_world.specs.{declared.segments.SegReg.TheVariants.{Es, Ss}, declared.selectors.TheConstants.{HOST_STACKS}}
use Rattle.client_world.specs.Access.{access, base_in_row, byte_of, bytes_of, far_access, is_reachable, may_touch, place_in, places_from}
use Rattle.client_world.specs.{Access.{protected_base, segment_base}, Selector.{Row, selector_of}, Soundness.{IsSound, SoundWidth}}
use Rattle.client_world.specs.{Soundness.{host_stacks}, World.{World, MemoryBlock}}
use Rattle.client_world.proofs.PlaceLaws.{place-dos, places_from-at}
use Rattle.host_memory.specs.{Holds.{Holds}, Layout.{world_of}, View.{MachineView, OnlyAt}}
use Rattle.host_memory.proofs.Parts.{budget_is}
use Rattle.guest_space.specs.{Far.{far_bytes, after_far_write}, Machines.{Processor}, Transfer.{bytes_at, read_result, with_places}}
use Rattle.guest_space.specs.Transfer.{places_of_access}
use Rattle.guest_space.proofs.{FarLaws.{far_places, reachable_linear, reachable_where}, Machines.{CanWriteAll}, OnlyWritten.{HoldsBlocks}}
use Rattle.guest_space.proofs.OnlyWritten.{only_places, can_write_at}

-- a byte of the megabyte below its read-only part may be read and written
may_low : (at : ℕ) (write : Bool) → at < ROM_START → may_touch (Dos at) write ≡ true
may_low at false low = refl
may_low at true low = lt-ltb at ROM_START low

low_place : (blocks : List (Option MemoryBlock)) (lin : ℕ) (write : Bool) → lin < ROM_START → may_touch (place_in blocks lin) write ≡ true
low_place blocks lin write low = grind (arith, may_low, place-dos)

-- an access to them, by their row
inside_stacks : (off n : ℕ) → off + n ≤ GREATEST_DEPTH * PROTECTED_STACK_SIZE →
    (nat_le (off + n) (GREATEST_DEPTH * PROTECTED_STACK_SIZE) && nat_le (off + n) (2 ^ 32)) ≡ true
inside_stacks off n room = grind (arith, le-leb)

base_in_stacks : (width : Width) (off n : ℕ) (write : Bool) → off + n ≤ GREATEST_DEPTH * PROTECTED_STACK_SIZE →
    base_in_row Es (selector_of HOST_STACKS) (host_stacks width) off n write ≡ Ok PROTECTED_STACKS
base_in_stacks width off n true room = rw (inside_stacks off n room) refl
base_in_stacks width off n false room = rw (inside_stacks off n room) refl

stacks_base : (width : Option Width) (w : World) (off n : ℕ) (write : Bool) → SoundWidth width w → width ≢ None →
    off + n ≤ GREATEST_DEPTH * PROTECTED_STACK_SIZE →
    protected_base w.descriptors Es (selector_of HOST_STACKS) off n write ≡ Ok PROTECTED_STACKS
stacks_base None w off n write s some room = absurd (some refl)
stacks_base (Some width) w off n write s some room = grind (arith, base_in_stacks)

abbrev pub stacks_at : ℕ → FarPtr
stacks_at off = record { sel = selector_of HOST_STACKS; off = off }

pub stacks_reachable : (w : World) (off n : ℕ) (write : Bool) → IsSound w → w.width ≢ None →
    off + n ≤ GREATEST_DEPTH * PROTECTED_STACK_SIZE → is_reachable w (stacks_at off) n write ≡ true
stacks_reachable w off n write s some room =
    reachable_where w (stacks_at off) n PROTECTED_STACKS write (stacks_base w.width w off n write s.width some room)
    (λ i less. grind (arith, low_place))

-- a write at a far pointer changes the memory's bytes at its places alone
pub only_where : (k : Processor) (v : MachineView) (r : Result (List Place) Fault) (bytes : List ℕ) → HoldsBlocks k v →
    ((places : List Place) → r ≡ Ok places → CanWriteAll v.world places) →
    OnlyAt (places_of_access r) v.bytes (with_places v (places_of_access r) bytes).bytes
only_where k v (Ok places) bytes h can = only_places k v places bytes h (can places refl)
only_where k v (Err f) bytes h can = only_places k v [] bytes h (λ i within. absurd (omega arith))

pub far_can_write : (w : World) (p : FarPtr) (n : ℕ) (places : List Place) → far_access w p n true ≡ Ok places → CanWriteAll w places
unfolding far_access
far_can_write w p n places e = can_write_at w (protected_base w.descriptors Es p.sel p.off n true) p.off n places e

pub only_far : (b : List ℕ) (budget : ℕ) (mode : Mode) (regs : Regs) (vif : Bool) (width : Option Width) → Holds b budget →
    IsSound (world_of b budget mode regs vif width) → (p : FarPtr) (n : ℕ) (bytes : List ℕ) →
    OnlyAt (places_of_access (far_access (world_of b budget mode regs vif width) p n true)) b
    (after_far_write (record { world = world_of b budget mode regs vif width; bytes = b }) p n bytes).bytes
unfolding after_far_write
only_far b budget mode regs vif width holds sound p n bytes =
    let k : Processor = record { budget = budget; mode = mode; regs = regs; vif = vif; width = width } in
    let w = world_of b budget mode regs vif width in
    let v : MachineView = record { world = w; bytes = b } in
    let blocks = sound.blocks in
    let holds_blocks : HoldsBlocks k v =
    record { holds = holds; is = refl; blocks = rw (budget_is b budget mode regs vif width) at blocks } in
    only_where k v (far_access w p n true) bytes holds_blocks (far_can_write w p n)

-- ---- they are read through SS as at a far pointer

ss_in_stacks : (width : Width) (off n : ℕ) → off + n ≤ GREATEST_DEPTH * PROTECTED_STACK_SIZE →
    base_in_row Ss (selector_of HOST_STACKS) (host_stacks width) off n false ≡ Ok PROTECTED_STACKS
ss_in_stacks width off n room = rw (inside_stacks off n room) refl

ss_base : (width : Option Width) (w : World) (off n : ℕ) → SoundWidth width w → width ≢ None →
    off + n ≤ GREATEST_DEPTH * PROTECTED_STACK_SIZE →
    protected_base w.descriptors Ss (selector_of HOST_STACKS) off n false ≡ Ok PROTECTED_STACKS
ss_base None w off n s some room = absurd (some refl)
ss_base (Some width) w off n s some room = grind (arith, ss_in_stacks)

ss_segment : (mode : Mode) (r : Regs) (rows : List Row) (off n : ℕ) → mode ≡ Protected → r.ss ≡ selector_of HOST_STACKS →
    segment_base mode r rows Ss off n false ≡ protected_base rows Ss (selector_of HOST_STACKS) off n false
unfolding segment_base
ss_segment Real r rows off n e ss = absurd cc
ss_segment Protected r rows off n e ss = ap (λ (sel : ℕ). protected_base rows Ss sel off n false) ss

ok_bytes : (w : World) (r : Result (List Place) Fault) → is_ok r ≡ true → bytes_at w r ≡ Ok (bytes_of w (places_of_access r))
ok_bytes w (Ok places) e = refl
ok_bytes w (Err f) e = absurd cc

stacks_access : (w : World) (off n : ℕ) → IsSound w → w.mode ≡ Protected → w.regs.ss ≡ selector_of HOST_STACKS → w.width ≢ None →
    off + n ≤ GREATEST_DEPTH * PROTECTED_STACK_SIZE → access w Ss off n false ≡ far_access w (stacks_at off) n false
unfolding access far_access
stacks_access w off n s mode ss some room = grind (arith, ss_base, ss_segment, stacks_base)

pub stacks_loaded : (w : World) (off n : ℕ) → IsSound w → w.mode ≡ Protected → w.regs.ss ≡ selector_of HOST_STACKS → w.width ≢ None →
    off + n ≤ GREATEST_DEPTH * PROTECTED_STACK_SIZE → read_result w Ss off n ≡ Ok (far_bytes w (stacks_at off) n)
unfolding read_result far_bytes
stacks_loaded w off n s mode ss some room = grind (arith, ok_bytes, stacks_access, stacks_reachable)

-- what is read at a far pointer is told by the memory and the descriptors
byte_same : (w : World) (calls : List Record) (r : Regs) (on : Bool) (p : Place) →
    byte_of (record w { calls = calls; regs = r; vif = on }) p ≡ byte_of w p
byte_same w calls r on (Dos at) = refl
byte_same w calls r on (Block number at) = refl
byte_same w calls r on Host = refl
byte_same w calls r on Nothing = refl

bytes_same : (w : World) (calls : List Record) (r : Regs) (on : Bool) (places : List Place) →
    bytes_of (record w { calls = calls; regs = r; vif = on }) places ≡ bytes_of w places
bytes_same w calls r on [] = refl
bytes_same w calls r on (p ∷ places) = rw (byte_same w calls r on p, bytes_same w calls r on places) refl

pub far_same : (w : World) (calls : List Record) (r : Regs) (on : Bool) (p : FarPtr) (n : ℕ) →
    far_bytes (record w { calls = calls; regs = r; vif = on }) p n ≡ far_bytes w p n
unfolding far_bytes far_access
far_same w calls r on p n = grind (arith, bytes_same)

-- their places, one after the other in the megabyte
pub stacks_places : (w : World) (off n : ℕ) → IsSound w → w.width ≢ None → off + n ≤ GREATEST_DEPTH * PROTECTED_STACK_SIZE →
    places_of_access (far_access w (stacks_at off) n true) ≡ places_from w.blocks (PROTECTED_STACKS + off) n
stacks_places w off n s some room =
    let small : (PROTECTED_STACKS + off) % 2 ^ 32 ≡ PROTECTED_STACKS + off = omega arith in
    let base = stacks_base w.width w off n true s.width some room in
    far_places w (stacks_at off) n PROTECTED_STACKS true base
    (reachable_linear w (stacks_at off) n PROTECTED_STACKS true base (stacks_reachable w off n true s some room))
    ∙ ap (λ (a : ℕ). places_from w.blocks a n) small

pub stacks_place : (w : World) (off n i : ℕ) → i < n → off + n ≤ GREATEST_DEPTH * PROTECTED_STACK_SIZE →
    slice_index_or (places_from w.blocks (PROTECTED_STACKS + off) n) i Nothing ≡ Dos (PROTECTED_STACKS + off + i)
stacks_place w off n i less room = grind (arith, place-dos, places_from-at)
