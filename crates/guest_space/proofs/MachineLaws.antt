-- The laws of walks and of writes, of the view of a machine.
use Rattle.std.proofs.Common.{◌≡◌, ℕ, ◌<◌, ◌^◌, Bool, true, List, None, Some, OnOk, IfErr, sym, subst, arith, Result, Ok, Err}
use Rattle.client_world.specs.{declared.faults.Fault.{Fault}, declared.host_frames.TheConstants.{PAGE_DIRECTORY}}
use Rattle.client_world.specs.{declared.place.Place.{Place}, declared.segments.FarPtr.{FarPtr}, declared.segments.SegReg.{SegReg}}
use Rattle.client_world.specs.{Access.{access, far_access, may_touch, place_of}, Soundness.{IsSound}, World.{World}}
use Rattle.page_tables.specs.Walk.{walked}
use Rattle.host_memory.specs.{Law.{walk_result, StandsAt}, View.{MachineView, OnlyAt}}
use Rattle.host_memory.proofs.{WorldWalks.{only_start}, WalkLaw.{walk_agrees}}
use Rattle.guest_space.specs.{declared.pending.Write.{Write}, Far.{after_far_write}, Machines.{Processor, IsMachine, HoldsItsWorld}}
use Rattle.guest_space.specs.Pending.{after_writes, byte_count, first_write_fault, number_bytes, places_of_writes, write_fault, after_write}
use Rattle.guest_space.specs.Transfer.{places_of_access, access_fault, after_store}
use Rattle.guest_space.proofs.{HostStacks.{only_far, only_where}, Machines.{sound_blocks, stands_there}, OnlyWritten.{HoldsBlocks}}
use Rattle.guest_space.proofs.{OnlyWritten.{write_places}, Writes.{Answered, only_writes}}

-- a walk of the page tables ends where the client may touch, and else fails as the place says
pub machine_walks : (v : MachineView) → HoldsItsWorld v → (lin : ℕ) (write : Bool) → lin < 2 ^ 32 →
    walked v.bytes PAGE_DIRECTORY lin write ≡ walk_result v.bytes (place_of v.world lin) write
machine_walks v h lin write small = grind (arith, sound_blocks, walk_agrees)

-- and the byte at a place that the client may touch lies at its address
pub machine_stands : (v : MachineView) → HoldsItsWorld v → (lin : ℕ) (write : Bool) → may_touch (place_of v.world lin) write ≡ true →
    StandsAt v.bytes v.world (place_of v.world lin)
machine_stands v h lin write may = stands_there h.processor v lin write h.machine may

-- a write through a segment register
holds_blocks : (k : Processor) (v : MachineView) → IsMachine k v → HoldsBlocks k v
holds_blocks k v m = grind (arith, sound_blocks)

pub machine_near : (v : MachineView) → HoldsItsWorld v → (seg : SegReg) (offset n : ℕ) (bytes : List ℕ) →
    OnlyAt (places_of_access (access v.world seg offset n true)) v.bytes (after_store v seg offset n bytes).bytes
unfolding after_store
machine_near v h seg offset n bytes =
    only_where h.processor v (access v.world seg offset n true) bytes (holds_blocks h.processor v h.machine)
    (write_places v.world seg offset n)

-- a write at a far pointer
pub machine_far : (v : MachineView) → HoldsItsWorld v → (p : FarPtr) (n : ℕ) (bytes : List ℕ) →
    OnlyAt (places_of_access (far_access v.world p n true)) v.bytes (after_far_write v p n bytes).bytes
machine_far v h p n bytes =
    let k = h.processor in
    let m = h.machine in
    subst (λ (w : World).
    OnlyAt (places_of_access (far_access w p n true)) v.bytes (after_far_write (record { world = w; bytes = v.bytes }) p n bytes).bytes)
    (sym m.is) (only_far v.bytes k.budget k.mode k.regs k.vif k.width m.holds (subst IsSound m.is m.sound) p n bytes)

-- writes one after another
pub machine_all : (v : MachineView) → HoldsItsWorld v → (writes : List Write) →
    OnlyAt (places_of_writes v.world writes) v.bytes (after_writes v writes).bytes
machine_all v h writes =
    let k = h.processor in
    let m = h.machine in
    subst (λ (w : World). OnlyAt (places_of_writes w writes) v.bytes (after_writes (record { world = w; bytes = v.bytes }) writes).bytes)
    (sym m.is) (only_writes v.bytes k.budget k.mode k.regs k.vif k.width m.holds (subst IsSound m.is m.sound) writes)

-- a call that made the write or the writes, or changed nothing
made_or_kept : (v u new : MachineView) (places : List Place) (A : Type 0) (B : Fault → Type 0) (r : Result (Unit {0}) Fault) →
    OnlyAt places v.bytes new.bytes → OnOk r (A × (u ≡ new)) → IfErr r (λ fault. B fault × (u ≡ v)) → OnlyAt places v.bytes u.bytes
made_or_kept v u new places A B (Ok x) only made kept = subst (λ (w : MachineView). OnlyAt places v.bytes w.bytes) (sym made.1) only
made_or_kept v u new places A B (Err f) only made kept = grind (arith, only_start)

pub stored_or_kept : (v u : MachineView) → HoldsItsWorld v → (seg : SegReg) (offset n : ℕ) (bytes : List ℕ) (r : Result (Unit {0}) Fault) →
    OnOk r ((access_fault v.world seg offset n true ≡ None) × (u ≡ after_store v seg offset n bytes)) →
    IfErr r (λ fault. (access_fault v.world seg offset n true ≡ Some fault) × (u ≡ v)) →
    OnlyAt (places_of_access (access v.world seg offset n true)) v.bytes u.bytes
stored_or_kept v u h seg offset n bytes r =
    made_or_kept v u (after_store v seg offset n bytes) (places_of_access (access v.world seg offset n true))
    (access_fault v.world seg offset n true ≡ None)
    (λ fault. access_fault v.world seg offset n true ≡ Some fault) r (machine_near v h seg offset n bytes)

pub written_or_kept : (v u : MachineView) → HoldsItsWorld v → (x : Write) (r : Result (Unit {0}) Fault) → Answered v u x r →
    OnlyAt (places_of_access (access v.world x.seg x.off (byte_count x.width) true)) v.bytes u.bytes
unfolding after_write
written_or_kept v u h x (Ok y) made =
    made_or_kept v u (after_write v x) (places_of_access (access v.world x.seg x.off (byte_count x.width) true))
    (write_fault v.world x ≡ None)
    (λ fault. ⊥) (Ok y) (machine_near v h x.seg x.off (byte_count x.width) (number_bytes x.width x.value)) made tt
written_or_kept v u h x (Err f) kept = grind (arith, only_start)

pub all_or_kept : (v u : MachineView) → HoldsItsWorld v → (writes : List Write) (r : Result (Unit {0}) Fault) →
    OnOk r ((first_write_fault v.world writes ≡ None) × (u ≡ after_writes v writes)) →
    IfErr r (λ fault. (first_write_fault v.world writes ≡ Some fault) × (u ≡ v)) → OnlyAt (places_of_writes v.world writes) v.bytes u.bytes
all_or_kept v u h writes r =
    made_or_kept v u (after_writes v writes) (places_of_writes v.world writes) (first_write_fault v.world writes ≡ None)
    (λ fault. first_write_fault v.world writes ≡ Some fault) r (machine_all v h writes)

pub all_made : (v u : MachineView) → HoldsItsWorld v → (writes : List Write) → u ≡ after_writes v writes →
    OnlyAt (places_of_writes v.world writes) v.bytes u.bytes
all_made v u h writes e =
    subst (λ (w : MachineView). OnlyAt (places_of_writes v.world writes) v.bytes w.bytes) (sym e) (machine_all v h writes)

pub far_made : (v u : MachineView) → HoldsItsWorld v → (p : FarPtr) (n : ℕ) (bytes : List ℕ) → u ≡ after_far_write v p n bytes →
    OnlyAt (places_of_access (far_access v.world p n true)) v.bytes u.bytes
far_made v u h p n bytes e =
    subst (λ (w : MachineView). OnlyAt (places_of_access (far_access v.world p n true)) v.bytes w.bytes) (sym e) (machine_far v h p n bytes)
