-- Writes to places of the client change the bytes of these places, and leave the host's frames, in which none of the places lies; so do
-- those of the client's next instruction and of its software interrupt.
use Rattle.std.proofs.Common.{◌≡◌, ◌≢◌, ◌⊎◌, ℕ, suc, ◌+◌, ◌*◌, ◌<◌, ◌≤◌, true, List, [], ◌∷◌, length, slice_index, slice_index_or}
use Rattle.std.proofs.Common.{slice_set, refl, sym, subst, arith, length-set, get_or-set_other, Result, Ok, Err, Option, None, Some}
use Rattle.client_world.specs.{declared.faults.Fault.{Fault}, declared.host_frames.TheConstants.{PAGE_SIZE, BUDGET_FRAMES, BLOCK_ROWS}}
use Rattle.client_world.specs.declared.host_frames.TheConstants.{BLOCK_ROW_FRAMES, BLOCK_TABLES, BLOCK_TABLE_FRAMES}
use Rattle.client_world.specs.{declared.memory_map.TheConstants.{DOS_SIZE}, declared.place.Place.{Place}}
use Rattle.client_world.specs.{declared.place.Place.TheVariants.{Nothing}, declared.segments.FarPtr.{FarPtr}, Access.{access, far_access}}
use Rattle.client_world.specs.{World.{World}, declared.faults.Event.{Event}, declared.faults.Event.TheVariants.{Fault as fault}}
use Rattle.client_world.proofs.PlaceLaws.{place_in-with_byte_of}
use Rattle.guest_ram.proofs.PutLaws.{same_region}
use Rattle.guest_space.specs.{declared.pending.Write.{Write}, Far.{after_far_write}, Pending.{after_writes, byte_count, number_bytes}}
use Rattle.guest_space.specs.{Pending.{places_of_writes, after_write}, Transfer.{places_of_access, after_store, with_places}}
use Rattle.guest_space.proofs.Machines.{CanWrite, CanWriteAll, can_write_after, with_place, with_places_first, with_places_none}
use Rattle.guest_space.proofs.{Machines.{with_places_short}, OnlyWritten.{write_places}, Writes.{all_none, all_first, places_kept}}
use Rattle.guest_space.proofs.HostStacks.{far_can_write}
use Rattle.cpu_step.specs.Step.{view_with_next_eip, client_row, client_step, code, after_instruction, has_big_code, step_of}
use Rattle.host_memory.specs.{Layout.{address_of, frames_at}, View.{MachineView, OnlyAt}}
use Rattle.host_memory.proofs.{WorldWalks.{only_start, only_step, only_then}, Parts.{addresses_by}}
use Rattle.fault_service.specs.{Memory.{IsMachineView}, StepMemory.{InterruptLaw, RealDeliveryLaw, StepLaw, interrupt_places, written_by}}
use Rattle.fault_service.specs.StepMemory.{written_of, written_places}
use Rattle.exec_flow.specs.Interrupts.{interrupt_push}
use Rattle.interrupts.specs.Delivery.{has_real_vector, after_interrupt_entry, real_delivery, software_interrupt}
use Rattle.interrupts.proofs.SoundAnswers.{delivered_was, granted_was}
use Rattle.insn_decode.specs.{declared.decoding.Decoded.{Decoded}, declared.decoding.Decoded.TheVariants.{Whole, More, Invalid}}
use Rattle.insn_decode.specs.Decode.{decoded}
use Rattle.insn_forms.specs.declared.insn.Insn.{Insn}
use Rattle.insn_plan.specs.{Accesses.{with_next_eip}, Act.{Pending}, Plan.{after_plan, plan_result, after_commit}}

-- an address lies in none of the host's frames
abbrev IsOutside : ℕ → Type 0
IsOutside at = (at < DOS_SIZE) ⊎ (PAGE_SIZE * BUDGET_FRAMES ≤ at)

-- nor do those of the places that the client may write
pub record LiesAway (v : MachineView) : Type 0 where
  pub size : PAGE_SIZE * BUDGET_FRAMES ≤ length v.bytes
  pub away : (p : Place) → CanWrite v.world p → IsOutside (address_of v.bytes p)

-- so it is in every machine
pub machine_away : (v : MachineView) → IsMachineView v → LiesAway v
machine_away v m = grind arith

-- and with the instruction pointer moved
pub behind_away : (v : MachineView) (len : ℕ) → LiesAway v → LiesAway (view_with_next_eip len v)
behind_away v len h = record { size = h.size; away = λ p can. h.away p (record { at = can.at; is = can.is; may = can.may }) }

-- ---- one byte

other_address : (at k : ℕ) → IsOutside at → DOS_SIZE ≤ k → k < PAGE_SIZE * BUDGET_FRAMES → k ≢ at
other_address at k out from to same = omega (arith, out)

host_kept : (b : List ℕ) (at x k : ℕ) → IsOutside at → DOS_SIZE ≤ k → k < PAGE_SIZE * BUDGET_FRAMES →
    slice_index (slice_set b at x) k ≡ slice_index b k
host_kept b at x k out from to = get_or-set_other b at k x 0 (other_address at k out from to)

frames_kept : (b : List ℕ) (at x first n : ℕ) → IsOutside at → PAGE_SIZE * BUDGET_FRAMES ≤ length b → DOS_SIZE ≤ PAGE_SIZE * first →
    first + n ≤ BUDGET_FRAMES → frames_at (slice_set b at x) first n ≡ frames_at b first n
frames_kept b at x first n out size from to = grind (arith, host_kept, length-set, same_region)

addresses_kept : (b : List ℕ) (at x : ℕ) → IsOutside at → PAGE_SIZE * BUDGET_FRAMES ≤ length b → (q : Place) →
    address_of (slice_set b at x) q ≡ address_of b q
addresses_kept b at x out size =
    addresses_by b (slice_set b at x) (frames_kept b at x BLOCK_ROWS BLOCK_ROW_FRAMES out size (omega arith) (omega arith))
    (frames_kept b at x BLOCK_TABLES BLOCK_TABLE_FRAMES out size (omega arith) (omega arith))

byte_away : (v : MachineView) (p : Place) (x : ℕ) → LiesAway v → CanWrite v.world p → LiesAway (with_place v p x)
byte_away v p x h can = grind (arith, addresses_kept, length-set, place_in-with_byte_of)

byte_only : (v : MachineView) (p : Place) (x : ℕ) → LiesAway v → CanWrite v.world p → OnlyAt (p ∷ []) v.bytes (with_place v p x).bytes
byte_only v p x h can =
    let out = h.away p can in
    only_step (p ∷ []) v.bytes v.bytes (with_place v p x).bytes p 0 x (only_start (p ∷ []) v.bytes) refl (omega arith) refl
    (addresses_kept v.bytes (address_of v.bytes p) x out h.size) (λ k from to. host_kept v.bytes (address_of v.bytes p) x k out from to)

-- ---- bytes at several places

pub record Writes (v u : MachineView) (places : List Place) : Type 0 where
  pub only : OnlyAt places v.bytes u.bytes
  pub away : LiesAway u

none_written : (v : MachineView) (places : List Place) → LiesAway v → Writes v v places
none_written v places h = record { only = only_start places v.bytes; away = h }

places_written : (v : MachineView) (places : List Place) (bytes : List ℕ) → LiesAway v → CanWriteAll v.world places →
    Writes v (with_places v places bytes) places
places_written v [] bytes h can = subst (λ (u : MachineView). Writes v u []) (sym (with_places_none v bytes)) (none_written v [] h)
places_written v (p ∷ places) [] h can =
    subst (λ (u : MachineView). Writes v u (p ∷ places)) (sym (with_places_short v (p ∷ places))) (none_written v (p ∷ places) h)
places_written v (p ∷ places) (x ∷ bytes) h can =
    let first : CanWrite v.world p = can 0 (omega arith) in
    let rest = places_written (with_place v p x) places bytes (byte_away v p x h first)
    (λ i within. can_write_after v.world p (slice_index_or places i Nothing) x (can (suc i) (omega arith))) in
    subst (λ (u : MachineView). Writes v u (p ∷ places)) (sym (with_places_first v p places x bytes)) (record {
      only = only_then (p ∷ []) places v.bytes (with_place v p x).bytes (with_places (with_place v p x) places bytes).bytes
          (byte_only v p x h first) rest.only;
      away = rest.away;
    })

access_written : (v : MachineView) (r : Result (List Place) Fault) (bytes : List ℕ) → LiesAway v →
    ((places : List Place) → r ≡ Ok places → CanWriteAll v.world places) →
    Writes v (with_places v (places_of_access r) bytes) (places_of_access r)
access_written v (Ok places) bytes h can = places_written v places bytes h (can places refl)
access_written v (Err f) bytes h can = places_written v [] bytes h (λ i within. absurd (omega arith))

-- ---- writes through segment registers

abbrev places_of_write : World → Write → List Place
places_of_write w x = places_of_access (access w x.seg x.off (byte_count x.width) true)

one_written : (v : MachineView) (x : Write) → LiesAway v → Writes v (after_write v x) (places_of_write v.world x)
unfolding after_write after_store
one_written v x h =
    access_written v (access v.world x.seg x.off (byte_count x.width) true) (number_bytes x.width x.value) h
    (write_places v.world x.seg x.off (byte_count x.width))

pub writes_only : (v : MachineView) (xs : List Write) → LiesAway v → OnlyAt (places_of_writes v.world xs) v.bytes (after_writes v xs).bytes
writes_only v [] h = subst (λ (u : MachineView). OnlyAt [] v.bytes u.bytes) (sym (all_none v)) (only_start [] v.bytes)
writes_only v (x ∷ xs) h =
    let one = one_written v x h in
    subst (λ (u : MachineView). OnlyAt (places_of_writes v.world (x ∷ xs)) v.bytes u.bytes) (sym (all_first v x xs))
    (only_then (places_of_write v.world x) (places_of_writes v.world xs) v.bytes (after_write v x).bytes
    (after_writes (after_write v x) xs).bytes one.only
    (subst (λ (places : List Place). OnlyAt places (after_write v x).bytes (after_writes (after_write v x) xs).bytes) (places_kept v x xs)
    (writes_only (after_write v x) xs one.away)))

-- ---- a write at a far pointer

pub far_only : (v : MachineView) (p : FarPtr) (n : ℕ) (bytes : List ℕ) → LiesAway v →
    OnlyAt (places_of_access (far_access v.world p n true)) v.bytes (after_far_write v p n bytes).bytes
unfolding after_far_write
far_only v p n bytes h = (access_written v (far_access v.world p n true) bytes h (far_can_write v.world p n)).only

-- ---- the next instruction

-- a view whose writes change their places alone
abbrev WritesOnly : MachineView → Type 0
WritesOnly v = (p : Pending) → OnlyAt (places_of_writes v.world p.writes) v.bytes (after_writes v p.writes).bytes

granted : (o : Option Fault) (x u : MachineView) →
    elim o as (λ _. Result MachineView Event) [ Some f ↦ Err (fault f) | None ↦ Ok x ] ≡ Ok u → x ≡ u
granted None x u e = cc
granted (Some f) x u e = absurd cc

settled_only : (v u : MachineView) (p : Pending) → WritesOnly v → after_commit v p ≡ Ok u →
    OnlyAt (places_of_writes v.world p.writes) v.bytes u.bytes
unfolding after_commit
settled_only v u p only e = grind (arith, granted)

carried_only : (v u : MachineView) (r : Result Pending Event) → WritesOnly v → after_plan v r ≡ Ok u →
    OnlyAt (written_by v.world r) v.bytes u.bytes
unfolding after_plan
carried_only v u (Ok p) only e = settled_only v u p only e
carried_only v u (Err g) only e = absurd cc

executed_only : (v u : MachineView) (insn : Insn) (len : ℕ) → WritesOnly (view_with_next_eip len v) → after_instruction v insn len ≡ Ok u →
    OnlyAt (written_by (with_next_eip len v.world)
    (plan_result (with_next_eip len v.world) (client_row (with_next_eip len v.world) insn len))) v.bytes u.bytes
unfolding after_instruction
executed_only v u insn len only e = carried_only (view_with_next_eip len v) u
    (plan_result (with_next_eip len v.world) (client_row (with_next_eip len v.world) insn len)) only e

step_only : (v u : MachineView) (d : Decoded) → ((len : ℕ) → WritesOnly (view_with_next_eip len v)) → step_of v d ≡ Ok u →
    OnlyAt (written_of v.world d) v.bytes u.bytes
step_only v u (Whole insn len) only e = executed_only v u insn len (only len) e
step_only v u More only e = absurd cc
step_only v u Invalid only e = absurd cc

-- those of a machine do
behind_only : (v : MachineView) → IsMachineView v → (len : ℕ) → WritesOnly (view_with_next_eip len v)
behind_only v m len p = writes_only (view_with_next_eip len v) p.writes (behind_away v len (machine_away v m))

pub step_law : (v : MachineView) → IsMachineView v → StepLaw v
unfolding client_step written_places
step_law v m u e = step_only v u (decoded (has_big_code v.world) (code v.world)) (behind_only v m) e

-- ---- a software interrupt

pushed_bytes : (v u : MachineView) (n : ℕ) → after_interrupt_entry v n ≡ Ok u →
    u.bytes ≡ (after_writes v (interrupt_push v.world).writes).bytes
pushed_bytes v u n e = grind (arith, granted_was)

pub interrupt_law : (v : MachineView) → IsMachineView v → InterruptLaw v
unfolding software_interrupt
interrupt_law v m n len u e =
    let at = view_with_next_eip len v in
    subst (λ (b : List ℕ). OnlyAt (interrupt_places v.world len) v.bytes b) (sym (pushed_bytes at u n e))
    (writes_only at (interrupt_push at.world).writes (behind_away v len (machine_away v m)))

pub real_delivery_law : (v : MachineView) → IsMachineView v → RealDeliveryLaw v
unfolding real_delivery
real_delivery_law v m f u e =
    interrupt_law v m f.number 0 u (delivered_was (has_real_vector f.number) f (software_interrupt v f.number 0) u e)
