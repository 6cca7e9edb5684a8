-- A step, an interrupt, an exception and a return change registers, the virtual interrupt flag and memory alone; a return changes no
-- memory; the pushes of an interrupt don't change whether its handler can be entered.
use Rattle.std.proofs.Common.{◌≡◌, [], ap, ◌∙◌, Result, Ok, Err, ℕ, List, refl, Bool, false, ◌*◌, ◌+◌, ◌<◌, sym, subst, arith, Option, None}
use Rattle.std.proofs.{Common.{Some}, lemmas.Bool.{lt-ltb}}
use Rattle.client_world.specs.{declared.faults.Event.{Event}, declared.faults.Event.TheVariants.{Fault as fault}}
use Rattle.client_world.specs.{declared.faults.Fault.{Fault}, declared.registers.Regs.{Regs}, declared.segments.FarPtr.{FarPtr}}
use Rattle.client_world.specs.{Loading.{transfer_fault, load_fault}, World.{World}, declared.memory_map.TheConstants.{SEGMENT_SIZE}}
use Rattle.client_world.specs.{declared.registers.Mode.{Mode}, declared.registers.Mode.TheVariants.{Real, Protected}}
use Rattle.client_world.specs.{declared.segments.SegReg.TheVariants.{Cs}, Selector.{Row}, Soundness.{IsSound}}
use Rattle.exec_flow.specs.{Interrupts.{frame_bits, interrupt_push}, FarTransfers.{code_selector}}
use Rattle.guest_space.proofs.{Writes.{all_none}, MemoryAlone.{other_all}}
use Rattle.guest_space.specs.{Pending.{after_writes, first_write_fault}, declared.pending.Write.{Write}, Transfer.{HasOtherMemory}}
use Rattle.guest_space.specs.VectorLists.{vector_at}
use Rattle.host_memory.specs.View.{MachineView}
use Rattle.insn_plan.specs.{Act.{Pending}, Plan.{after_plan, after_commit, with_state, plan_result}}
use Rattle.interrupts.specs.Delivery.{after_iret, after_frame_push, after_handler_entry, handler_interrupts, has_real_vector}
use Rattle.interrupts.specs.Delivery.{interrupt_vector, after_interrupt_entry, real_delivery, software_interrupt, handler_fault}
use Rattle.interrupts.specs.{Delivery.{vector_fault}, Worlds.{HasOtherState, HasOtherRegisters, HasOtherRegistersAndMemory}}
use Rattle.interrupts.specs.Worlds.{view_without_bytes, world_delivery, world_interrupt, world_after_iret, world_step}
use Rattle.interrupts.proofs.{ReturnPlans.{WritesNothing, quiet_frame}, SoundAnswers.{granted_was, holds_of_answer, return_was}}
use Rattle.interrupts.proofs.SoundAnswers.{delivered_was, holds_of_world}
use Rattle.cpu_step.specs.Step.{view_with_next_eip, client_row, client_step, code, after_instruction, has_big_code, step_of}
use Rattle.insn_decode.specs.{declared.decoding.Decoded.{Decoded}, declared.decoding.Decoded.TheVariants.{Whole, More, Invalid}}
use Rattle.insn_decode.specs.Decode.{decoded}
use Rattle.insn_forms.specs.declared.insn.Insn.{Insn}
use Rattle.guest_ram.specs.Bytes.{word_of}

settled_state : (v u : MachineView) (p : Pending) → p.writes ≡ [] → after_commit v p ≡ Ok u → HasOtherState v u
unfolding after_commit
settled_state v u p none e =
    let x = with_state p.regs p.vif (after_writes v p.writes) in
    holds_of_answer (HasOtherState v) (Ok x) u (ap (with_state p.regs p.vif) (ap (after_writes v) none ∙ all_none v))
    (granted_was fault (first_write_fault v.world p.writes) (Ok x) u e)

pub quiet_state : (v u : MachineView) (r : Result Pending Event) → WritesNothing r → after_plan v r ≡ Ok u → HasOtherState v u
unfolding after_plan
quiet_state v u (Ok p) none e = settled_state v u p none e
quiet_state v u (Err f) none e = absurd cc

pub return_state : (v u : MachineView) → after_iret v ≡ Ok u → HasOtherState v u
unfolding after_iret
return_state v u e = quiet_state v u _ (quiet_frame v.world (frame_bits v.world)) (return_was _ u e)

-- one change after another
kept_then : (w u t : World) → HasOtherRegistersAndMemory w u → HasOtherRegistersAndMemory u t → HasOtherRegistersAndMemory w t
kept_then w u t before after = after ∙ ap (λ (x : World). record x { regs = t.regs; vif = t.vif; dos = t.dos; blocks = t.blocks }) before

-- ---- plans and steps

with_writes : (v : MachineView) (r : Regs) (on : Bool) (xs : List Write) →
    HasOtherRegistersAndMemory v.world (with_state r on (after_writes v xs)).world
with_writes v r on xs = ap (λ (w : World). record w { regs = r; vif = on }) (other_all v xs)

kept_settled : (v u : MachineView) (p : Pending) → after_commit v p ≡ Ok u → HasOtherRegistersAndMemory v.world u.world
unfolding after_commit
kept_settled v u p e =
    let x = with_state p.regs p.vif (after_writes v p.writes) in
    holds_of_answer (λ (m : MachineView). HasOtherRegistersAndMemory v.world m.world) (Ok x) u (with_writes v p.regs p.vif p.writes)
    (granted_was fault (first_write_fault v.world p.writes) (Ok x) u e)

kept_plan : (v u : MachineView) (r : Result Pending Event) → after_plan v r ≡ Ok u → HasOtherRegistersAndMemory v.world u.world
unfolding after_plan
kept_plan v u (Ok p) e = kept_settled v u p e
kept_plan v u (Err event) e = absurd cc

kept_executed : (v u : MachineView) (insn : Insn) (len : ℕ) → after_instruction v insn len ≡ Ok u →
    HasOtherRegistersAndMemory v.world u.world
unfolding after_instruction
kept_executed v u insn len e =
    let at = view_with_next_eip len v in
    kept_then v.world at.world u.world refl (kept_plan at u (plan_result at.world (client_row at.world insn len)) e)

kept_decoded : (v u : MachineView) (d : Decoded) → step_of v d ≡ Ok u → HasOtherRegistersAndMemory v.world u.world
kept_decoded v u (Whole insn len) e = kept_executed v u insn len e
kept_decoded v u More e = absurd cc
kept_decoded v u Invalid e = absurd cc

kept_step : (v u : MachineView) → client_step v ≡ Ok u → HasOtherRegistersAndMemory v.world u.world
unfolding client_step
kept_step v u e = kept_decoded v u (decoded (has_big_code v.world) (code v.world)) e

-- ---- interrupts and exceptions

kept_entered : (v u : MachineView) (p : FarPtr) → after_handler_entry v p ≡ Ok u → HasOtherRegistersAndMemory v.world u.world
kept_entered v u p e =
    let x = with_state (record v.world.regs { cs = code_selector v.world p.sel; eip = p.off }) (handler_interrupts v.world) v in
    holds_of_answer (λ (m : MachineView). HasOtherRegistersAndMemory v.world m.world) (Ok x) u refl
    (granted_was (λ (f : Fault). f) (transfer_fault v.world p.sel p.off false) (Ok x) u e)

kept_interrupted : (v u : MachineView) (n : ℕ) → after_interrupt_entry v n ≡ Ok u → HasOtherRegistersAndMemory v.world u.world
kept_interrupted v u n e =
    let at = after_frame_push v in
    let p = interrupt_push v.world in
    let vector = interrupt_vector at.world n in
    kept_then v.world at.world u.world (with_writes v p.regs p.vif p.writes)
    (kept_entered at u vector (granted_was (λ (f : Fault). f) (first_write_fault v.world p.writes) (after_handler_entry at vector) u e))

kept_interrupt : (v u : MachineView) (n len : ℕ) → software_interrupt v n len ≡ Ok u → HasOtherRegistersAndMemory v.world u.world
unfolding software_interrupt
kept_interrupt v u n len e = let at = view_with_next_eip len v in kept_then v.world at.world u.world refl (kept_interrupted at u n e)

kept_delivery : (v u : MachineView) (f : Fault) → real_delivery v f ≡ Ok u → HasOtherRegistersAndMemory v.world u.world
unfolding real_delivery
kept_delivery v u f e = kept_interrupt v u f.number 0 (delivered_was (has_real_vector f.number) f (software_interrupt v f.number 0) u e)

-- ---- of worlds

pub kept_world_step : (w u : World) → world_step w ≡ Ok u → HasOtherRegistersAndMemory w u
unfolding world_step
kept_world_step w u e =
    holds_of_world (HasOtherRegistersAndMemory w) (client_step (view_without_bytes w)) u (kept_step (view_without_bytes w)) e

pub kept_world_interrupt : (w u : World) (n len : ℕ) → world_interrupt w n len ≡ Ok u → HasOtherRegistersAndMemory w u
unfolding world_interrupt
kept_world_interrupt w u n len e =
    holds_of_world (HasOtherRegistersAndMemory w) (software_interrupt (view_without_bytes w) n len) u
    (λ v. kept_interrupt (view_without_bytes w) v n len) e

pub kept_world_delivery : (w u : World) (f : Fault) → world_delivery w f ≡ Ok u → HasOtherRegistersAndMemory w u
unfolding world_delivery
kept_world_delivery w u f e = holds_of_world (HasOtherRegistersAndMemory w) (real_delivery (view_without_bytes w) f) u
    (λ v. kept_delivery (view_without_bytes w) v f) e

pub state_of_world : (w : World) (v : MachineView) → HasOtherState (view_without_bytes w) v → HasOtherRegisters w v.world
state_of_world w v e = ap (λ (m : MachineView). m.world) e

pub kept_world_popped : (w u : World) → world_after_iret w ≡ Ok u → HasOtherRegisters w u
unfolding world_after_iret
kept_world_popped w u e =
    holds_of_world (HasOtherRegisters w) (after_iret (view_without_bytes w)) u
    (λ v popped. state_of_world w v (return_state (view_without_bytes w) v popped)) e

-- ---- the handler

-- in real mode every vector can be loaded
real_loads : (w : World) (n : ℕ) → IsSound w → w.mode ≡ Real → vector_fault w n ≡ None
real_loads w n s real =
    let small : word_of w.dos (4 * n) < SEGMENT_SIZE = omega (arith, s.megabyte.bytes (4 * n), s.megabyte.bytes (4 * n + 1)) in
    rw (real, lt-ltb (word_of w.dos (4 * n)) SEGMENT_SIZE small) refl

-- in protected mode it depends on the descriptors and the vectors
abbrev protected_fault : List Row → List FarPtr → ℕ → Option Fault
protected_fault rows vectors n = load_fault rows Cs (vector_at vectors n).sel (vector_at vectors n).off false

protected_is : (w : World) (n : ℕ) → w.mode ≡ Protected → vector_fault w n ≡ protected_fault w.descriptors w.interrupt_vectors n
protected_is w n is = rw is refl

same_fault : (w u : World) (n : ℕ) → w.mode ≡ Protected → u.mode ≡ w.mode → u.descriptors ≡ w.descriptors →
    u.interrupt_vectors ≡ w.interrupt_vectors → vector_fault u n ≡ vector_fault w n
same_fault w u n protected mode rows vectors =
    protected_is u n (mode ∙ protected)
    ∙ ap (λ (r : List Row). protected_fault r u.interrupt_vectors n) rows
    ∙ ap (λ (v : List FarPtr). protected_fault w.descriptors v n) vectors
    ∙ sym (protected_is w n protected)

pushed_fault : (v : MachineView) (n : ℕ) → v.world.mode ≡ Protected → vector_fault (after_frame_push v).world n ≡ vector_fault v.world n
pushed_fault v n protected =
    let other : HasOtherMemory v.world (after_writes v (interrupt_push v.world).writes).world =
    other_all v (interrupt_push v.world).writes in
    same_fault v.world (after_frame_push v).world n protected (ap (λ (w : World). w.mode) other) (ap (λ (w : World). w.descriptors) other)
    (ap (λ (w : World). w.interrupt_vectors) other)

-- where the vector's load has a fault, so has the interrupt
fault_by_mode : (v : MachineView) (n : ℕ) (f : Fault) (m : Mode) → v.world.mode ≡ m →
    elim m as (λ _. Option Fault) [ Real ↦ None | Protected ↦ vector_fault v.world n ] ≡ Some f →
    vector_fault (after_frame_push v).world n ≡ Some f
fault_by_mode v n f Real is e = absurd cc
fault_by_mode v n f Protected is e = pushed_fault v n is ∙ e

not_entered : (o : Option Fault) (at : MachineView) (f : Fault) → o ≡ Some f →
    elim o as (λ _. Result MachineView Fault) [ Some g ↦ Err g | None ↦ Ok at ] ≡ Err f
not_entered None at f e = absurd cc
not_entered (Some g) at f e = cc

not_served : (o : Option Fault) (r : Result MachineView Fault) (f : Fault) → o ≡ None → r ≡ Err f →
    elim o as (λ _. Result MachineView Fault) [ Some g ↦ Err g | None ↦ r ] ≡ Err f
not_served None r f none e = e
not_served (Some g) r f none e = absurd cc

pub refused_by_vector : (v : MachineView) (n : ℕ) (f : Fault) → first_write_fault v.world (interrupt_push v.world).writes ≡ None →
    handler_fault v.world n ≡ Some f → after_interrupt_entry v n ≡ Err f
refused_by_vector v n f none e =
    not_served (first_write_fault v.world (interrupt_push v.world).writes)
    (after_handler_entry (after_frame_push v) (interrupt_vector (after_frame_push v).world n)) f none
    (not_entered (vector_fault (after_frame_push v).world n) _ f (fault_by_mode v n f v.world.mode refl e))

-- where it has none, the handler can be entered after the pushes
granted_by_mode : (v : MachineView) (n : ℕ) (m : Mode) → v.world.mode ≡ m → IsSound (after_frame_push v).world →
    elim m as (λ _. Option Fault) [ Real ↦ None | Protected ↦ vector_fault v.world n ] ≡ None →
    vector_fault (after_frame_push v).world n ≡ None
granted_by_mode v n Real is s e =
    real_loads (after_frame_push v).world n s (ap (λ (w : World). w.mode) (other_all v (interrupt_push v.world).writes) ∙ is)
granted_by_mode v n Protected is s e = pushed_fault v n is ∙ e

granted_after : (v : MachineView) (n : ℕ) → IsSound (after_frame_push v).world → handler_fault v.world n ≡ None →
    vector_fault (after_frame_push v).world n ≡ None
granted_after v n s e = granted_by_mode v n v.world.mode refl s e

pub granted_after_pushes : (v u : MachineView) (n : ℕ) (p : FarPtr) → u ≡ after_frame_push v → IsSound u.world →
    handler_fault v.world n ≡ None → p ≡ interrupt_vector u.world n → transfer_fault u.world p.sel p.off false ≡ None
granted_after_pushes v u n p same s e at =
    ap (λ (q : FarPtr). transfer_fault u.world q.sel q.off false) at
    ∙ ap (λ (t : MachineView). vector_fault t.world n) same
    ∙ granted_after v n (subst (λ (t : MachineView). IsSound t.world) same s) e
