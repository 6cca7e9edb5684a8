-- An interrupt, an exception and a return lead from a sound world to a sound one.
use Rattle.std.proofs.Common.{◌≡◌, ℕ, ◌+◌, ◌*◌, ◌<◌, List, length, refl, subst, arith, if◌then◌else◌, Bool, true, false, Option, None, Some}
use Rattle.std.proofs.Common.{Result, Ok, Err}
use Rattle.std.specs.Prelude.{IfOk}
use Rattle.client_world.specs.{declared.faults.Event.{Event}, declared.faults.Fault.{Fault}}
use Rattle.client_world.specs.{declared.host_frames.TheConstants.{DESCRIPTORS}, declared.registers.Mode.{Mode}}
use Rattle.client_world.specs.{declared.registers.Mode.TheVariants.{Real, Protected}, declared.segments.FarPtr.{FarPtr}}
use Rattle.client_world.specs.{declared.segments.SegReg.TheVariants.{Cs}, Loading.{load_fault, transfer_fault}, Selector.{Row}}
use Rattle.client_world.specs.{Soundness.{IsSound}, World.{World}}
use Rattle.cpu_step.specs.Step.{view_with_next_eip, client_step}
use Rattle.cpu_step.proofs.{FlowSegments.{code_is_word, frame_leaves}, SegmentWords.{HoldWords, words_of, segments_of, words_pushed}}
use Rattle.cpu_step.proofs.SoundSteps.{sound_behind, sound_by_plan, sound_step, sound_all_written, sound_state}
use Rattle.exec_flow.specs.{FarTransfers.{code_selector, interrupt_frame_pop}, Interrupts.{frame_bits, interrupt_push}}
use Rattle.guest_space.specs.Pending.{after_writes, first_write_fault}
use Rattle.host_memory.specs.View.{MachineView}
use Rattle.insn_plan.specs.{Act.{unchanged}, Plan.{plan_result, after_plan, with_state}}
use Rattle.interrupts.specs.Delivery.{after_frame_push, after_handler_entry, handler_interrupts, has_real_vector, interrupt_of}
use Rattle.interrupts.specs.Delivery.{interrupt_vector, after_interrupt_entry, after_iret, result_of_pop, real_delivery, software_interrupt}
use Rattle.interrupts.specs.{Delivery.{exit_of_fault}, Worlds.{view_without_bytes, world_of_result, world_delivery, world_interrupt}}
use Rattle.interrupts.specs.Worlds.{world_after_iret, world_step}
use Rattle.client_world.proofs.NamedWords.{loaded_is_word}

-- ---- a selector that names a descriptor is a word

pub code_is_named_by_a_word : (rows : List Row) (sel offset : ℕ) (return : Bool) → length rows ≡ DESCRIPTORS →
    load_fault rows Cs sel offset return ≡ None → sel < 0x10000
code_is_named_by_a_word rows sel offset return size e = loaded_is_word rows Cs sel offset return size e

-- ---- an interrupt

-- the handler's segment, where it may be loaded, is a word: in real mode always
handler_by_mode : (m : Mode) (w : World) (n : ℕ) → IsSound w →
    transfer_fault (record w { mode = m }) (interrupt_vector (record w { mode = m }) n).sel (interrupt_vector (record w { mode = m }) n).off
    false ≡ None → (interrupt_vector (record w { mode = m }) n).sel < 0x10000
handler_by_mode Real w n s e = omega (arith, s.megabyte.bytes (4 * n + 2), s.megabyte.bytes (4 * n + 2 + 1))
handler_by_mode Protected w n s e = code_is_named_by_a_word w.descriptors _ _ false s.descriptors.indices e

handler_is_word : (w : World) (n : ℕ) → IsSound w →
    transfer_fault w (interrupt_vector w n).sel (interrupt_vector w n).off false ≡ None → (interrupt_vector w n).sel < 0x10000
handler_is_word w n s e = handler_by_mode w.mode w n s e

sound_at_handler : (v : MachineView) (p : FarPtr) → IsSound v.world → p.sel < 0x10000 →
    IsSound (with_state (record v.world.regs { cs = code_selector v.world p.sel; eip = p.off }) (handler_interrupts v.world) v).world
sound_at_handler v p s small =
    let r = record v.world.regs { cs = code_selector v.world p.sel; eip = p.off } in
    let words = words_of v.world.regs s.segments in
    let code = code_is_word v.world p.sel small in
    sound_state v (record (unchanged v.world) { regs = r; vif = handler_interrupts v.world }) (segments_of r assumption) s

sound_where_granted : (o : Option Fault) (at u : MachineView) → (o ≡ None → IsSound at.world) →
    elim o as (λ _. Result MachineView Fault) [ Some f ↦ Err f | None ↦ Ok at ] ≡ Ok u → IsSound u.world
sound_where_granted None at u s e = let same : at ≡ u = cc in subst (λ (m : MachineView). IsSound m.world) same (s refl)
sound_where_granted (Some f) at u s e = absurd cc

sound_entered : (v u : MachineView) (n : ℕ) → IsSound v.world → after_handler_entry v (interrupt_vector v.world n) ≡ Ok u → IsSound u.world
sound_entered v u n s e =
    let p = interrupt_vector v.world n in
    sound_where_granted (transfer_fault v.world p.sel p.off false)
    (with_state (record v.world.regs { cs = code_selector v.world p.sel; eip = p.off }) (handler_interrupts v.world) v) u
    (λ granted. sound_at_handler v p s (handler_is_word v.world n s granted)) e

pushed_words : (w : World) → HoldWords w.regs → HoldWords (interrupt_push w).regs
unfolding interrupt_push
pushed_words w s = words_pushed _ _ _ _ (words_pushed _ _ _ _ (words_pushed _ _ _ _ s))

sound_pushed : (v : MachineView) → IsSound v.world → IsSound (after_frame_push v).world
sound_pushed v s =
    let p = interrupt_push v.world in
    sound_state (after_writes v p.writes) p (segments_of p.regs (pushed_words v.world (words_of v.world.regs s.segments)))
    (sound_all_written v p.writes s)

-- what is answered where there is no fault
pub granted_was : {E : Type 0} (err : Fault → E) (o : Option Fault) (r : Result MachineView E) (u : MachineView) →
    elim o as (λ _. Result MachineView E) [ Some f ↦ Err (err f) | None ↦ r ] ≡ Ok u → r ≡ Ok u
granted_was err None r u e = e
granted_was err (Some f) r u e = absurd cc

sound_interrupted : (v u : MachineView) (n : ℕ) → IsSound v.world → after_interrupt_entry v n ≡ Ok u → IsSound u.world
sound_interrupted v u n s e =
    sound_entered (after_frame_push v) u n (sound_pushed v s)
    (granted_was (λ (f : Fault). f) (first_write_fault v.world (interrupt_push v.world).writes)
    (after_handler_entry (after_frame_push v) (interrupt_vector (after_frame_push v).world n)) u e)

pub sound_interrupt : (v u : MachineView) (n len : ℕ) → IsSound v.world → software_interrupt v n len ≡ Ok u → IsSound u.world
unfolding software_interrupt
sound_interrupt v u n len s e = sound_interrupted (view_with_next_eip len v) u n (sound_behind v len s) e

-- ---- an exception

interrupt_was : (f : Fault) (r : Result MachineView Fault) (u : MachineView) → interrupt_of f r ≡ Ok u → r ≡ Ok u
interrupt_was f (Ok v) u e = cc
interrupt_was f (Err g) u e = absurd cc

pub delivered_was : (served : Bool) (f : Fault) (r : Result MachineView Fault) (u : MachineView) →
    (if served then interrupt_of f r else Err (exit_of_fault f)) ≡ Ok u → r ≡ Ok u
delivered_was true f r u e = interrupt_was f r u e
delivered_was false f r u e = absurd cc

pub sound_delivery : (v u : MachineView) (f : Fault) → IsSound v.world → real_delivery v f ≡ Ok u → IsSound u.world
unfolding real_delivery
sound_delivery v u f s e =
    sound_interrupt v u f.number 0 s (delivered_was (has_real_vector f.number) f (software_interrupt v f.number 0) u e)

-- ---- a return

pub return_was : (r : Result MachineView Event) (u : MachineView) → result_of_pop r ≡ Ok u → r ≡ Ok u
return_was (Ok v) u e = cc
return_was (Err g) u e = absurd cc

pub sound_popped : (v u : MachineView) → IsSound v.world → after_iret v ≡ Ok u → IsSound u.world
unfolding after_iret
sound_popped v u s e =
    let act = interrupt_frame_pop v.world (frame_bits v.world) in
    sound_by_plan v u act (plan_result v.world act) refl (frame_leaves v.world (frame_bits v.world) (words_of v.world.regs s.segments)) s
    (return_was (after_plan v (plan_result v.world act)) u e)

-- ---- of worlds

-- what holds of each answer holds of its world
pub holds_of_world : {E : Type 0} (P : World → Type 0) (r : Result MachineView E) (u : World) →
    ((v : MachineView) → r ≡ Ok v → P v.world) → world_of_result r ≡ Ok u → P u
holds_of_world P (Ok v) u holds e = let same : v.world ≡ u = cc in subst P same (holds v refl)
holds_of_world P (Err g) u holds e = absurd cc

-- what holds of the answer that was found holds of the one that is given
pub holds_of_answer : {E : Type 0} (P : MachineView → Type 0) (r : Result MachineView E) (u : MachineView) → IfOk r P → r ≡ Ok u → P u
holds_of_answer P (Ok v) u holds e = let same : v ≡ u = cc in subst P same holds
holds_of_answer P (Err g) u holds e = absurd cc

pub sound_world_step : (w u : World) → IsSound w → world_step w ≡ Ok u → IsSound u
unfolding world_step
sound_world_step w u s e = holds_of_world IsSound (client_step (view_without_bytes w)) u (λ v. sound_step (view_without_bytes w) v s) e

pub sound_world_interrupt : (w u : World) (n len : ℕ) → IsSound w → world_interrupt w n len ≡ Ok u → IsSound u
unfolding world_interrupt
sound_world_interrupt w u n len s e =
    holds_of_world IsSound (software_interrupt (view_without_bytes w) n len) u (λ v. sound_interrupt (view_without_bytes w) v n len s) e

pub sound_world_delivery : (w u : World) (f : Fault) → IsSound w → world_delivery w f ≡ Ok u → IsSound u
unfolding world_delivery
sound_world_delivery w u f s e =
    holds_of_world IsSound (real_delivery (view_without_bytes w) f) u (λ v. sound_delivery (view_without_bytes w) v f s) e

pub sound_world_popped : (w u : World) → IsSound w → world_after_iret w ≡ Ok u → IsSound u
unfolding world_after_iret
sound_world_popped w u s e = holds_of_world IsSound (after_iret (view_without_bytes w)) u (λ v. sound_popped (view_without_bytes w) v s) e
