-- Frames that can be popped, and those that can't; one that is popped in protected mode leaves the virtual interrupt flag.
use Rattle.std.proofs.Common.{◌≡◌, ◌≤◌, ℕ, List, length, true, false, nat_eq, nat_le, refl, sym, subst, ◌∙◌, ap, Ok, Err, Bool}
use Rattle.std.proofs.lemmas.Bool.{le-leb}
use Rattle.std.specs.{Prelude.{is_ok}, declared.result.Result.{Result}}
use Rattle.client_world.specs.{declared.faults.Event.{Event}, declared.outcome.Exit.{Exit}, declared.outcome.Exit.TheVariants.{BadFrame}}
use Rattle.client_world.specs.{declared.outcome.Exit.TheVariants.{Deep}, declared.registers.Mode.TheVariants.{Real, Protected}}
use Rattle.client_world.specs.{Soundness.{IsSound}, World.{World, HostWorld, depth}, declared.calls.Record.{Record}}
use Rattle.client_world.specs.{declared.limits.TheConstants.{GREATEST_DEPTH}, declared.registers.Mode.{Mode}, Loading.{transfer_fault}}
use Rattle.client_world.specs.Registers.{low_half}
use Rattle.interrupts.proofs.{KeptWorlds.{kept_world_popped}, ReturnPlans.{left, with_cs, with_image, with_ip}}
use Rattle.interrupts.proofs.SoundAnswers.{holds_of_world, return_was}
use Rattle.translation.specs.SimulatedCall.{reflect}
use Rattle.dos_calls.specs.Kept.{HasSameStack}
use Rattle.interrupts.specs.{Delivery.{after_iret, result_of_pop}, RealFrames.{frame_fits}, Worlds.{world_of_result, world_after_iret}}
use Rattle.interrupts.specs.Worlds.{view_without_bytes}
use Rattle.host_memory.specs.View.{MachineView}
use Rattle.host_run.specs.{declared.vectors.TheConstants.{DPMI_INTERRUPT}, Turn.{Outcome, ends, after_exit_call, after_protected_pop}}
use Rattle.host_run.specs.Turn.{after_protected_call, is_exit_call, is_presence_call, after_default_vector, after_real_vector}
use Rattle.exec_flow.specs.{FarTransfers.{far_transfer, interrupt_frame_pop}, FlagImages.{with_popped_flags}, Interrupts.{frame_bits}}
use Rattle.insn_plan.specs.{Act.{Pending}, Plan.{plan_result}, Stack.{stack_item}}
use Rattle.mode_gates.proofs.FarStates.{KeepsFlag, carried_flag, flag_read, flag_unless}

same_outcome : (r : Result MachineView Exit) → is_ok (world_of_result r) ≡ is_ok r
same_outcome (Ok v) = refl
same_outcome (Err e) = refl

-- the world determines whether it can
pub can_by_world : (v : MachineView) → world_of_result (after_iret v) ≡ world_after_iret v.world →
    is_ok (after_iret v) ≡ is_ok (world_after_iret v.world)
can_by_world v same = sym (same_outcome (after_iret v)) ∙ ap (λ (r : Result World Exit). is_ok r) same

abbrev reached : HostWorld → ℕ → Result MachineView Event → Outcome
reached h n r = elim (world_of_result (result_of_pop r)) [ Ok w ↦ after_default_vector h n | Err exit ↦ ends h exit ]

-- where it can the vector serves, else the client ends
by_frame : (h : HostWorld) (n : ℕ) (r : Result MachineView Event) →
    (is_ok (world_of_result (result_of_pop r)) ≡ true → reached h n r ≡ after_default_vector h n)
    × (is_ok (world_of_result (result_of_pop r)) ≡ false → reached h n r ≡ ends h BadFrame)
by_frame h n (Ok v) = (λ _. refl, λ e. cc)
by_frame h n (Err e) = (λ e. cc, λ _. refl)

pub reached_popped : (h : HostWorld) (n : ℕ) → is_ok (world_after_iret h.machine) ≡ true → after_real_vector h n ≡ after_default_vector h n
unfolding world_after_iret after_iret
reached_popped h n can = (by_frame h n _).0 can

pub reached_bad : (h : HostWorld) (n : ℕ) → is_ok (world_after_iret h.machine) ≡ false → after_real_vector h n ≡ ends h BadFrame
unfolding world_after_iret after_iret
reached_bad h n fails = (by_frame h n _).1 fails

-- of the default vectors of protected mode
bad_frame : (r : Result MachineView Event) → is_ok (world_of_result (result_of_pop r)) ≡ false →
    world_of_result (result_of_pop r) ≡ Err BadFrame
bad_frame (Ok v) e = absurd cc
bad_frame (Err f) e = refl

world_bad : (w : World) → is_ok (world_after_iret w) ≡ false → world_after_iret w ≡ Err BadFrame
unfolding world_after_iret after_iret
world_bad w e = bad_frame _ e

exit_by : (h : HostWorld) (n : ℕ) (r : Result World Exit) → is_exit_call h.machine n ≡ true → is_ok r ≡ true →
    after_protected_pop h n r ≡ after_exit_call h
unfolding after_protected_call
exit_by h n (Ok w) exit e = rw exit refl
exit_by h n (Err exit) is e = absurd cc

pub exit_popped : (h : HostWorld) (n : ℕ) → is_exit_call h.machine n ≡ true → is_ok (world_after_iret h.machine) ≡ true →
    after_protected_pop h n (world_after_iret h.machine) ≡ after_exit_call h
exit_popped h n exit can = exit_by h n (world_after_iret h.machine) exit can

pub popped_bad : (h : HostWorld) (n : ℕ) → is_ok (world_after_iret h.machine) ≡ false →
    after_protected_pop h n (world_after_iret h.machine) ≡ ends h BadFrame
popped_bad h n fails = ap (after_protected_pop h n) (world_bad h.machine fails)

-- an interrupt that is reflected, where calls are nested too deeply
deep_call : (h : HostWorld) (n : ℕ) (w : World) → is_exit_call h.machine n ≡ false → is_presence_call h.machine n ≡ false →
    nat_eq n DPMI_INTERRUPT ≡ false → w.calls ≡ h.machine.calls → GREATEST_DEPTH ≤ depth h.machine →
    after_protected_call h n w ≡ ends h Deep
unfolding after_protected_call reflect
deep_call h n w exit presence other calls deep =
    let much : nat_le GREATEST_DEPTH (depth w) ≡ true =
    le-leb GREATEST_DEPTH (depth w) (subst (λ (cs : List Record). GREATEST_DEPTH ≤ length cs) (sym calls) deep) in
    rw exit (rw presence (rw other (rw much refl)))

deep_by : (h : HostWorld) (n : ℕ) (r : Result World Exit) → world_after_iret h.machine ≡ r → is_exit_call h.machine n ≡ false →
    is_presence_call h.machine n ≡ false → nat_eq n DPMI_INTERRUPT ≡ false → GREATEST_DEPTH ≤ depth h.machine → is_ok r ≡ true →
    after_protected_pop h n r ≡ ends h Deep
deep_by h n (Ok w) is exit presence other deep can =
    deep_call h n w exit presence other (ap (λ (x : World). x.calls) (kept_world_popped h.machine w is)) deep
deep_by h n (Err e) is exit presence other deep can = absurd cc

pub popped_deep : (h : HostWorld) (n : ℕ) → is_exit_call h.machine n ≡ false → is_presence_call h.machine n ≡ false →
    nat_eq n DPMI_INTERRUPT ≡ false → GREATEST_DEPTH ≤ depth h.machine → is_ok (world_after_iret h.machine) ≡ true →
    after_protected_pop h n (world_after_iret h.machine) ≡ ends h Deep
popped_deep h n exit presence other deep can = deep_by h n (world_after_iret h.machine) refl exit presence other deep can

-- a service that leaves the mode and the place of the stack leaves a frame that can be popped one
pub still_popped : ((w : World) → IsSound w → w.mode ≡ Real → is_ok (world_after_iret w) ≡ frame_fits w.regs.esp) → (w u : World) →
    IsSound w → IsSound u → w.mode ≡ Real → HasSameStack w u → is_ok (world_after_iret w) ≡ true → is_ok (world_after_iret u) ≡ true
still_popped fits w u before after real same can =
    fits u after (same.mode ∙ real) ∙ ap frame_fits same.pointer ∙ sym (fits w before real) ∙ can

-- ---- the virtual interrupt flag

transfer_leaves : (w : World) (sel ip : ℕ) (return : Bool) (p : Pending) → p.vif ≡ w.vif →
    KeepsFlag w (plan_result w (far_transfer w sel ip return p))
unfolding far_transfer
transfer_leaves w sel ip return p same = flag_unless w (transfer_fault w sel ip return) _ same

by_mode : (mode : Mode) (popped on : Bool) → mode ≡ Protected → elim mode as (λ _. Bool) [ Real ↦ popped | Protected ↦ on ] ≡ on
by_mode Real popped on e = absurd cc
by_mode Protected popped on e = refl

flag_left : (w : World) (bits image : ℕ) → w.mode ≡ Protected → (left w bits image).vif ≡ w.vif
unfolding with_popped_flags
flag_left w bits image mode = by_mode w.mode _ w.vif mode

frame_leaves : (w : World) (bits : ℕ) → w.mode ≡ Protected → KeepsFlag w (plan_result w (interrupt_frame_pop w bits))
unfolding interrupt_frame_pop
frame_leaves w bits mode =
    flag_read w (stack_item w bits 0) (with_ip w bits) (λ ip.
    flag_read w (stack_item w bits 1) (with_cs w bits ip) (λ cs.
    flag_read w (stack_item w bits 2) (with_image w bits ip cs) (λ image.
    transfer_leaves w (low_half cs) ip true (left w bits image) (flag_left w bits image mode))))

machine_popped : (v u : MachineView) → v.world.mode ≡ Protected → after_iret v ≡ Ok u → u.world.vif ≡ v.world.vif
unfolding after_iret
machine_popped v u mode e = carried_flag v u _ (frame_leaves v.world (frame_bits v.world) mode) (return_was _ u e)

pub popped_keeps_interrupts : (w u : World) → w.mode ≡ Protected → world_after_iret w ≡ Ok u → u.vif ≡ w.vif
unfolding world_after_iret
popped_keeps_interrupts w u mode e =
    holds_of_world (λ (x : World). x.vif ≡ w.vif) (after_iret (view_without_bytes w)) u
    (λ v is. machine_popped (view_without_bytes w) v mode is) e
