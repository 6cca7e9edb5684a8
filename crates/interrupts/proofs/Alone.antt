-- What is made of a world doesn't depend on the bytes that hold it.
use Rattle.std.proofs.Common.{◌≡◌, ℕ, Bool, true, false, List, [], ◌∷◌, refl, ap, ◌∙◌, sym, Option, None, Some, Result, Ok, Err}
use Rattle.client_world.specs.{declared.faults.Event.{Event}, declared.faults.Event.TheVariants.{Fault as fault}}
use Rattle.client_world.specs.{declared.faults.Fault.{Fault}, declared.outcome.Exit.{Exit}, declared.outcome.Exit.TheVariants.{BadFrame}}
use Rattle.client_world.specs.{declared.registers.Regs.{Regs}, declared.segments.FarPtr.{FarPtr}, Loading.{transfer_fault}, World.{World}}
use Rattle.cpu_step.specs.Step.{view_with_next_eip, client_step, code, after_instruction, has_big_code, step_of}
use Rattle.exec_flow.specs.{FarTransfers.{code_selector, interrupt_frame_pop}, Interrupts.{frame_bits, interrupt_push}}
use Rattle.guest_space.specs.{declared.pending.Write.{Write}, Pending.{after_writes, first_write_fault, after_write}}
use Rattle.guest_space.specs.Transfer.{after_store, with_places}
use Rattle.host_memory.specs.View.{MachineView}
use Rattle.insn_decode.specs.{declared.decoding.Decoded.{Decoded}, declared.decoding.Decoded.TheVariants.{Whole, More, Invalid}}
use Rattle.insn_decode.specs.Decode.{decoded}
use Rattle.insn_forms.specs.declared.insn.Insn.{Insn}
use Rattle.insn_plan.specs.{Act.{Pending}, Plan.{after_plan, plan_result, after_commit, with_state}}
use Rattle.interrupts.specs.Delivery.{after_frame_push, after_handler_entry, handler_interrupts, has_real_vector, interrupt_of}
use Rattle.interrupts.specs.Delivery.{interrupt_vector, after_interrupt_entry, after_iret, result_of_pop, real_delivery, software_interrupt}
use Rattle.interrupts.specs.{Delivery.{exit_of_fault}, Worlds.{view_without_bytes, world_of_result, on_world, world_delivery}}
use Rattle.interrupts.specs.Worlds.{world_interrupt, world_after_iret, world_step}

-- ---- writes

written_alone : (v : MachineView) (x : Write) → (after_write v x).world ≡ (after_write (view_without_bytes v.world) x).world
unfolding after_write after_store with_places
written_alone v x = refl

same_written : (v u : MachineView) (x : Write) → v.world ≡ u.world → (after_write v x).world ≡ (after_write u x).world
same_written v u x same =
    written_alone v x ∙ ap (λ (w : World). (after_write (view_without_bytes w) x).world) same ∙ sym (written_alone u x)

all_same : (v u : MachineView) (xs : List Write) → v.world ≡ u.world → (after_writes v xs).world ≡ (after_writes u xs).world
unfolding after_writes
all_same v u [] same = same
all_same v u (x ∷ xs) same = all_same (after_write v x) (after_write u x) xs (same_written v u x same)

all_alone : (v : MachineView) (xs : List Write) → (after_writes v xs).world ≡ (after_writes (view_without_bytes v.world) xs).world
all_alone v xs = all_same v (view_without_bytes v.world) xs refl

-- ---- plans

settled_where : (o : Option Fault) (x y : MachineView) → x.world ≡ y.world →
    world_of_result (elim o [ Some f ↦ Err (fault f) | None ↦ Ok x ]) ≡ world_of_result (elim o [ Some f ↦ Err (fault f) | None ↦ Ok y ])
settled_where None x y same = ap (λ (w : World). Ok w) same
settled_where (Some f) x y same = refl

settled_alone : (v : MachineView) (p : Pending) →
    world_of_result (after_commit v p) ≡ world_of_result (after_commit (view_without_bytes v.world) p)
unfolding after_commit
settled_alone v p =
    settled_where (first_write_fault v.world p.writes) (with_state p.regs p.vif (after_writes v p.writes))
    (with_state p.regs p.vif (after_writes (view_without_bytes v.world) p.writes))
    (ap (λ (w : World). record w { regs = p.regs; vif = p.vif }) (all_alone v p.writes))

carried_alone : (v : MachineView) (r : Result Pending Event) →
    world_of_result (after_plan v r) ≡ world_of_result (after_plan (view_without_bytes v.world) r)
unfolding after_plan
carried_alone v (Ok p) = settled_alone v p
carried_alone v (Err e) = refl

-- ---- a step

executed_alone : (v : MachineView) (insn : Insn) (len : ℕ) →
    world_of_result (after_instruction v insn len) ≡ world_of_result (after_instruction (view_without_bytes v.world) insn len)
unfolding after_instruction
executed_alone v insn len = carried_alone (view_with_next_eip len v) _

step_of_alone : (v : MachineView) (d : Decoded) → world_of_result (step_of v d) ≡ world_of_result (step_of (view_without_bytes v.world) d)
step_of_alone v (Whole insn len) = executed_alone v insn len
step_of_alone v Invalid = refl
step_of_alone v More = refl

pub step_alone : (v : MachineView) → world_of_result (client_step v) ≡ world_step v.world
unfolding client_step world_step
step_alone v = step_of_alone v (decoded (has_big_code v.world) (code v.world))

-- ---- an interrupt

pushed_alone : (v : MachineView) → (after_frame_push v).world ≡ (after_frame_push (view_without_bytes v.world)).world
pushed_alone v = let p = interrupt_push v.world in ap (λ (w : World). record w { regs = p.regs; vif = p.vif }) (all_alone v p.writes)

served_where : (o : Option Fault) (x y : Result MachineView Fault) → world_of_result x ≡ world_of_result y →
    world_of_result (elim o [ Some f ↦ Err f | None ↦ x ]) ≡ world_of_result (elim o [ Some f ↦ Err f | None ↦ y ])
served_where None x y same = same
served_where (Some f) x y same = refl

entered_alone : (v : MachineView) (p : FarPtr) →
    world_of_result (after_handler_entry v p) ≡ world_of_result (after_handler_entry (view_without_bytes v.world) p)
entered_alone v p =
    let r : Regs = record v.world.regs { cs = code_selector v.world p.sel; eip = p.off } in
    served_where (transfer_fault v.world p.sel p.off false) (Ok (with_state r (handler_interrupts v.world) v))
    (Ok (with_state r (handler_interrupts v.world) (view_without_bytes v.world))) refl

handler_alone : (v : MachineView) (n : ℕ) → world_of_result (after_handler_entry v (interrupt_vector v.world n))
    ≡ on_world (λ u. after_handler_entry u (interrupt_vector u.world n)) v.world
handler_alone v n = entered_alone v (interrupt_vector v.world n)

served_alone : (v : MachineView) (n : ℕ) →
    world_of_result (after_handler_entry (after_frame_push v) (interrupt_vector (after_frame_push v).world n))
    ≡ world_of_result (after_handler_entry (after_frame_push (view_without_bytes v.world))
    (interrupt_vector (after_frame_push (view_without_bytes v.world)).world n))
served_alone v n =
    handler_alone (after_frame_push v) n
    ∙ ap (on_world (λ u. after_handler_entry u (interrupt_vector u.world n))) (pushed_alone v)
    ∙ sym (handler_alone (after_frame_push (view_without_bytes v.world)) n)

interrupted_alone : (v : MachineView) (n : ℕ) →
    world_of_result (after_interrupt_entry v n) ≡ world_of_result (after_interrupt_entry (view_without_bytes v.world) n)
interrupted_alone v n =
    served_where (first_write_fault v.world (interrupt_push v.world).writes)
    (after_handler_entry (after_frame_push v) (interrupt_vector (after_frame_push v).world n))
    (after_handler_entry (after_frame_push (view_without_bytes v.world))
    (interrupt_vector (after_frame_push (view_without_bytes v.world)).world n))
    (served_alone v n)

software_alone : (v : MachineView) (n len : ℕ) →
    world_of_result (software_interrupt v n len) ≡ world_of_result (software_interrupt (view_without_bytes v.world) n len)
unfolding software_interrupt
software_alone v n len = interrupted_alone (view_with_next_eip len v) n

pub interrupt_alone : (v : MachineView) (n len : ℕ) → world_of_result (software_interrupt v n len) ≡ world_interrupt v.world n len
unfolding world_interrupt
interrupt_alone v n len = software_alone v n len

-- ---- an exception

abbrev exit_of : Fault → Result World Fault → Result World Exit
exit_of f (Ok w) = Ok w
exit_of f (Err g) = Err (exit_of_fault f)

interrupt_of_alone : (f : Fault) (r : Result MachineView Fault) → world_of_result (interrupt_of f r) ≡ exit_of f (world_of_result r)
interrupt_of_alone f (Ok v) = refl
interrupt_of_alone f (Err g) = refl

delivered_by : (v : MachineView) (f : Fault) (served : Bool) → has_real_vector f.number ≡ served →
    world_of_result (real_delivery v f) ≡ world_of_result (real_delivery (view_without_bytes v.world) f)
unfolding real_delivery
delivered_by v f true e = rw e (interrupt_of_alone f _ ∙ ap (exit_of f) (software_alone v f.number 0) ∙ sym (interrupt_of_alone f _))
delivered_by v f false e = rw e refl

pub delivery_alone : (v : MachineView) (f : Fault) → world_of_result (real_delivery v f) ≡ world_delivery v.world f
unfolding world_delivery
delivery_alone v f = delivered_by v f (has_real_vector f.number) refl

-- ---- a return

abbrev good_or_bad : Result World Event → Result World Exit
good_or_bad (Ok w) = Ok w
good_or_bad (Err e) = Err BadFrame

popped_or_bad_alone : (r : Result MachineView Event) → world_of_result (result_of_pop r) ≡ good_or_bad (world_of_result r)
popped_or_bad_alone (Ok v) = refl
popped_or_bad_alone (Err e) = refl

-- whatever is popped
pub pop_alone : (v : MachineView) (plan : Result Pending Event) →
    world_of_result (result_of_pop (after_plan v plan)) ≡ world_of_result (result_of_pop (after_plan (view_without_bytes v.world) plan))
pop_alone v plan =
    popped_or_bad_alone (after_plan v plan) ∙ ap good_or_bad (carried_alone v plan)
    ∙ sym (popped_or_bad_alone (after_plan (view_without_bytes v.world) plan))

pub popped_alone : (v : MachineView) → world_of_result (after_iret v) ≡ world_after_iret v.world
unfolding after_iret world_after_iret
popped_alone v = pop_alone v (plan_result v.world (interrupt_frame_pop v.world (frame_bits v.world)))

-- ---- where an answer is known

pub interrupt_ok : (v u : MachineView) (n len : ℕ) → software_interrupt v n len ≡ Ok u → world_interrupt v.world n len ≡ Ok u.world
interrupt_ok v u n len e = sym (interrupt_alone v n len) ∙ ap world_of_result e

pub interrupt_err : (v : MachineView) (f : Fault) (n len : ℕ) → software_interrupt v n len ≡ Err f → world_interrupt v.world n len ≡ Err f
interrupt_err v f n len e = sym (interrupt_alone v n len) ∙ ap world_of_result e

pub delivery_ok : (v u : MachineView) (f : Fault) → real_delivery v f ≡ Ok u → world_delivery v.world f ≡ Ok u.world
delivery_ok v u f e = sym (delivery_alone v f) ∙ ap world_of_result e

pub delivery_err : (v : MachineView) (f : Fault) (exit : Exit) → real_delivery v f ≡ Err exit → world_delivery v.world f ≡ Err exit
delivery_err v f exit e = sym (delivery_alone v f) ∙ ap world_of_result e

pub popped_ok : (v u : MachineView) → after_iret v ≡ Ok u → world_after_iret v.world ≡ Ok u.world
popped_ok v u e = sym (popped_alone v) ∙ ap world_of_result e

pub popped_err : (v : MachineView) (exit : Exit) → after_iret v ≡ Err exit → world_after_iret v.world ≡ Err exit
popped_err v exit e = sym (popped_alone v) ∙ ap world_of_result e
