-- Two matched turns hand over what the start and the return of a call or of an exception do, since the record of the first is that of the
-- second; a delivery leaves its frame at the handler's stack pointer, and a return takes what the frame then holds.
use Rattle.std.proofs.Common.{rules, ◌≡◌, ◌∙◌, ℕ, Bool, true, false, [], ap, refl, sym, Option, None, Some, Result, Ok, Err, inl, inr, ◌+◌}
use Rattle.std.proofs.{Common.{List, ◌∷◌, ◌++◌, subst}, lemmas.List.{same_from_push}}
use Rattle.std.specs.Prelude.{if◌then◌else◌}
use Rattle.client_world.specs.{declared.faults.Event.{Event}, declared.faults.Fault.{Fault}}
use Rattle.client_world.specs.{declared.registers.Mode.TheVariants.{Protected}, declared.segments.SegReg.TheVariants.{Cs, Ss}}
use Rattle.client_world.specs.{Loading.{load_fault}, Registers.{low_half}, Soundness.{IsSound}, World.{World, HostWorld}}
use Rattle.client_world.specs.{declared.calls.Call.{Call}, declared.calls.Call.TheVariants.{Int, Far, Iret, Reflect}}
use Rattle.client_world.specs.{declared.calls.Record.{Record}, declared.calls.Record.TheVariants.{Sim, Back, Exc}}
use Rattle.client_world.specs.{declared.segments.FarPtr.{FarPtr}, declared.services.Carry.TheVariants.{Clear}, Services.{Served, es_di}}
use Rattle.exec_flow.specs.Interrupts.{frame_bits}
use Rattle.interrupts.specs.Worlds.{view_without_bytes}
use Rattle.interrupts.proofs.SoundAnswers.{holds_of_world, sound_world_popped}
use Rattle.host_memory.specs.View.{MachineView}
use Rattle.insn_plan.specs.{Act.{Act, Input, Pending, Read, unless_fault, value_of}, Plan.{after_commit, after_plan, plan_result}}
use Rattle.insn_plan.specs.{Plan.{with_state}, Stack.{stack_item}}
use Rattle.mode_stack.specs.Stack.{after_pop, top}
use Rattle.fault_service.specs.{Delivery.{protected_delivery}, Return.{pending_of_exception_frame, exception_frame_pop, exception_return}}
use Rattle.fault_service.specs.{Return.{is_exception, result_of_exception_pop}, Worlds.{world_exception_return, world_protected_delivery}}
use Rattle.fault_service.proofs.{Plans.{settled_is}, RoundTrip.{frame_law}}
use Rattle.host_run.specs.{Exceptions.{HasDelivered, HasResumed}, HandOver.{HandsOver, HandsOverCall, HandsOverRealCall}, Keys.{HasKeys}}
use Rattle.host_run.specs.{Nested.{IsHandedOver, PopsRecord, PushesRecord}, RealCalls.{InterruptSource, ReflectedFrom, ReturnsFromCall}}
use Rattle.host_run.specs.{RealCalls.{StartsCall, StartsRealCall, from_anywhere, from_client, from_outside}, Run.{turns}}
use Rattle.callbacks.specs.HandOver.{HasEntered, HasLeft}
use Rattle.callbacks.proofs.SoundEntries.{has_entered, has_left}
use Rattle.host_run.proofs.Sound.{turns_sound}
use Rattle.translation.specs.{HandOver.{HasBegun, HasEnded}, SimulatedCall.{begin_call}, Structure.{structure_bytes}}
use Rattle.translation.proofs.HandedOver.{has_begun, has_reflected, has_ended}
use Rattle.client_world.specs.declared.outcome.Exit.TheVariants as exits

-- ---- a delivery

pub has_delivered : (w v : World) (f : Fault) → IsSound w → w.mode ≡ Protected → world_protected_delivery w f ≡ Ok v → HasDelivered w f v
unfolding world_protected_delivery
has_delivered w v f s mode e =
    holds_of_world (λ (x : World). HasDelivered w f x) (protected_delivery (view_without_bytes w) f) v
    (λ u is. frame_law (view_without_bytes w) u f s mode is) e

-- ---- a return

-- an act leaves that. A record, so that the act is found from what is said of it
record ActLeaves (w : World) (act : Act) (p : Pending) : Type 0 where
  is : plan_result w act ≡ Ok p

-- what it reads first, and then
record ReadsFirst (w : World) (input : Input) (rest : ℕ → Act) (p : Pending) : Type 0 where
  value : ℕ
  read : value_of w input ≡ Ok value
  next : ActLeaves w (rest value) p

reads_by : (w : World) (input : Input) (rest : ℕ → Act) (p : Pending) (r : Result ℕ Event) → value_of w input ≡ r →
    elim r as (λ _. Result Pending Event) [ Ok v ↦ plan_result w (rest v) | Err e ↦ Err e ] ≡ Ok p → ReadsFirst w input rest p
reads_by w input rest p (Ok v) is e = record { value = v; read = is; next = record { is = e } }
reads_by w input rest p (Err g) is e = absurd cc

reads_first : (w : World) (input : Input) (rest : ℕ → Act) (p : Pending) → ActLeaves w (Read input rest) p → ReadsFirst w input rest p
reads_first w input rest p leaves = reads_by w input rest p (value_of w input) refl leaves.is

no_fault : (w : World) (o : Option Fault) (act : Act) (p : Pending) → ActLeaves w (unless_fault o act) p → ActLeaves w act p
no_fault w None act p leaves = leaves
no_fault w (Some f) act p leaves = absurd (let e = leaves.is in cc)

-- the items that a return takes, and what it leaves
record TakesItems (w : World) (bits : ℕ) (p : Pending) : Type 0 where
  ip : ℕ
  cs : ℕ
  image : ℕ
  sp : ℕ
  ss : ℕ
  ip_left : value_of w (stack_item w bits 1) ≡ Ok ip
  cs_left : value_of w (stack_item w bits 2) ≡ Ok cs
  image_left : value_of w (stack_item w bits 3) ≡ Ok image
  sp_left : value_of w (stack_item w bits 4) ≡ Ok sp
  ss_left : value_of w (stack_item w bits 5) ≡ Ok ss
  is : p ≡ pending_of_exception_frame w ip (low_half cs) (low_half image) sp (low_half ss)

takes_items : (w : World) (bits : ℕ) (p : Pending) → ActLeaves w (exception_frame_pop w bits) p → TakesItems w bits p
unfolding exception_frame_pop
takes_items w bits p e =
    let code = reads_first w (stack_item w bits 0) _ p e in
    let ip = reads_first w (stack_item w bits 1) _ p code.next in
    let cs = reads_first w (stack_item w bits 2) _ p ip.next in
    let image = reads_first w (stack_item w bits 3) _ p cs.next in
    let sp = reads_first w (stack_item w bits 4) _ p image.next in
    let ss = reads_first w (stack_item w bits 5) _ p sp.next in
    let loads = no_fault w (load_fault w.descriptors Ss (low_half ss.value) 0 false) _ p
    (no_fault w (load_fault w.descriptors Cs (low_half cs.value) ip.value true) _ p ss.next) in
    record {
      ip = ip.value;
      cs = cs.value;
      image = image.value;
      sp = sp.value;
      ss = ss.value;
      ip_left = ip.read;
      cs_left = cs.read;
      image_left = image.read;
      sp_left = sp.read;
      ss_left = ss.read;
      is = (let same = loads.is in cc);
    }

resumed_by : (v u : MachineView) (p : Pending) → TakesItems v.world (frame_bits v.world) p →
    result_of_exception_pop (after_commit v p) ≡ Ok u → HasResumed v.world u.world
resumed_by v u p t e =
    let none : p.writes ≡ [] = ap (λ (x : Pending). x.writes) t.is in
    let is : Ok (after_pop (with_state p.regs p.vif v)) ≡ Ok u = ap result_of_exception_pop (sym (settled_is v p none)) ∙ e in
    let same : after_pop (with_state p.regs p.vif v) ≡ u = cc in
    let regs = ap (λ (x : MachineView). x.world.regs) (sym same) ∙ ap (λ (x : Pending). x.regs) t.is in
    let vif = ap (λ (x : MachineView). x.world.vif) (sym same) ∙ ap (λ (x : Pending). x.vif) t.is in
    search rules

resumed_of : (v u : MachineView) (r : Result Pending Event) → plan_result v.world (exception_frame_pop v.world (frame_bits v.world)) ≡ r →
    result_of_exception_pop (after_plan v r) ≡ Ok u → HasResumed v.world u.world
unfolding after_plan
resumed_of v u (Ok p) is e = resumed_by v u p (takes_items v.world (frame_bits v.world) p (record { is = is })) e
resumed_of v u (Err g) is e = absurd cc

resumed_where : (exception : Bool) (v u : MachineView) →
    (if exception then result_of_exception_pop (after_plan v (plan_result v.world (exception_frame_pop v.world (frame_bits v.world))))
    else Err exits.Stray) ≡ Ok u → HasResumed v.world u.world
resumed_where true v u e = resumed_of v u (plan_result v.world (exception_frame_pop v.world (frame_bits v.world))) refl e
resumed_where false v u e = absurd cc

machine_resumed : (v u : MachineView) → exception_return v ≡ Ok u → HasResumed v.world u.world
unfolding exception_return
machine_resumed v u e = resumed_where (is_exception (top v.world)) v u e

pub has_resumed : (w v : World) → world_exception_return w ≡ Ok v → HasResumed w v
unfolding world_exception_return
has_resumed w v e =
    holds_of_world (λ (x : World). HasResumed w x) (exception_return (view_without_bytes w)) v
    (λ u is. machine_resumed (view_without_bytes w) u is) e

-- ---- matched turns

-- a turn that adds a record, one that takes it away, and the records below it
record Matches (source : InterruptSource) (w v x y : HostWorld) (r : Record) : Type 0 where
  starts : IsSound w.machine
  ends : IsSound x.machine
  pushes : PushesRecord source w r v
  pops : PopsRecord x r y
  pushed : v.machine.calls ≡ w.machine.calls ++ r ∷ []
  innermost : x.machine.calls ≡ y.machine.calls ++ r ∷ []

same_record : (x y : HostWorld) (r : Record) → x.machine.calls ≡ y.machine.calls ++ r ∷ [] → (e : HasEnded x.machine y.machine) →
    Sim e.call e.saved e.on e.at ≡ r
same_record x y r innermost e =
    (same_from_push y.machine.calls y.machine.calls (Sim e.call e.saved e.on e.at) r (sym e.popped ∙ innermost)).1

same_place : (w v : HostWorld) (slot : ℕ) (at : FarPtr) → (e : HasEntered w.machine v.machine slot) →
    v.machine.calls ≡ w.machine.calls ++ Back slot at ∷ [] → e.at ≡ at
same_place w v slot at e pushed =
    let same = (same_from_push w.machine.calls w.machine.calls (Back slot e.at) (Back slot at) (sym e.pushed ∙ pushed)).1 in cc

begun_call : (w u : World) (call : Call) → IsSound w → begin_call w call ≡ record { carry = Clear; world = u } →
    HasBegun w u call (structure_bytes w (es_di w))
begun_call w u call s e =
    subst (λ (x : World). HasBegun w x call (structure_bytes w (es_di w))) (ap (λ (a : Served). a.world) e)
    (has_begun w call s (ap (λ (a : Served). a.carry) e))

call_by : (w v x y : HostWorld) (call : Call) (r : Record) → IsSound w.machine → IsSound x.machine → StartsCall w call r v →
    ReturnsFromCall x call y → x.machine.calls ≡ y.machine.calls ++ r ∷ [] → HandsOverCall w v x y call
call_by w v x y call r starts ends pushes pops innermost =
    let ended = has_ended x.machine y.machine ends pops.returns in
    record {
      popped = pushes.popped;
      pops = pushes.pops;
      vif = pushes.vif;
      begun = begun_call pushes.popped v.machine call (sound_world_popped w.machine pushes.popped starts pushes.pops) pushes.starts;
      ended = ended;
      same = same_record x y r innermost ended ∙ pushes.keeps;
      enter = pushes.lines;
      leave = pops.lines;
    }

-- the machine that an interrupt is reflected from is sound
sound_client : (source : InterruptSource) (w client : World) → IsSound w → ReflectedFrom source w client → IsSound client
sound_client from_client w client sound pops = sound_world_popped w client sound pops
sound_client from_outside w client sound same = subst IsSound (sym same) sound
sound_client from_anywhere w client sound (inl pops) = sound_world_popped w client sound pops
sound_client from_anywhere w client sound (inr same) = subst IsSound (sym same) sound

real_call_by : (source : InterruptSource) (w v x y : HostWorld) (call : Call) (r : Record) → IsSound w.machine → IsSound x.machine →
    StartsRealCall source w call r v → ReturnsFromCall x call y → x.machine.calls ≡ y.machine.calls ++ r ∷ [] →
    HandsOverRealCall source w v x y call
real_call_by source w v x y (Int n) r starts ends pushes pops innermost = call_by w v x y (Int n) r starts ends pushes pops innermost
real_call_by source w v x y Far r starts ends pushes pops innermost = call_by w v x y Far r starts ends pushes pops innermost
real_call_by source w v x y Iret r starts ends pushes pops innermost = call_by w v x y Iret r starts ends pushes pops innermost
real_call_by source w v x y (Reflect n) r starts ends pushes pops innermost =
    let ended = has_ended x.machine y.machine ends pops.returns in
    record {
      client = pushes.client;
      from = pushes.from;
      vif = pushes.vif;
      begun = has_reflected pushes.client v.machine n (sound_client source w.machine pushes.client starts pushes.from) pushes.starts;
      ended = ended;
      same = same_record x y r innermost ended ∙ pushes.keeps;
      enter = pushes.lines;
      leave = pops.lines;
    }

by_record : (source : InterruptSource) (w v x y : HostWorld) (r : Record) → Matches source w v x y r → HandsOver source w v x y r
by_record source w v x y (Sim call saved vif at) m =
    real_call_by source w v x y call (Sim call saved vif at) m.starts m.ends m.pushes m.pops m.innermost
by_record source w v x y (Back slot at) m = record {
  entered = entered;
  place = same_place w v slot at entered m.pushed;
  left = left;
  same = (same_from_push y.machine.calls y.machine.calls (Back left.slot left.at) (Back slot at) (sym left.popped ∙ m.innermost)).1;
  enter = m.pushes.1;
  leave = m.pops.1;
}
  where
    entered : HasEntered w.machine v.machine slot
    entered = has_entered w.machine v.machine slot m.starts m.pushes.0

    left : HasLeft x.machine y.machine
    left = has_left x.machine y.machine m.pops.0
by_record source w v x y (Exc number code) m = record {
  delivered = has_delivered w.machine v.machine (record { number = number; code = code }) m.starts m.pushes.0 m.pushes.1;
  resumed = has_resumed x.machine y.machine m.pops.0;
  enter = m.pushes.2;
  leave = m.pops.1;
}

pub hands_over : (source : InterruptSource) (w : ℕ → HostWorld) (i j : ℕ) → IsSound (w i).machine → IsSound (w j).machine →
    (h : IsHandedOver source w i j) → HandsOver source (w i) (w (i + 1)) (w j) (w (j + 1)) h.innermost
hands_over source w i j first last h = by_record source (w i) (w (i + 1)) (w j) (w (j + 1)) h.innermost (record {
  starts = first;
  ends = last;
  pushes = h.pushes;
  pops = h.pops;
  pushed = h.push;
  innermost = h.pop ∙ ap (λ (calls : List Record). calls ++ h.innermost ∷ []) (sym h.rest);
})

pub run_hands_over : (w : HostWorld) (i j : ℕ) → IsSound w.machine → HasKeys w → (h : IsHandedOver from_client (turns w) i j) →
    HandsOver from_client (turns w i) (turns w (i + 1)) (turns w j) (turns w (j + 1)) h.innermost
run_hands_over w i j s keys h = hands_over from_client (turns w) i j (turns_sound w i (record { machine = s; keys = keys })).machine
    (turns_sound w j (record { machine = s; keys = keys })).machine h
