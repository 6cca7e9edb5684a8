-- What a turn keeps: one record, and one lemma for each kind of turn.
use Rattle.std.proofs.Common.{rules, arith, ◌≡◌, ◌≢◌, ◌≤◌, ◌+◌, ◌*◌, ◌∙◌, sym, ap, subst, ℕ, Bool, true, false, List, [], ◌∷◌, ◌++◌, nat_eq}
use Rattle.std.proofs.Common.{refl, Option, None, Some, Ok, Err}
use Rattle.std.specs.{Prelude.{IfOk, is_ok, if◌then◌else◌}, declared.result.Result.{Result}}
use Rattle.client_world.specs.{declared.calls.Call.{Call}, declared.calls.Call.TheVariants.{Int, Far, Iret, Reflect}}
use Rattle.client_world.specs.{declared.calls.Record.{Record}, declared.calls.Record.TheVariants.{Sim, Back, Exc}}
use Rattle.client_world.specs.{declared.faults.Event.{Event}, declared.faults.Fault.{Fault}, declared.outcome.Exit.{Exit}}
use Rattle.client_world.specs.{declared.registers.Mode.{Mode}, declared.registers.Mode.TheVariants.{Real, Protected}}
use Rattle.client_world.specs.{declared.registers.Regs.{Regs}, declared.services.Carry.{Carry}, declared.services.Carry.TheVariants.{Clear}}
use Rattle.client_world.specs.{declared.services.Carry.TheVariants.{Set}, declared.services.DosDone.{DosDone}}
use Rattle.client_world.specs.{declared.trace.TraceLine.{TraceLine}, Registers.{high_byte, low_byte, low_half, with_low_half}}
use Rattle.client_world.specs.{Segments.{null_pointer}, Services.{Served, es_di, is_set}, Soundness.{IsSound}, World.{World, HostWorld}}
use Rattle.client_world.proofs.SoundWrites.{IsSound-regs}
use Rattle.callbacks.specs.{Callbacks.{enter_callback, leave_callback}, HandOver.{IsCallbackPopped}}
use Rattle.callbacks.proofs.{Started.{enter_pushes, leave_pops}, SoundEntries.{sound_enter, sound_leave}}
use Rattle.dos_calls.specs.{Calls.{CallResult, dos_call}, Multiplex.{multiplex_call}}
use Rattle.dos_calls.proofs.SoundCalls.{IsGood, call_keeps, multiplex_keeps}
use Rattle.interrupts.specs.Worlds.{world_step, world_interrupt, world_delivery, world_after_iret}
use Rattle.interrupts.proofs.KeptWorlds.{kept_world_delivery, kept_world_interrupt, kept_world_popped, kept_world_step}
use Rattle.interrupts.proofs.{ReturnPlans.{popped_where_it_fits}, SoundAnswers.{sound_world_delivery, sound_world_interrupt}}
use Rattle.interrupts.proofs.SoundAnswers.{sound_world_popped, sound_world_step}
use Rattle.guest_ram.specs.Bytes.{AreBytes}
use Rattle.service_rows.specs.Rows.{with_carry}
use Rattle.mode_gates.specs.{Entry.{entry}, FarFrames.{world_after_far_return}, Switches.{world_after_switch_to_protected}}
use Rattle.mode_gates.specs.Switches.{world_after_switch_to_real}
use Rattle.mode_gates.proofs.{FarStates.{kept_entry, kept_far}, SoundGates.{sound_entry, sound_world_far}, SwitchLaws.{sound_to_protected}}
use Rattle.mode_gates.proofs.SwitchLaws.{sound_to_real, to_protected_switches, to_real_switches}
use Rattle.mode_stack.specs.Stack.{top}
use Rattle.fault_service.specs.{Return.{exit_of_record}, Worlds.{world_exception_return, world_protected_delivery}}
use Rattle.translation.specs.{SimulatedCall.{begin_call, end_call, is_reflection, reflect}, HandOver.{IsPopped}}
use Rattle.translation.proofs.{Begun.{refused_world}, SoundCalls.{sound_begin, sound_reflect, sound_end}, KeptWorld.{begin_pushes}}
use Rattle.translation.proofs.KeptWorld.{end_pops, reflect_pushes}
use Rattle.host_run.specs.declared.vectors.TheConstants.{DOS_INTERRUPT, DPMI_INTERRUPT, MULTIPLEX_INTERRUPT, TERMINATE_INTERRUPT}
use Rattle.host_run.specs.{declared.traps.Trap.{Trap}, declared.traps.Trap.TheVariants.{RealVector, Entry, ToProtected, RealState}}
use Rattle.host_run.specs.declared.traps.Trap.TheVariants.{CallReturn, Callback, ProtectedVector, ExceptionHandler, ToReal, ProtectedState}
use Rattle.host_run.specs.{declared.traps.Trap.TheVariants.{ExceptionReturn, CallbackReturn, NoTrap}, Keys.{HasKeys}, Nested.{PushesRecord}}
use Rattle.host_run.specs.{Nested.{PopsRecord, Stacked, kept, popped as left_one, pushed}, RealCalls.{InterruptSource, ReflectedFrom}}
use Rattle.host_run.specs.{RealCalls.{StartsCall, StartsRealCall, from_client}, Families.{service}, Traps.{current_trap}, Turn.{Outcome}}
use Rattle.host_run.specs.Turn.{goes_on, ends, with_machine, with_trace_line, after_frame_pop, dos_call_state, after_dos_call}
use Rattle.host_run.specs.Turn.{after_multiplex_call, ends_client, after_default_vector, entry_line, after_entry, after_entry_trap}
use Rattle.host_run.specs.Turn.{after_switch_to_protected, is_exit_call, is_presence_call, asked_call, call_enter_line, call_leave_line}
use Rattle.host_run.specs.Turn.{call_of_record, after_begin, after_call_return, after_reflected_interrupt, after_service, goes_on_with}
use Rattle.host_run.specs.Turn.{after_presence_call, after_int31, after_protected_call, after_protected_pop, after_protected_vector}
use Rattle.host_run.specs.Turn.{enter_line, after_protected_delivery, exception_number, leave_line, after_exception_return, after_callback}
use Rattle.host_run.specs.Turn.{callback_slot, after_callback_return, after_exception_in_mode, after_interrupt, after_step}
use Rattle.host_run.specs.Turn.{after_next_instruction, after_trap, work, with_turn_counted, after_outcome, turn}
use Rattle.host_run.proofs.{Services.{plain_call, calls_service, sound_service}, Frames.{still_popped, popped_keeps_interrupts}}
use Rattle.host_run.proofs.{Growth.{work_grows}, NoTraps.{Suits, trap_suits}, RealCalls.{innermost_of}}
use Rattle.client_world.specs.declared.calls.What.TheVariants as whats
use Rattle.client_world.specs.declared.faults.Event.TheVariants as events
use Rattle.client_world.specs.declared.outcome.Exit.TheVariants as exits
use Rattle.client_world.specs.declared.services.DosDone.TheVariants as done
use Rattle.client_world.specs.declared.trace.TraceLine.TheVariants as lines
use Rattle.dos_calls.proofs.LeftCalls as left
use Rattle.fault_service.proofs.RoundTrip as faults

-- a host whose machine is sound and whose keys are bytes
pub record IsReached (h : HostWorld) : Type 0 where
  pub machine : IsSound h.machine
  pub keys : HasKeys h

-- the host after an exit is the one before, as far as the machine, the keystrokes and the console go
pub record LeavesAll (h after : HostWorld) (exit : Exit) : Type 0 where
  pub machine : after.machine ≡ h.machine
  pub outside : exit ≢ exits.ConsoleFull → (after.keys ≡ h.keys) × (after.console ≡ h.console)

abbrev pub LeavesBy : HostWorld → HostWorld → Option Exit → Type 0
LeavesBy h after None = Unit {0}
LeavesBy h after (Some exit) = LeavesAll h after exit

-- what work in a turn makes of a machine: a sound one with the same records of calls
pub record IsNext (w u : World) : Type 0 where
  pub sound : IsSound u
  pub calls : u.calls ≡ w.calls

-- what the work of a turn keeps
pub record TurnKeeps (source : InterruptSource) (h : HostWorld) (o : Outcome) : Type 0 where
  pub sound : IsSound o.host.machine
  pub calls : Stacked source h o.host
  pub keys : AreBytes o.host.keys
  pub lines : o.host.lines ≤ h.lines + 2
  pub leaves : LeavesBy h o.host o.exit

-- ---- how it is made

pub same_machine : (w : World) → IsSound w → IsNext w w
same_machine w sound = record { sound = sound; calls = refl }

-- the host that goes on has such a machine
goes : {source : InterruptSource} (h after : HostWorld) → IsNext h.machine after.machine → AreBytes after.keys →
    after.lines ≤ h.lines + 2 → TurnKeeps source h (goes_on after)
goes h after machine keys lines = record { sound = machine.sound; calls = kept machine.calls; keys = keys; lines = lines; leaves = tt }

goes_with : {source : InterruptSource} (h : HostWorld) (w : World) → IsReached h → IsNext h.machine w →
    TurnKeeps source h (goes_on (record h { machine = w }))
goes_with h w s next = goes h (record h { machine = w }) next s.keys (omega arith)

-- one that ends has its machine
stops : {source : InterruptSource} (h after : HostWorld) (exit : Exit) → IsReached h → AreBytes after.keys →
    after.lines ≤ h.lines + 2 → LeavesAll h after exit → TurnKeeps source h (ends after exit)
stops h after exit s keys lines leaves = record {
  sound = subst IsSound (sym leaves.machine) s.machine;
  calls = kept (ap (λ (x : World). x.calls) leaves.machine);
  keys = keys;
  lines = lines;
  leaves = leaves;
}

pub stops_same : {source : InterruptSource} (h : HostWorld) (exit : Exit) → IsReached h → TurnKeeps source h (ends h exit)
stops_same h exit s = stops h h exit s s.keys (omega arith) (record { machine = refl; outside = λ _. (refl, refl) })

stops_noted : (h : HostWorld) (line : TraceLine) (exit : Exit) → IsReached h → TurnKeeps from_client h (ends (with_trace_line line h) exit)
stops_noted h line exit s =
    stops h (with_trace_line line h) exit s s.keys (omega arith) (record { machine = refl; outside = λ _. (refl, refl) })

told_keeps : (h : HostWorld) (line : TraceLine) (w : World) → IsReached h → IsNext h.machine w →
    TurnKeeps from_client h (goes_on_with h line w)
told_keeps h line w s next = goes h (record (with_trace_line line h) { machine = w }) next s.keys (omega arith)

machine_keeps : {source : InterruptSource} (h : HostWorld) (r : Result World Exit) → IsReached h → IfOk r (IsNext h.machine) →
    TurnKeeps source h (with_machine h r)
machine_keeps h (Ok w) s next = goes_with h w s next
machine_keeps h (Err exit) s next = stops_same h exit s

if_keeps : (h : HostWorld) (b : Bool) (x y : Outcome) → TurnKeeps from_client h x → TurnKeeps from_client h y →
    TurnKeeps from_client h (if b then x else y)
if_keeps h true x y p q = p
if_keeps h false x y p q = q

-- the world of an answer, by what it is
pub answer_next : (E : Type 0) (w : World) (r : Result World E) → ((u : World) → r ≡ Ok u → IsNext w u) → IfOk r (IsNext w)
answer_next E w (Ok u) next = next u refl
answer_next E w (Err e) next = tt

pub with_regs_sound : (w : World) (r : Regs) → IsSound w → r.es ≡ w.regs.es → r.cs ≡ w.regs.cs → r.ss ≡ w.regs.ss → r.ds ≡ w.regs.ds →
    r.fs ≡ w.regs.fs → r.gs ≡ w.regs.gs → IsSound (record w { regs = r })
with_regs_sound w r s es cs ss ds fs gs = IsSound-regs w r s (
    let old = s.segments in let e = old.es in let c = old.cs in let k = old.ss in let d = old.ds in let f = old.fs in let g = old.gs in
    record { es = omega arith; cs = omega arith; ss = omega arith; ds = omega arith; fs = omega arith; gs = omega arith })

-- ---- the default vectors of real mode, where the frame can be popped

abbrev CanPop : HostWorld → Type 0
CanPop h = is_ok (world_after_iret h.machine) ≡ true

popped_keeps : (h after : HostWorld) (r : Result World Exit) → is_ok r ≡ true → IfOk r (IsNext h.machine) → AreBytes after.keys →
    after.lines ≤ h.lines + 2 → TurnKeeps from_client h (with_machine after r)
popped_keeps h after (Ok w) can next keys lines = goes h (record after { machine = w }) next keys lines
popped_keeps h after (Err exit) can next keys lines = absurd cc

next_popped : (w u : World) → IsNext w u → IfOk (world_after_iret u) (IsNext w)
next_popped w u next = answer_next Exit w (world_after_iret u) (λ t e. record {
  sound = sound_world_popped u t next.sound e;
  calls = ap (λ (x : World). x.calls) (kept_world_popped u t e) ∙ next.calls;
})

by_done : (h after : HostWorld) (r : CallResult) (d : DosDone) → r.done ≡ d → IsReached h → IsGood h.console r →
    left.Leaves (dos_call_state h) r →
    after.machine ≡ h.machine → after.lines ≤ h.lines + 2 → is_ok (world_after_iret r.world) ≡ true →
    TurnKeeps from_client h (elim d [
      | done.Served ↦ after_frame_pop (record after { machine = r.world; keys = r.keys; console = r.console })
      | done.Ended exit ↦ ends (record after { keys = r.keys; console = r.console }) exit
    ])
by_done h after r done.Served is s good call machine lines can =
    popped_keeps h (record after { machine = r.world; keys = r.keys; console = r.console }) (world_after_iret r.world) can
    (next_popped h.machine r.world (record { sound = good.world; calls = ap (λ (x : World). x.calls) call.rest }))
    good.keys lines
by_done h after r (done.Ended exit) is s good call machine lines can =
    stops h (record after { keys = r.keys; console = r.console }) exit s good.keys lines
    (record { machine = machine; outside = call.outside exit is })

dos_keeps : (h : HostWorld) → IsReached h → h.machine.mode ≡ Real → CanPop h → TurnKeeps from_client h (after_dos_call h)
dos_keeps h s real can =
    let state = dos_call_state h in
    let r = dos_call state in
    let call = left.call_leaves state in
    let good = call_keeps state (record { world = s.machine; keys = s.keys }) in
    by_done h (with_trace_line (lines.Int21 (high_byte h.machine.regs.eax)) h) r r.done refl s good call refl (omega arith)
    (still_popped popped_where_it_fits h.machine r.world s.machine good.world real (left.same_stack h.machine r.world call.rest) can)

multiplex_keeps_turn : (h : HostWorld) → IsReached h → h.machine.mode ≡ Real → CanPop h → TurnKeeps from_client h (after_multiplex_call h)
multiplex_keeps_turn h s real can =
    let w = multiplex_call h.machine in
    let sound = multiplex_keeps h.machine s.machine in
    let rest = left.multiplex_leaves h.machine in
    popped_keeps h (record (with_trace_line (lines.Int2f (low_half h.machine.regs.eax)) h) { machine = w }) (world_after_iret w)
    (still_popped popped_where_it_fits h.machine w s.machine sound real (left.same_stack h.machine w rest) can)
    (next_popped h.machine w (record { sound = sound; calls = ap (λ (x : World). x.calls) rest })) s.keys (omega arith)

vector_keeps : (h : HostWorld) (n : ℕ) → IsReached h → h.machine.mode ≡ Real → CanPop h → TurnKeeps from_client h (after_default_vector h n)
unfolding after_default_vector
vector_keeps h n s real can =
    if_keeps h (ends_client n) _ _ (stops_same h (exits.Fault n 0) s)
    (if_keeps h (nat_eq n TERMINATE_INTERRUPT) _ _ (stops_noted h lines.Int20 (exits.Exited 0) s)
    (if_keeps h (nat_eq n DOS_INTERRUPT) _ _ (dos_keeps h s real can)
    (if_keeps h (nat_eq n MULTIPLEX_INTERRUPT) _ _ (multiplex_keeps_turn h s real can)
    (machine_keeps h (world_after_iret h.machine) s (next_popped h.machine h.machine (same_machine h.machine s.machine))))))

reached_keeps : (h : HostWorld) (n : ℕ) (r : Result World Exit) → world_after_iret h.machine ≡ r → IsReached h → h.machine.mode ≡ Real →
    TurnKeeps from_client h (elim r [ Ok w ↦ after_default_vector h n | Err exit ↦ ends h exit ])
reached_keeps h n (Ok w) is s real = vector_keeps h n s real (ap (λ (r : Result World Exit). is_ok r) is)
reached_keeps h n (Err exit) is s real = stops_same h exit s

-- ---- the entry

entry_by : (h : HostWorld) (r : Result Served Exit) → IsReached h → ((s : Served) → r ≡ Ok s → IsNext h.machine s.world) →
    TurnKeeps from_client h (after_entry h r)
entry_by h (Ok s) reached next = told_keeps h (entry_line s.carry s.world) s.world reached (next s refl)
entry_by h (Err exit) reached next = stops_same h exit reached

entry_keeps : (h : HostWorld) → IsReached h → TurnKeeps from_client h (after_entry_trap h)
unfolding after_entry_trap
entry_keeps h s = entry_by h (entry h.machine) s (λ t e.
    record { sound = sound_entry h.machine t s.machine e; calls = ap (λ (x : World). x.calls) (kept_entry h.machine t e) })

-- ---- the raw switches, and the calls that save and restore the state

switch_by : (h : HostWorld) (r : Result World Exit) → IsReached h → ((w : World) → r ≡ Ok w → IsNext h.machine w) →
    TurnKeeps from_client h (after_switch_to_protected h r)
switch_by h (Ok w) s next = told_keeps h lines.ToProtected w s (next w refl)
switch_by h (Err exit) s next = stops_same h exit s

to_protected_keeps : (h : HostWorld) → IsReached h →
    TurnKeeps from_client h (after_switch_to_protected h (world_after_switch_to_protected h.machine))
to_protected_keeps h s = switch_by h (world_after_switch_to_protected h.machine) s (λ w e. record {
  sound = sound_to_protected h.machine w s.machine e;
  calls = ap (λ (x : World). x.calls) (to_protected_switches h.machine w e);
})

to_real_keeps : (h : HostWorld) → IsReached h → h.machine.mode ≡ Protected →
    TurnKeeps from_client h (goes_on_with h lines.ToReal (world_after_switch_to_real h.machine))
to_real_keeps h s mode = told_keeps h lines.ToReal (world_after_switch_to_real h.machine) s (record {
  sound = sound_to_real h.machine s.machine mode;
  calls = ap (λ (x : World). x.calls) (to_real_switches h.machine);
})

state_call_keeps : (h : HostWorld) → IsReached h → TurnKeeps from_client h (with_machine h (world_after_far_return h.machine))
state_call_keeps h s =
    let r = world_after_far_return h.machine in
    machine_keeps h r s (answer_next Exit h.machine r (λ w e. record {
      sound = sound_world_far h.machine w s.machine e;
      calls = ap (λ (x : World). x.calls) (kept_far h.machine w e);
    }))

-- ---- the default vectors of protected mode

-- other registers with the same segments
next_regs : (w u : World) (r : Regs) → IsNext w u → r.es ≡ u.regs.es → r.cs ≡ u.regs.cs → r.ss ≡ u.regs.ss → r.ds ≡ u.regs.ds →
    r.fs ≡ u.regs.fs → r.gs ≡ u.regs.gs → IsNext w (record u { regs = r })
next_regs w u r next es cs ss ds fs gs = record { sound = with_regs_sound u r next.sound es cs ss ds fs gs; calls = next.calls }

-- a turn that goes on and changes the records, with one or two lines of the trace more
goes_changed : {source : InterruptSource} (h after : HostWorld) → IsReached h → IsSound after.machine → Stacked source h after →
    after.keys ≡ h.keys → after.lines ≤ h.lines + 2 → TurnKeeps source h (goes_on after)
goes_changed h after s sound stacked keys lines = record {
  sound = sound;
  calls = stacked;
  keys = subst AreBytes (sym keys) s.keys;
  lines = lines;
  leaves = tt;
}

pub service_keeps : (h : HostWorld) (ax : ℕ) (r : Served) → IsReached h → IsNext h.machine r.world →
    TurnKeeps from_client h (after_service h ax r)
service_keeps h ax r s next =
    told_keeps h (lines.Int31 ax r.carry) (record r.world { regs = with_carry (is_set r.carry) r.world.regs }) s
    (next_regs h.machine r.world (with_carry (is_set r.carry) r.world.regs) next refl refl refl refl refl refl)

-- the machine that an interrupt of protected mode is served or reflected from: with its frame popped, where it pushed one
pub record IsServed (source : InterruptSource) (h : HostWorld) (w : World) : Type 0 where
  pub next : IsNext h.machine w
  pub mode : w.mode ≡ Protected
  pub was : h.machine.mode ≡ Protected
  pub vif : w.vif ≡ h.machine.vif
  pub from : ReflectedFrom source h.machine w

is_popped : (h : HostWorld) (w : World) → IsReached h → h.machine.mode ≡ Protected → world_after_iret h.machine ≡ Ok w →
    IsServed from_client h w
is_popped h w s mode pops =
    let same = kept_world_popped h.machine w pops in
    record {
      next = record { sound = sound_world_popped h.machine w s.machine pops; calls = ap (λ (x : World). x.calls) same };
      mode = ap (λ (x : World). x.mode) same ∙ mode;
      was = mode;
      vif = popped_keeps_interrupts h.machine w mode pops;
      from = pops;
    }

-- a call that the client asks for
record IsAsked (h : HostWorld) (w : World) (call : Call) : Type 0 where
  served : IsServed from_client h w
  asked : asked_call (low_half w.regs.eax) w ≡ Some call

started : (w v : HostWorld) (call : Call) (r : Record) → is_reflection call ≡ false → StartsCall w call r v →
    StartsRealCall from_client w call r v
started w v (Int n) r plain starts = starts
started w v Far r plain starts = starts
started w v Iret r plain starts = starts
started w v (Reflect n) r plain starts = absurd cc

abbrev served_with : World → Carry → Served
served_with w c = record { carry = c; world = w }

same_served : (s : Served) → s.carry ≡ Clear → s ≡ served_with s.world Clear
same_served s e = ap (served_with s.world) e

starts_call : (h : HostWorld) (w : World) (call : Call) → IsAsked h w call → (begin_call w call).carry ≡ Clear →
    Stacked from_client h (record
    (with_trace_line (call_enter_line w call (begin_call w call).world) (with_trace_line (lines.Int31 (low_half w.regs.eax) Clear) h))
    { machine = (begin_call w call).world })
starts_call h w call a clear =
    let r : Record = Sim call w.regs w.vif (es_di w) in
    let c = a.served in
    pushed r (begin_pushes w call clear ∙ ap (λ (calls : List Record). calls ++ r ∷ []) c.next.calls)
    (started h _ call r (plain_call (low_half w.regs.eax) w call a.asked) (record {
      popped = w;
      pops = c.from;
      mode = c.was;
      vif = c.vif;
      asked = a.asked;
      starts = same_served (begin_call w call) clear;
      keeps = refl;
      lines = (refl, refl);
    }))

begun_by : (h : HostWorld) (w : World) (call : Call) (c : Carry) → (begin_call w call).carry ≡ c → IsReached h → IsAsked h w call →
    TurnKeeps from_client h (if is_set c then after_service h (low_half w.regs.eax) (begin_call w call)
    else goes_on_with (with_trace_line (lines.Int31 (low_half w.regs.eax) Clear) h) (call_enter_line w call (begin_call w call).world)
    (begin_call w call).world)
begun_by h w call Set e s a =
    let next : IsNext h.machine (begin_call w call).world = record {
      sound = sound_begin w call a.served.next.sound a.served.mode;
      calls = ap (λ (x : World). x.calls) (refused_world w call e).1 ∙ a.served.next.calls;
    } in
    service_keeps h (low_half w.regs.eax) (begin_call w call) s next
begun_by h w call Clear e s a =
    goes_changed h (record
    (with_trace_line (call_enter_line w call (begin_call w call).world) (with_trace_line (lines.Int31 (low_half w.regs.eax) Clear) h))
    { machine = (begin_call w call).world }) s (sound_begin w call a.served.next.sound a.served.mode) (starts_call h w call a e) refl
    (omega arith)

int31_by : (h : HostWorld) (w : World) (o : Option Call) → asked_call (low_half w.regs.eax) w ≡ o → IsReached h → IsServed from_client h w →
    TurnKeeps from_client h (elim o [
      | Some call ↦ after_begin h (low_half w.regs.eax) w call (begin_call w call)
      | None ↦ after_service h (low_half w.regs.eax) (service (low_half w.regs.eax) w)
    ])
int31_by h w None is s c =
    let ax = low_half w.regs.eax in
    let after : IsNext h.machine (service ax w).world = record {
      sound = sound_service ax w c.next.sound c.mode;
      calls = calls_service ax w ∙ c.next.calls;
    } in
    service_keeps h ax (service ax w) s after
int31_by h w (Some call) is s c = begun_by h w call (begin_call w call).carry refl s (record { served = c; asked = is })

int31_keeps : (h : HostWorld) (w : World) → IsReached h → IsServed from_client h w → TurnKeeps from_client h (after_int31 h w)
int31_keeps h w s c = int31_by h w (asked_call (low_half w.regs.eax) w) refl s c

presence_keeps : (h : HostWorld) (w : World) → IsReached h → IsNext h.machine w → TurnKeeps from_client h (after_presence_call h w)
presence_keeps h w s next =
    let r : Regs = record w.regs { eax = with_low_half w.regs.eax 0 } in
    told_keeps h (lines.Int2f (low_half w.regs.eax)) (record w { regs = r }) s (next_regs h.machine w r next refl refl refl refl refl refl)

pub reflection_by : (source : InterruptSource) (h : HostWorld) (n : ℕ) (w : World) (r : Result World Exit) → reflect w n ≡ r → IsReached h →
    IsServed source h w → TurnKeeps source h (after_reflected_interrupt h n w r)
reflection_by source h n w (Ok v) is s c =
    let r : Record = Sim (Reflect n) w.regs w.vif null_pointer in
    goes_changed h (record (with_trace_line (call_enter_line w (Reflect n) v) h) { machine = v }) s
    (sound_reflect w v n c.next.sound c.mode is)
    (pushed r (reflect_pushes w v n is ∙ ap (λ (calls : List Record). calls ++ r ∷ []) c.next.calls)
    (record { client = w; from = c.from; mode = c.was; vif = c.vif; starts = is; keeps = refl; lines = (refl, refl) })) refl (omega arith)
reflection_by source h n w (Err exit) is s c = stops_same h exit s

protected_keeps : (h : HostWorld) (n : ℕ) (r : Result World Exit) → world_after_iret h.machine ≡ r → IsReached h →
    h.machine.mode ≡ Protected → TurnKeeps from_client h (after_protected_pop h n r)
unfolding after_protected_call
protected_keeps h n (Ok w) is s mode =
    let c = is_popped h w s mode is in
    if_keeps h (is_exit_call h.machine n) _ _
    (stops_noted h (lines.Int21 (high_byte h.machine.regs.eax)) (exits.Exited (low_byte h.machine.regs.eax)) s)
    (if_keeps h (is_presence_call h.machine n) _ _ (presence_keeps h w s c.next)
    (if_keeps h (nat_eq n DPMI_INTERRUPT) _ _ (int31_keeps h w s c) (reflection_by from_client h n w (reflect w n) refl s c)))
protected_keeps h n (Err exit) is s mode = stops_same h exit s

protected_vector_keeps : (h : HostWorld) (n : ℕ) → IsReached h → h.machine.mode ≡ Protected →
    TurnKeeps from_client h (after_protected_vector h n)
unfolding after_protected_vector
protected_vector_keeps h n s protected = protected_keeps h n (world_after_iret h.machine) refl s protected

-- ---- the return from a call of real mode

returned_line : (h : HostWorld) (w : World) (call : Call) → IsReached h → IsSound w → end_call h.machine ≡ Ok w →
    (p : IsPopped h.machine w) → call ≡ p.call → TurnKeeps from_client h (goes_on_with h (call_leave_line h.machine call w) w)
returned_line h w call s sound is p same =
    rw same (goes_changed h (record (with_trace_line (call_leave_line h.machine p.call w) h) { machine = w }) s sound
    (left_one (Sim p.call p.saved p.on p.at) p.popped (record { returns = is; lines = (refl, refl) })) refl (omega arith))

call_return_by : (h : HostWorld) (r : Result World Exit) → end_call h.machine ≡ r → IsReached h →
    TurnKeeps from_client h (after_call_return h r)
call_return_by h (Ok w) is s =
    let p = end_pops h.machine w is in
    returned_line h w (call_of_record (top h.machine)) s (sound_end h.machine w s.machine is) is p
    (ap call_of_record (innermost_of h.machine w.calls (Sim p.call p.saved p.on p.at) p.popped))
call_return_by h (Err exit) is s = stops_same h exit s

-- ---- exceptions of protected mode

delivery_by : {source : InterruptSource} (h : HostWorld) (f : Fault) (r : Result World Exit) → world_protected_delivery h.machine f ≡ r →
    IsReached h → h.machine.mode ≡ Protected → TurnKeeps source h (after_protected_delivery h f.number r)
delivery_by h f (Ok w) is s mode =
    goes_changed h (record (with_trace_line (enter_line h.machine (whats.Exc f.number)) h) { machine = w }) s
    (faults.sound_world_delivery h.machine w f s.machine mode is)
    (pushed (Exc f.number f.code) (faults.pushed_record h.machine w f is) (mode, is, (refl, refl))) refl (omega arith)
delivery_by h f (Err exit) is s mode = stops_same h exit s

popped_line : (h : HostWorld) (w : World) (n : ℕ) → IsReached h → IsSound w → world_exception_return h.machine ≡ Ok w →
    (p : faults.Popped h.machine.calls w.calls) → n ≡ p.number → TurnKeeps from_client h (goes_on_with h (leave_line w (whats.Exc n)) w)
popped_line h w n s sound is p same =
    rw same (goes_changed h (record (with_trace_line (leave_line w (whats.Exc p.number)) h) { machine = w }) s sound
    (left_one (Exc p.number p.code) p.is (is, (refl, refl))) refl (omega arith))

return_by : (h : HostWorld) (r : Result World Exit) → world_exception_return h.machine ≡ r → IsReached h →
    TurnKeeps from_client h (after_exception_return h r)
return_by h (Ok w) is s =
    let p = faults.popped_record h.machine w is in
    popped_line h w (exception_number (top h.machine)) s (faults.sound_world_return h.machine w s.machine is) is p
    (ap exception_number p.top_is)
return_by h (Err exit) is s = stops_same h exit s

-- ---- callbacks

callback_by : (h : HostWorld) (slot : ℕ) (r : Result World Exit) → enter_callback h.machine slot ≡ r → IsReached h →
    TurnKeeps from_client h (after_callback h slot r)
callback_by h slot (Ok w) is s =
    let p = enter_pushes h.machine w slot is in
    goes_changed h (record (with_trace_line (enter_line h.machine (whats.Back slot)) h) { machine = w }) s
    (sound_enter h.machine w slot s.machine is)
    (pushed (Back slot p.at) p.pushed (is, (refl, refl))) refl (omega arith)
callback_by h slot (Err exit) is s = stops_same h exit s

callback_line : (h : HostWorld) (w : World) (slot : ℕ) → IsReached h → IsSound w → leave_callback h.machine ≡ Ok w →
    (p : IsCallbackPopped h.machine w) → slot ≡ p.slot → TurnKeeps from_client h (goes_on_with h (leave_line w (whats.Back slot)) w)
callback_line h w slot s sound is p same =
    rw same (goes_changed h (record (with_trace_line (leave_line w (whats.Back p.slot)) h) { machine = w }) s sound
    (left_one (Back p.slot p.at) p.popped (is, (refl, refl))) refl (omega arith))

callback_return_by : (h : HostWorld) (r : Result World Exit) → leave_callback h.machine ≡ r → IsReached h →
    TurnKeeps from_client h (after_callback_return h r)
callback_return_by h (Ok w) is s =
    let p = leave_pops h.machine w is in
    callback_line h w (callback_slot (top h.machine)) s (sound_leave h.machine w s.machine is) is p
    (ap callback_slot (innermost_of h.machine w.calls (Back p.slot p.at) p.popped))
callback_return_by h (Err exit) is s = stops_same h exit s

-- ---- client instructions

-- whosever interrupts are reflected: an exception pushes no record of a reflection
pub delivered_keeps : {source : InterruptSource} (m : Mode) (h : HostWorld) (f : Fault) → IsReached h → h.machine.mode ≡ m →
    TurnKeeps source h (after_exception_in_mode m h f)
delivered_keeps Real h f s mode =
    let r = world_delivery h.machine f in
    machine_keeps h r s (answer_next Exit h.machine r (λ u e. record {
      sound = sound_world_delivery h.machine u f s.machine e;
      calls = ap (λ (x : World). x.calls) (kept_world_delivery h.machine u f e);
    }))
delivered_keeps Protected h f s mode = delivery_by h f (world_protected_delivery h.machine f) refl s mode

pub interrupted_keeps : {source : InterruptSource} (h : HostWorld) (r : Result World Fault) → IsReached h → IfOk r (IsNext h.machine) →
    TurnKeeps source h (after_interrupt h r)
interrupted_keeps h (Ok w) s next = goes_with h w s next
interrupted_keeps h (Err f) s next = delivered_keeps h.machine.mode h f s refl

after_keeps : (h : HostWorld) (r : Result World Event) → IsReached h → IfOk r (IsNext h.machine) → TurnKeeps from_client h (after_step h r)
after_keeps h (Ok w) s next = goes_with h w s next
after_keeps h (Err (events.Fault f)) s next = delivered_keeps h.machine.mode h f s refl
after_keeps h (Err (events.Soft number len)) s next =
    let r = world_interrupt h.machine number len in
    interrupted_keeps h r s (answer_next Fault h.machine r (λ u e. record {
      sound = sound_world_interrupt h.machine u number len s.machine e;
      calls = ap (λ (x : World). x.calls) (kept_world_interrupt h.machine u number len e);
    }))

stepped_keeps : (h : HostWorld) → IsReached h → TurnKeeps from_client h (after_next_instruction h)
unfolding after_next_instruction
stepped_keeps h s =
    let r = world_step h.machine in
    after_keeps h r s (answer_next Event h.machine r (λ u e. record {
      sound = sound_world_step h.machine u s.machine e;
      calls = ap (λ (x : World). x.calls) (kept_world_step h.machine u e);
    }))

-- ---- turns

trapped_keeps : (h : HostWorld) (t : Trap) → IsReached h → Suits h.machine.mode t → TurnKeeps from_client h (after_trap h t)
trapped_keeps h (RealVector n) s suits = reached_keeps h n (world_after_iret h.machine) refl s suits
trapped_keeps h Entry s suits = entry_keeps h s
trapped_keeps h ToProtected s suits = to_protected_keeps h s
trapped_keeps h RealState s suits = state_call_keeps h s
trapped_keeps h ToReal s suits = to_real_keeps h s suits
trapped_keeps h ProtectedState s suits = state_call_keeps h s
trapped_keeps h CallReturn s suits = call_return_by h (end_call h.machine) refl s
trapped_keeps h (Callback slot) s suits = callback_by h slot (enter_callback h.machine slot) refl s
trapped_keeps h (ProtectedVector n) s suits = protected_vector_keeps h n s suits
trapped_keeps h (ExceptionHandler n) s suits = stops_same h (exit_of_record (top h.machine)) s
trapped_keeps h ExceptionReturn s suits = return_by h (world_exception_return h.machine) refl s
trapped_keeps h CallbackReturn s suits = callback_return_by h (leave_callback h.machine) refl s
trapped_keeps h NoTrap s suits = stepped_keeps h s

work_keeps : (h : HostWorld) → IsReached h → TurnKeeps from_client h (work h)
unfolding work
work_keeps h s = trapped_keeps h (current_trap h.machine) s (trap_suits h.machine (current_trap h.machine) refl)

-- what a turn leads to: two more lines of the trace for each turn at most
pub record KeepsTurn (source : InterruptSource) (w after : HostWorld) : Type 0 where
  pub reached : IsReached after
  pub calls : Stacked source w after
  pub lines : after.lines + 2 * w.steps ≤ w.lines + 2 * after.steps
  pub leaves : LeavesBy w after after.exit

pub counted_reached : (w : HostWorld) → IsReached w → IsReached (with_turn_counted w)
counted_reached w s = record { machine = s.machine; keys = s.keys }

leaves_settled : (w : HostWorld) (host : HostWorld) (e : Option Exit) → LeavesBy (with_turn_counted w) host e →
    LeavesBy w (record host { exit = e }) e
leaves_settled w host None l = tt
leaves_settled w host (Some exit) l = record { machine = l.machine; outside = l.outside }

-- neither the count of turns nor the exit matters to the records
call_settled : (w after : HostWorld) (e : Option Exit) (call : Call) (r : Record) → StartsCall (with_turn_counted w) call r after →
    StartsCall w call r (record after { exit = e })
call_settled w after e call r h = search rules

starts_settled : (source : InterruptSource) (w after : HostWorld) (e : Option Exit) (call : Call) (r : Record) →
    StartsRealCall source (with_turn_counted w) call r after → StartsRealCall source w call r (record after { exit = e })
starts_settled source w after e (Int n) r h = call_settled w after e (Int n) r h
starts_settled source w after e Far r h = call_settled w after e Far r h
starts_settled source w after e Iret r h = call_settled w after e Iret r h
starts_settled source w after e (Reflect n) r h =
    record { client = h.client; from = h.from; mode = h.mode; vif = h.vif; starts = h.starts; keeps = h.keeps; lines = h.lines }

pushes_settled : (source : InterruptSource) (w after : HostWorld) (e : Option Exit) (r : Record) →
    PushesRecord source (with_turn_counted w) r after → PushesRecord source w r (record after { exit = e })
pushes_settled source w after e (Sim call saved vif at) h = starts_settled source w after e call (Sim call saved vif at) h
pushes_settled source w after e (Back slot at) h = h
pushes_settled source w after e (Exc number code) h = h

pops_settled : (w after : HostWorld) (e : Option Exit) (r : Record) → PopsRecord (with_turn_counted w) r after →
    PopsRecord w r (record after { exit = e })
pops_settled w after e (Sim call saved vif at) h = record { returns = h.returns; lines = h.lines }
pops_settled w after e (Back slot at) h = h
pops_settled w after e (Exc number code) h = h

stacked_settled : (source : InterruptSource) (w after : HostWorld) (e : Option Exit) → Stacked source (with_turn_counted w) after →
    Stacked source w (record after { exit = e })
stacked_settled source w after e (kept same) = kept same
stacked_settled source w after e (pushed r is h) = pushed r is (pushes_settled source w after e r h)
stacked_settled source w after e (left_one r is h) = left_one r is (pops_settled w after e r h)

pub settled_keeps : (source : InterruptSource) (w : HostWorld) (o : Outcome) → TurnKeeps source (with_turn_counted w) o →
    o.host.steps ≡ w.steps + 1 → KeepsTurn source w (after_outcome o)
settled_keeps source w o k steps = record {
  reached = record { machine = k.sound; keys = k.keys };
  calls = stacked_settled source w o.host o.exit k.calls;
  lines = omega (arith, k.lines, steps);
  leaves = leaves_settled w o.host o.exit k.leaves;
}

-- a world with an exit stays as it is
stays : (w : HostWorld) (exit : Exit) → w.exit ≡ Some exit → IsReached w → KeepsTurn from_client w w
stays w exit is s = record {
  reached = s;
  calls = kept refl;
  lines = omega arith;
  leaves = subst (LeavesBy w w) (sym is) (record { machine = refl; outside = λ _. (refl, refl) });
}

keeps_by : (w : HostWorld) (o : Option Exit) → w.exit ≡ o → IsReached w →
    KeepsTurn from_client w (elim o as (λ _. HostWorld) [ Some _ ↦ w | None ↦ after_outcome (work (with_turn_counted w)) ])
keeps_by w None is s =
    let counted = with_turn_counted w in
    settled_keeps from_client w (work counted) (work_keeps counted (counted_reached w s)) (work_grows counted).steps
keeps_by w (Some exit) is s = stays w exit is s

pub turn_keeps : (w : HostWorld) → IsReached w → KeepsTurn from_client w (turn w)
unfolding turn
turn_keeps w s = keeps_by w w.exit refl s
