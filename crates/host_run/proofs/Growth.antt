-- What a turn makes of the console and of the count of turns, whatever the world: it adds to the console at its end alone, and is counted
-- once.
use Rattle.std.proofs.Common.{arith, ◌≡◌, ◌∙◌, ◌≤◌, ◌+◌, ◌-◌, ◌++◌, sym, ap, subst, ℕ, zero, suc, Bool, true, false, List, nat_eq, add-suc}
use Rattle.std.proofs.Common.{add-zero, append_assoc, refl, Option, None, Some, Ok, Err}
use Rattle.std.specs.{Prelude.{if◌then◌else◌}, declared.result.Result.{Result}}
use Rattle.client_world.specs.{declared.calls.Call.{Call}, declared.faults.Event.{Event}, declared.faults.Fault.{Fault}}
use Rattle.client_world.specs.{declared.outcome.Exit.{Exit}, declared.registers.Mode.{Mode}, declared.registers.Mode.TheVariants.{Real}}
use Rattle.client_world.specs.{declared.registers.Mode.TheVariants.{Protected}, declared.services.Carry.{Carry}}
use Rattle.client_world.specs.{declared.services.Carry.TheVariants.{Clear, Set}, declared.services.DosDone.{DosDone}, Registers.{high_byte}}
use Rattle.client_world.specs.{Registers.{low_half}, Services.{Served, is_set}, World.{World, HostWorld}, Console.{Extends}}
use Rattle.callbacks.specs.Callbacks.{enter_callback, leave_callback}
use Rattle.dos_calls.specs.{Calls.{CallResult, dos_call}, Multiplex.{multiplex_call}}
use Rattle.interrupts.specs.Worlds.{world_step, world_interrupt, world_delivery, world_after_iret}
use Rattle.mode_gates.specs.{Entry.{entry}, FarFrames.{world_after_far_return}, Switches.{world_after_switch_to_protected}}
use Rattle.fault_service.specs.Worlds.{world_exception_return, world_protected_delivery}
use Rattle.translation.specs.SimulatedCall.{begin_call, end_call, reflect}
use Rattle.host_run.specs.declared.vectors.TheConstants.{DOS_INTERRUPT, DPMI_INTERRUPT, MULTIPLEX_INTERRUPT, TERMINATE_INTERRUPT}
use Rattle.host_run.specs.{declared.traps.Trap.{Trap}, declared.traps.Trap.TheVariants.{RealVector, Entry, ToProtected, RealState}}
use Rattle.host_run.specs.declared.traps.Trap.TheVariants.{CallReturn, Callback, ProtectedVector, ExceptionHandler, ToReal, ProtectedState}
use Rattle.host_run.specs.{declared.traps.Trap.TheVariants.{ExceptionReturn, CallbackReturn, NoTrap}, Run.{turns, run}, Families.{service}}
use Rattle.host_run.specs.{Traps.{current_trap}, Turn.{Outcome, ends, with_machine, with_trace_line, after_frame_pop, dos_call_state}}
use Rattle.host_run.specs.Turn.{after_dos_call, after_multiplex_call, ends_client, after_default_vector, after_entry, after_entry_trap}
use Rattle.host_run.specs.Turn.{after_switch_to_protected, is_exit_call, is_presence_call, asked_call, call_enter_line, after_begin}
use Rattle.host_run.specs.Turn.{after_call_return, after_reflected_interrupt, after_service, goes_on_with, after_int31}
use Rattle.host_run.specs.Turn.{after_protected_call, after_protected_pop, after_protected_vector, after_protected_delivery}
use Rattle.host_run.specs.Turn.{after_exception_return, after_callback, after_callback_return, after_exception, after_exception_in_mode}
use Rattle.host_run.specs.Turn.{after_interrupt, after_step, after_next_instruction, after_trap, work, with_turn_counted, after_outcome}
use Rattle.host_run.specs.Turn.{turn}
use Rattle.client_world.specs.declared.faults.Event.TheVariants as events
use Rattle.client_world.specs.declared.outcome.Exit.TheVariants as exits
use Rattle.client_world.specs.declared.services.DosDone.TheVariants as done
use Rattle.client_world.specs.declared.trace.TraceLine.TheVariants as lines
use Rattle.dos_calls.proofs.LeftCalls as left

-- what the work of a turn makes of both
pub record Grows (h : HostWorld) (o : Outcome) : Type 0 where
  pub console : Extends h.console o.host.console
  pub steps : o.host.steps ≡ h.steps

-- ---- how it is made

-- the work writes nothing
still : (h : HostWorld) (o : Outcome) → o.host.console ≡ h.console → o.host.steps ≡ h.steps → Grows h o
still h o console steps = record { console = subst (Extends h.console) (sym console) (left.extends_itself h.console); steps = steps }

if_grows : (h : HostWorld) (b : Bool) (x y : Outcome) → Grows h x → Grows h y → Grows h (if b then x else y)
if_grows h true x y p q = p
if_grows h false x y p q = q

machine_grows : (h after : HostWorld) (r : Result World Exit) → Extends h.console after.console → after.steps ≡ h.steps →
    Grows h (with_machine after r)
machine_grows h after (Ok w) console steps = record { console = console; steps = steps }
machine_grows h after (Err exit) console steps = record { console = console; steps = steps }

with_machine_grows : (h : HostWorld) (r : Result World Exit) → Grows h (with_machine h r)
with_machine_grows h r = machine_grows h h r (left.extends_itself h.console) refl

-- ---- the default vectors of real mode

by_done : (h after : HostWorld) (r : CallResult) (d : DosDone) → left.Leaves (dos_call_state h) r → after.steps ≡ h.steps →
    Grows h (elim d [
      | done.Served ↦ after_frame_pop (record after { machine = r.world; keys = r.keys; console = r.console })
      | done.Ended exit ↦ ends (record after { keys = r.keys; console = r.console }) exit
    ])
by_done h after r done.Served call steps =
    machine_grows h (record after { machine = r.world; keys = r.keys; console = r.console }) (world_after_iret r.world) call.console steps
by_done h after r (done.Ended exit) call steps = record { console = call.console; steps = steps }

dos_grows : (h : HostWorld) → Grows h (after_dos_call h)
dos_grows h =
    let r = dos_call (dos_call_state h) in
    by_done h (with_trace_line (lines.Int21 (high_byte h.machine.regs.eax)) h) r r.done (left.call_leaves (dos_call_state h)) refl

multiplex_grows : (h : HostWorld) → Grows h (after_multiplex_call h)
multiplex_grows h =
    let w = multiplex_call h.machine in
    machine_grows h (record (with_trace_line (lines.Int2f (low_half h.machine.regs.eax)) h) { machine = w }) (world_after_iret w)
    (left.extends_itself h.console) refl

vector_grows : (h : HostWorld) (n : ℕ) → Grows h (after_default_vector h n)
unfolding after_default_vector
vector_grows h n =
    if_grows h (ends_client n) _ _ (still h _ refl refl)
    (if_grows h (nat_eq n TERMINATE_INTERRUPT) _ _ (still h _ refl refl)
    (if_grows h (nat_eq n DOS_INTERRUPT) _ _ (dos_grows h)
    (if_grows h (nat_eq n MULTIPLEX_INTERRUPT) _ _ (multiplex_grows h) (with_machine_grows h (world_after_iret h.machine)))))

reached_grows : (h : HostWorld) (n : ℕ) (r : Result World Exit) →
    Grows h (elim r [ Ok w ↦ after_default_vector h n | Err exit ↦ ends h exit ])
reached_grows h n (Ok w) = vector_grows h n
reached_grows h n (Err exit) = still h _ refl refl

-- ---- the entry and the raw switches

entry_grows : (h : HostWorld) (r : Result Served Exit) → Grows h (after_entry h r)
entry_grows h (Ok s) = still h _ refl refl
entry_grows h (Err exit) = still h _ refl refl

switch_grows : (h : HostWorld) (r : Result World Exit) → Grows h (after_switch_to_protected h r)
switch_grows h (Ok w) = still h _ refl refl
switch_grows h (Err exit) = still h _ refl refl

entry_trap_grows : (h : HostWorld) → Grows h (after_entry_trap h)
unfolding after_entry_trap
entry_trap_grows h = entry_grows h (entry h.machine)

-- ---- the default vectors of protected mode

begun_grows : (h : HostWorld) (ax : ℕ) (w : World) (call : Call) (s : Served) (c : Carry) → Grows h (if is_set c then after_service h ax s
    else goes_on_with (with_trace_line (lines.Int31 ax Clear) h) (call_enter_line w call s.world) s.world)
begun_grows h ax w call s Clear = still h _ refl refl
begun_grows h ax w call s Set = still h _ refl refl

int31_by : (h : HostWorld) (w : World) (ax : ℕ) (o : Option Call) →
    Grows h (elim o [ Some call ↦ after_begin h ax w call (begin_call w call) | None ↦ after_service h ax (service ax w) ])
int31_by h w ax (Some call) = begun_grows h ax w call (begin_call w call) (begin_call w call).carry
int31_by h w ax None = still h _ refl refl

int31_grows : (h : HostWorld) (w : World) → Grows h (after_int31 h w)
int31_grows h w = int31_by h w (low_half w.regs.eax) (asked_call (low_half w.regs.eax) w)

pub reflection_grows : (h : HostWorld) (n : ℕ) (w : World) (r : Result World Exit) → Grows h (after_reflected_interrupt h n w r)
reflection_grows h n w (Ok v) = still h _ refl refl
reflection_grows h n w (Err exit) = still h _ refl refl

protected_grows : (h : HostWorld) (n : ℕ) (r : Result World Exit) → Grows h (after_protected_pop h n r)
unfolding after_protected_call
protected_grows h n (Ok w) =
    if_grows h (is_exit_call h.machine n) _ _ (still h _ refl refl)
    (if_grows h (is_presence_call h.machine n) _ _ (still h _ refl refl)
    (if_grows h (nat_eq n DPMI_INTERRUPT) _ _ (int31_grows h w) (reflection_grows h n w (reflect w n))))
protected_grows h n (Err exit) = still h _ refl refl

protected_vector_grows : (h : HostWorld) (n : ℕ) → Grows h (after_protected_vector h n)
unfolding after_protected_vector
protected_vector_grows h n = protected_grows h n (world_after_iret h.machine)

-- ---- returns, callbacks and exceptions

call_return_grows : (h : HostWorld) (r : Result World Exit) → Grows h (after_call_return h r)
call_return_grows h (Ok w) = still h _ refl refl
call_return_grows h (Err exit) = still h _ refl refl

callback_grows : (h : HostWorld) (slot : ℕ) (r : Result World Exit) → Grows h (after_callback h slot r)
callback_grows h slot (Ok w) = still h _ refl refl
callback_grows h slot (Err exit) = still h _ refl refl

callback_return_grows : (h : HostWorld) (r : Result World Exit) → Grows h (after_callback_return h r)
callback_return_grows h (Ok w) = still h _ refl refl
callback_return_grows h (Err exit) = still h _ refl refl

delivery_grows : (h : HostWorld) (number : ℕ) (r : Result World Exit) → Grows h (after_protected_delivery h number r)
delivery_grows h number (Ok w) = still h _ refl refl
delivery_grows h number (Err exit) = still h _ refl refl

exception_return_grows : (h : HostWorld) (r : Result World Exit) → Grows h (after_exception_return h r)
exception_return_grows h (Ok w) = still h _ refl refl
exception_return_grows h (Err exit) = still h _ refl refl

-- ---- client instructions

delivered_by : (mode : Mode) (h : HostWorld) (f : Fault) → Grows h (after_exception_in_mode mode h f)
delivered_by Real h f = with_machine_grows h (world_delivery h.machine f)
delivered_by Protected h f = delivery_grows h f.number (world_protected_delivery h.machine f)

pub delivered_grows : (h : HostWorld) (f : Fault) → Grows h (after_exception h f)
delivered_grows h f = delivered_by h.machine.mode h f

pub interrupt_grows : (h : HostWorld) (r : Result World Fault) → Grows h (after_interrupt h r)
interrupt_grows h (Ok w) = still h _ refl refl
interrupt_grows h (Err f) = delivered_grows h f

step_grows : (h : HostWorld) (r : Result World Event) → Grows h (after_step h r)
step_grows h (Ok w) = still h _ refl refl
step_grows h (Err (events.Fault f)) = delivered_grows h f
step_grows h (Err (events.Soft number len)) = interrupt_grows h (world_interrupt h.machine number len)

stepped_grows : (h : HostWorld) → Grows h (after_next_instruction h)
unfolding after_next_instruction
stepped_grows h = step_grows h (world_step h.machine)

-- ---- turns

trapped_grows : (h : HostWorld) (t : Trap) → Grows h (after_trap h t)
trapped_grows h (RealVector n) = reached_grows h n (world_after_iret h.machine)
trapped_grows h Entry = entry_trap_grows h
trapped_grows h ToProtected = switch_grows h (world_after_switch_to_protected h.machine)
trapped_grows h RealState = with_machine_grows h (world_after_far_return h.machine)
trapped_grows h CallReturn = call_return_grows h (end_call h.machine)
trapped_grows h (Callback slot) = callback_grows h slot (enter_callback h.machine slot)
trapped_grows h (ProtectedVector n) = protected_vector_grows h n
trapped_grows h (ExceptionHandler n) = still h _ refl refl
trapped_grows h ToReal = still h _ refl refl
trapped_grows h ProtectedState = with_machine_grows h (world_after_far_return h.machine)
trapped_grows h ExceptionReturn = exception_return_grows h (world_exception_return h.machine)
trapped_grows h CallbackReturn = callback_return_grows h (leave_callback h.machine)
trapped_grows h NoTrap = stepped_grows h

pub work_grows : (h : HostWorld) → Grows h (work h)
unfolding work
work_grows h = trapped_grows h (current_trap h.machine)

-- what a turn makes of both: without an exit it is counted
record TurnGrows (w after : HostWorld) (o : Option Exit) : Type 0 where
  console : Extends w.console after.console
  counted : o ≡ None → after.steps ≡ w.steps + 1
  most : after.steps ≤ w.steps + 1

by_exit : (w : HostWorld) (o : Option Exit) →
    TurnGrows w (elim o as (λ _. HostWorld) [ Some _ ↦ w | None ↦ after_outcome (work (with_turn_counted w)) ]) o
by_exit w None =
    let g = work_grows (with_turn_counted w) in
    record { console = g.console; counted = λ _. g.steps; most = omega (arith, g.steps) }
by_exit w (Some exit) = record { console = left.extends_itself w.console; counted = λ none. absurd cc; most = omega arith }

turn_grows : (w : HostWorld) → TurnGrows w (turn w) w.exit
unfolding turn
turn_grows w = by_exit w w.exit

pub turn_counted : (w : HostWorld) → w.exit ≡ None → (turn w).steps ≡ w.steps + 1
turn_counted w none = (turn_grows w).counted none

pub turn_console : (w : HostWorld) → Extends w.console (turn w).console
turn_console w = (turn_grows w).console

-- ---- runs

pub turns_counted : (w : HostWorld) (n : ℕ) → (turns w n).steps ≤ w.steps + n
unfolding turns
turns_counted w zero = omega arith
turns_counted w (suc n) = omega (arith, turns_counted w n, (turn_grows (turns w n)).most)

-- the console after some turns is a prefix of the console after more
extends_then : (a b c : List ℕ) → Extends a b → Extends b c → Extends a c
extends_then a b c first next = (first.0 ++ next.0, next.1 ∙ ap (λ (x : List ℕ). x ++ next.0) first.1 ∙ append_assoc a first.0 next.0)

more_console : (w : HostWorld) (m k : ℕ) → Extends (turns w m).console (turns w (m + k)).console
unfolding turns
more_console w m zero = rw add-zero (left.extends_itself (turns w m).console)
more_console w m (suc k) = rw add-suc (extends_then _ _ _ (more_console w m k) (turn_console (turns w (m + k))))

pub turns_console : (w : HostWorld) (m n : ℕ) → m ≤ n → Extends (turns w m).console (turns w n).console
turns_console w m n le =
    let split : m + (n - m) ≡ n = omega arith in
    subst (λ (k : ℕ). Extends (turns w m).console (turns w k).console) split (more_console w m (n - m))

-- the bound of a run leaves the console
bounded_console : (w : HostWorld) (o : Option Exit) →
    let after : HostWorld = elim o [ Some _ ↦ w | None ↦ record w { exit = Some exits.Bound } ] in after.console ≡ w.console
bounded_console w (Some _) = refl
bounded_console w None = refl

pub run_console : (w : HostWorld) (m n : ℕ) → m ≤ n → Extends (turns w m).console (run w n).console
run_console w m n le = subst (Extends (turns w m).console) (sym (bounded_console (turns w n) (turns w n).exit)) (turns_console w m n le)
