-- What the turns keep that are made in place of the host's own.
use Rattle.std.proofs.Common.{arith, ◌≡◌, ap, ℕ, Bool, true, false, refl, Option, None, Some, Ok, Err}
use Rattle.std.specs.{Prelude.{IfOk, IsSome, if◌then◌else◌}, declared.result.Result.{Result}}
use Rattle.client_world.specs.{declared.faults.Fault.{Fault}, declared.outcome.Exit.{Exit}, declared.outcome.Exit.TheVariants.{Bound}}
use Rattle.client_world.specs.{declared.registers.Mode.{Mode}, declared.registers.Mode.TheVariants.{Real, Protected}}
use Rattle.client_world.specs.{declared.registers.Regs.{Regs}, declared.services.Carry.{Carry}, Registers.{low_half}, Soundness.{IsSound}}
use Rattle.client_world.specs.{Soundness.{IsSoundHost}, World.{World, HostWorld}}
use Rattle.client_world.proofs.SoundWrites.{IsSound-vif}
use Rattle.interrupts.specs.Worlds.{world_delivery, world_interrupt, world_after_iret}
use Rattle.interrupts.proofs.{KeptWorlds.{kept_world_interrupt, kept_world_popped}, SoundAnswers.{sound_world_interrupt}}
use Rattle.interrupts.proofs.SoundAnswers.{sound_world_popped}
use Rattle.fault_service.specs.Worlds.{world_protected_delivery}
use Rattle.translation.specs.SimulatedCall.{reflect}
use Rattle.host_run.specs.{Keys.{HasKeys}, Nested.{Stacked, kept}, OtherTurns.{IsOneQuietTurn, after_answer, with_answer, exception_turn}}
use Rattle.host_run.specs.OtherTurns.{int31_turn, interrupt_turn, after_interrupt_in_mode, is_hosts_vector, with_interrupts_off}
use Rattle.host_run.specs.{RealCalls.{InterruptSource, from_client, from_outside}, Run.{with_bound_exit}, Turn.{Outcome, after_interrupt}}
use Rattle.host_run.specs.Turn.{after_protected_delivery, after_reflected_interrupt, after_exception_in_mode, after_outcome, with_machine}
use Rattle.host_run.specs.Turn.{with_turn_counted}
use Rattle.host_run.proofs.TurnLaws.{IsNext, IsReached, KeepsTurn, TurnKeeps, answer_next, counted_reached, delivered_keeps}
use Rattle.host_run.proofs.TurnLaws.{interrupted_keeps, reflection_by, same_machine, service_keeps, settled_keeps, stops_same}
use Rattle.host_run.proofs.TurnLaws.{with_regs_sound}

-- ---- what such a turn leaves of the world around the machine

-- the work of the turn, before it is settled: it touches neither keystrokes, nor console, nor the count of turns; and an exit leaves the
-- machine
record IsQuiet (h : HostWorld) (o : Outcome) : Type 0 where
  keys : o.host.keys ≡ h.keys
  console : o.host.console ≡ h.console
  steps : o.host.steps ≡ h.steps
  machine : IsSome o.exit → o.host.machine ≡ h.machine

goes_on_without : (o : Option Exit) → o ≡ None → IsSome o → ⊥
goes_on_without None on ended = cc
goes_on_without (Some exit) on ended = cc

quiet_on : (h : HostWorld) (o : Outcome) → o.host.keys ≡ h.keys → o.host.console ≡ h.console → o.host.steps ≡ h.steps → o.exit ≡ None →
    IsQuiet h o
quiet_on h o keys console steps on =
    record { keys = keys; console = console; steps = steps; machine = λ ended. absurd (goes_on_without o.exit on ended) }

quiet_end : (h : HostWorld) (o : Outcome) → o.host ≡ h → IsQuiet h o
quiet_end h o same = record {
  keys = ap (λ (w : HostWorld). w.keys) same;
  console = ap (λ (w : HostWorld). w.console) same;
  steps = ap (λ (w : HostWorld). w.steps) same;
  machine = λ _. ap (λ (w : HostWorld). w.machine) same;
}

machine_quiet : (h : HostWorld) (r : Result World Exit) → IsQuiet h (with_machine h r)
machine_quiet h (Ok w) = quiet_on h _ refl refl refl refl
machine_quiet h (Err exit) = quiet_end h _ refl

delivery_quiet : (h : HostWorld) (number : ℕ) (r : Result World Exit) → IsQuiet h (after_protected_delivery h number r)
delivery_quiet h number (Ok w) = quiet_on h _ refl refl refl refl
delivery_quiet h number (Err exit) = quiet_end h _ refl

delivered_quiet : (mode : Mode) (h : HostWorld) (f : Fault) → IsQuiet h (after_exception_in_mode mode h f)
delivered_quiet Real h f = machine_quiet h (world_delivery h.machine f)
delivered_quiet Protected h f = delivery_quiet h f.number (world_protected_delivery h.machine f)

pushes_quiet : (h : HostWorld) (r : Result World Fault) → IsQuiet h (after_interrupt h r)
pushes_quiet h (Ok w) = quiet_on h _ refl refl refl refl
pushes_quiet h (Err f) = delivered_quiet h.machine.mode h f

reflection_quiet : (h : HostWorld) (n : ℕ) (w : World) (r : Result World Exit) → IsQuiet h (after_reflected_interrupt h n w r)
reflection_quiet h n w (Ok v) = quiet_on h _ refl refl refl refl
reflection_quiet h n w (Err exit) = quiet_end h _ refl

by_vector : (h : HostWorld) (b : Bool) (x y : Outcome) → IsQuiet h x → IsQuiet h y → IsQuiet h (if b then x else y)
by_vector h true x y p q = p
by_vector h false x y p q = q

interrupted_quiet : (mode : Mode) (h : HostWorld) (n : ℕ) → IsQuiet h (after_interrupt_in_mode mode h n)
interrupted_quiet Real h n = pushes_quiet h (world_interrupt h.machine n 0)
interrupted_quiet Protected h n =
    by_vector h (is_hosts_vector h.machine n) _ _ (reflection_quiet h n h.machine (reflect h.machine n))
    (pushes_quiet h (with_interrupts_off (world_interrupt h.machine n 0)))

answer_quiet : (h : HostWorld) (r : Regs) (carry : Carry) (p : Result World Exit) → IsQuiet h (after_answer h r carry p)
answer_quiet h r carry (Ok w) = quiet_on h _ refl refl refl refl
answer_quiet h r carry (Err exit) = quiet_end h _ refl

one_turn : (w : HostWorld) (o : Outcome) → IsQuiet (with_turn_counted w) o → IsOneQuietTurn w (after_outcome o)
one_turn w o q = (q.keys, q.console, q.steps)

pub int31_quiet : (w : HostWorld) (r : Regs) (carry : Carry) → IsOneQuietTurn w (int31_turn w r carry)
unfolding int31_turn
int31_quiet w r carry = one_turn w _ (answer_quiet (with_turn_counted w) r carry (world_after_iret w.machine))

pub exception_quiet : (w : HostWorld) (f : Fault) → IsOneQuietTurn w (exception_turn w f)
unfolding exception_turn
exception_quiet w f = one_turn w _ (delivered_quiet w.machine.mode (with_turn_counted w) f)

pub interrupt_quiet : (w : HostWorld) (n : ℕ) → IsOneQuietTurn w (interrupt_turn w n)
unfolding interrupt_turn
interrupt_quiet w n = one_turn w _ (interrupted_quiet w.machine.mode (with_turn_counted w) n)

pub exception_exit : (w : HostWorld) (f : Fault) → IsSome (exception_turn w f).exit → (exception_turn w f).machine ≡ w.machine
unfolding exception_turn
exception_exit w f ended = (delivered_quiet w.machine.mode (with_turn_counted w) f).machine ended

pub interrupt_exit : (w : HostWorld) (n : ℕ) → IsSome (interrupt_turn w n).exit → (interrupt_turn w n).machine ≡ w.machine
unfolding interrupt_turn
interrupt_exit w n ended = (interrupted_quiet w.machine.mode (with_turn_counted w) n).machine ended

-- ---- INT 31h

answer_calls : (w : HostWorld) (r : Regs) (carry : Carry) (p : Result World Exit) → world_after_iret w.machine ≡ p →
    Stacked from_client w (after_outcome (after_answer (with_turn_counted w) r carry p))
answer_calls w r carry (Ok u) is = kept (ap (λ (x : World). x.calls) (kept_world_popped w.machine u is))
answer_calls w r carry (Err exit) is = kept refl

pub int31_calls : (w : HostWorld) (r : Regs) (carry : Carry) → Stacked from_client w (int31_turn w r carry)
unfolding int31_turn
int31_calls w r carry = answer_calls w r carry (world_after_iret w.machine) refl

answer_keeps : (h : HostWorld) (r : Regs) (carry : Carry) (p : Result World Exit) → world_after_iret h.machine ≡ p → IsReached h →
    TurnKeeps from_client h (after_answer h r carry p)
answer_keeps h r carry (Ok w) is s =
    let sound = sound_world_popped h.machine w s.machine is in
    service_keeps h (low_half h.machine.regs.eax) (with_answer w r carry) s (record {
      sound = with_regs_sound w (record w.regs { eax = r.eax; ebx = r.ebx }) sound refl refl refl refl refl refl;
      calls = ap (λ (x : World). x.calls) (kept_world_popped h.machine w is);
    })
answer_keeps h r carry (Err exit) is s = stops_same h exit s

pub int31_keeps_turn : (w : HostWorld) (r : Regs) (carry : Carry) → IsReached w → KeepsTurn from_client w (int31_turn w r carry)
unfolding int31_turn
int31_keeps_turn w r carry s =
    let h = with_turn_counted w in
    settled_keeps from_client w _ (answer_keeps h r carry (world_after_iret w.machine) refl (counted_reached w s))
    (answer_quiet h r carry (world_after_iret w.machine)).steps

-- ---- an exception

pub exception_keeps : (w : HostWorld) (f : Fault) → IsReached w → KeepsTurn from_client w (exception_turn w f)
unfolding exception_turn
exception_keeps w f s =
    let h = with_turn_counted w in
    settled_keeps from_client w _ (delivered_keeps w.machine.mode h f (counted_reached w s) refl) (delivered_quiet w.machine.mode h f).steps

-- ---- an interrupt

interrupt_next : (w : World) (n : ℕ) → IsSound w → IfOk (world_interrupt w n 0) (IsNext w)
interrupt_next w n sound = answer_next Fault w (world_interrupt w n 0) (λ u e. record {
  sound = sound_world_interrupt w u n 0 sound e;
  calls = ap (λ (x : World). x.calls) (kept_world_interrupt w u n 0 e);
})

off_next : (w : World) (r : Result World Fault) → IfOk r (IsNext w) → IfOk (with_interrupts_off r) (IsNext w)
off_next w (Ok u) next = record { sound = IsSound-vif u false next.sound; calls = next.calls }
off_next w (Err f) next = tt

either_keeps : (h : HostWorld) (b : Bool) (x y : Outcome) → TurnKeeps from_outside h x → TurnKeeps from_outside h y →
    TurnKeeps from_outside h (if b then x else y)
either_keeps h true x y p q = p
either_keeps h false x y p q = q

interrupt_in_keeps : (mode : Mode) (h : HostWorld) (n : ℕ) → IsReached h → h.machine.mode ≡ mode →
    TurnKeeps from_outside h (after_interrupt_in_mode mode h n)
interrupt_in_keeps Real h n s is = interrupted_keeps h (world_interrupt h.machine n 0) s (interrupt_next h.machine n s.machine)
interrupt_in_keeps Protected h n s is =
    either_keeps h (is_hosts_vector h.machine n) _ _
    (reflection_by from_outside h n h.machine (reflect h.machine n) refl s
    (record { next = same_machine h.machine s.machine; mode = is; was = is; vif = refl; from = refl }))
    (interrupted_keeps h (with_interrupts_off (world_interrupt h.machine n 0)) s
    (off_next h.machine (world_interrupt h.machine n 0) (interrupt_next h.machine n s.machine)))

pub interrupt_keeps : (w : HostWorld) (n : ℕ) → IsReached w → KeepsTurn from_outside w (interrupt_turn w n)
unfolding interrupt_turn
interrupt_keeps w n s =
    let h = with_turn_counted w in
    settled_keeps from_outside w _ (interrupt_in_keeps w.machine.mode h n (counted_reached w s) refl)
    (interrupted_quiet w.machine.mode h n).steps

-- ---- the bound

bounded_calls_by : (w : HostWorld) (o : Option Exit) → Stacked from_client w (elim o [ Some _ ↦ w | None ↦ record w { exit = Some Bound } ])
bounded_calls_by w (Some exit) = kept refl
bounded_calls_by w None = kept refl

pub bounded_calls : (w : HostWorld) → Stacked from_client w (with_bound_exit w)
bounded_calls w = bounded_calls_by w w.exit

bounded_sound_by : (w : HostWorld) (o : Option Exit) → IsSoundHost w →
    IsSoundHost (elim o [ Some _ ↦ w | None ↦ record w { exit = Some Bound } ])
bounded_sound_by w (Some exit) s = s
bounded_sound_by w None s = record { machine = s.machine; lines = s.lines }

pub bounded_sound : (w : HostWorld) → IsSoundHost w → IsSoundHost (with_bound_exit w)
bounded_sound w s = bounded_sound_by w w.exit s

-- ---- of hosts

abbrev pub reached : (w : HostWorld) → IsSoundHost w → HasKeys w → IsReached w
reached w s keys = record { machine = s.machine; keys = keys }

pub host_sound : {source : InterruptSource} (w after : HostWorld) → IsSoundHost w → KeepsTurn source w after → IsSoundHost after
host_sound w after s k = record { machine = k.reached.machine; lines = omega (arith, s.lines, k.lines) }
