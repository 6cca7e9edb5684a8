-- The client's part of a turn changes its footprint alone; the places that turns touch are the client's, and each byte that the client's
-- instruction changes is that of such a place.
use Rattle.std.proofs.{Common.{◌≡◌, ◌∙◌, ℕ, List, ap, refl, sym, subst, Result, Ok, Err, [], None, Some}, lemmas.List.Elements.{All-nil}}
use Rattle.std.specs.{Prelude.{MatchResult, OnOk, All, Contains}, declared.option.Option.{Option}}
use Rattle.client_world.specs.{declared.faults.Event.{Event}, declared.faults.Fault.{Fault}, declared.outcome.Exit.{Exit}}
use Rattle.client_world.specs.{declared.registers.Mode.{Mode}, declared.registers.Mode.TheVariants.{Real, Protected}}
use Rattle.client_world.specs.{declared.faults.Event.TheVariants.{Soft}, declared.place.Place.{Place}, Access.{IsHeld}, World.{World}}
use Rattle.client_world.specs.World.{HostWorld}
use Rattle.cpu_step.specs.{Step.{client_step}, Touched.{touched_by_step as step_touches}}
use Rattle.interrupts.specs.{Delivery.{real_delivery, software_interrupt}, Worlds.{world_interrupt, world_of_result, view_without_bytes}}
use Rattle.interrupts.specs.Worlds.{world_step}
use Rattle.interrupts.proofs.{Alone.{interrupt_alone, step_alone}, SoundAnswers.{holds_of_world}}
use Rattle.host_memory.specs.View.{MachineView}
use Rattle.host_memory.proofs.WorldWalks.{only_start}
use Rattle.fault_service.specs.{ByMode.{delivery}, Delivery.{protected_delivery}, Memory.{DeliveryLaw}, StepMemory.{InterruptLaw}}
use Rattle.fault_service.specs.StepMemory.{RealDeliveryLaw, StepLaw, interrupt_places, written_places}
use Rattle.host_run.specs.{Turn.{Outcome}, View.{ComesTo, HostView, machine_view}, Footprint.{ChangesOnly, Footprint, at_places}}
use Rattle.host_run.specs.Footprint.{at_places_and_row, unsaid, after_client_event, after_client_interrupt, client_footprint, client_turn}
use Rattle.host_run.specs.{Footprint.{delivery_footprint, event_footprint, interrupt_footprint}, declared.traps.Trap.{Trap}}
use Rattle.host_run.specs.{declared.traps.Trap.TheVariants.{NoTrap}, Touched.{touched_by_turn, unless_trapped}, Traps.{current_trap}}
use Rattle.client_world.specs.declared.faults.Event.TheVariants as events

-- what is known of the machine
pub record HasLaws (v : MachineView) : Type 0 where
  pub step : StepLaw v
  pub interrupt : InterruptLaw v
  pub exception : RealDeliveryLaw v
  pub delivery : DeliveryLaw v

delivered_in : (mode : Mode) (v u : MachineView) (f : Fault) → HasLaws v →
    elim mode as (λ _. Result MachineView Exit) [ Real ↦ real_delivery v f | Protected ↦ protected_delivery v f ] ≡ Ok u →
    ChangesOnly (delivery_footprint mode v.world) v.bytes u.bytes
delivered_in Real v u f laws e = laws.exception f u e
delivered_in Protected v u f laws e = laws.delivery f u e

delivery_changes : (v u : MachineView) (f : Fault) → HasLaws v → delivery v f ≡ Ok u →
    ChangesOnly (delivery_footprint v.world.mode v.world) v.bytes u.bytes
unfolding delivery
delivery_changes v u f laws e = delivered_in v.world.mode v u f laws e

interrupt_changes : (v u : MachineView) (n len : ℕ) (r : Result MachineView Fault) → HasLaws v → software_interrupt v n len ≡ r →
    after_client_interrupt v r ≡ Ok u → ChangesOnly (interrupt_footprint v.world len (world_of_result r)) v.bytes u.bytes
interrupt_changes v u n len (Ok x) laws is e = let same : x ≡ u = cc in laws.interrupt n len u (rw same at is)
interrupt_changes v u n len (Err f) laws is e = delivery_changes v u f laws e

pub interrupted_changes : (v u : MachineView) (n len : ℕ) → HasLaws v → after_client_interrupt v (software_interrupt v n len) ≡ Ok u →
    ChangesOnly (interrupt_footprint v.world len (world_interrupt v.world n len)) v.bytes u.bytes
interrupted_changes v u n len laws is =
    rw (sym (interrupt_alone v n len)) (interrupt_changes v u n len (software_interrupt v n len) laws refl is)

event_changes : (v u : MachineView) (r : Result MachineView Event) → HasLaws v → client_step v ≡ r → after_client_event v r ≡ Ok u →
    ChangesOnly (event_footprint v.world (world_of_result r)) v.bytes u.bytes
event_changes v u (Ok x) laws is e = let same : x ≡ u = cc in laws.step u (rw same at is)
event_changes v u (Err (events.Fault f)) laws is e = delivery_changes v u f laws e
event_changes v u (Err (events.Soft n len)) laws is e = interrupted_changes v u n len laws e

pub client_changes : (v u : MachineView) → HasLaws v → client_turn v ≡ Ok u → ChangesOnly (client_footprint v.world) v.bytes u.bytes
unfolding client_turn client_footprint
client_changes v u laws e = rw (sym (step_alone v)) (event_changes v u (client_step v) laws refl e)

-- ---- where the client's part ends the run

unchanged : (f : Footprint) (b : List ℕ) → ChangesOnly f b b
unchanged (at_places places) b = only_start places b
unchanged (at_places_and_row places row) b =
    record { size = refl; addresses = λ p. refl; others = λ at away out. refl; host = λ at from to out. refl }
unchanged unsaid b = tt

pub kept : (f : Footprint) (b c : List ℕ) → c ≡ b → ChangesOnly f b c
kept f b c same = subst (λ (x : List ℕ). ChangesOnly f b x) (sym same) (unchanged f b)

pub changes_or_ends : (old new : HostView) (r : Result (Unit {0}) Exit) (o : Outcome) → HasLaws (machine_view old) → ComesTo old new r o →
    OnOk r (client_turn (machine_view old) ≡ Ok (machine_view new)) → ChangesOnly (client_footprint old.world.machine) old.bytes new.bytes
changes_or_ends old new (Ok x) o laws comes is = client_changes (machine_view old) (machine_view new) laws is
changes_or_ends old new (Err exit) o laws comes is = kept (client_footprint old.world.machine) old.bytes new.bytes comes.2.1

pub interrupt_or_ends : (old new : HostView) (n len : ℕ) (r : Result (Unit {0}) Exit) (o : Outcome) → HasLaws (machine_view old) →
    ComesTo old new r o →
    OnOk r (after_client_interrupt (machine_view old) (software_interrupt (machine_view old) n len) ≡ Ok (machine_view new)) →
    ChangesOnly (interrupt_footprint old.world.machine len (world_interrupt old.world.machine n len)) old.bytes new.bytes
interrupt_or_ends old new n len (Ok x) o laws comes is = interrupted_changes (machine_view old) (machine_view new) n len laws is
interrupt_or_ends old new n len (Err exit) o laws comes is = kept _ old.bytes new.bytes comes.2.1

-- where the interrupt raises an exception, whose delivery ends the run or goes on
pub raised_or_ends : (v : MachineView) (bytes : List ℕ) (new : HostView) (n len : ℕ) (f : Fault) (r : Result (Unit {0}) Exit)
    (P : Type 0) (Q : Exit → Type 0) → HasLaws v → software_interrupt v n len ≡ Err f → OnOk r (delivery v f ≡ Ok (machine_view new)) →
    MatchResult r (λ _. P) (λ exit. Q exit × (new.bytes ≡ bytes)) → bytes ≡ v.bytes →
    ChangesOnly (interrupt_footprint v.world len (world_interrupt v.world n len)) v.bytes new.bytes
raised_or_ends v bytes new n len f (Ok x) P Q laws raises is ends same =
    interrupted_changes v (machine_view new) n len laws (ap (after_client_interrupt v) raises ∙ is)
raised_or_ends v bytes new n len f (Err exit) P Q laws raises is ends same = kept _ v.bytes new.bytes (ends.1 ∙ same)

-- ---- touches

unless_held : (w : World) (t : Trap) → All (IsHeld w) (step_touches w) → All (IsHeld w) (unless_trapped w t)
unless_held w NoTrap held = held
unless_held w _ held = All-nil (IsHeld w)

pub touch_held : ((w : World) → All (IsHeld w) (step_touches w)) → (w : HostWorld) → All (IsHeld w.machine) (touched_by_turn w)
touch_held steps w =
    let m = w.machine in
    elim (w.exit) as (λ (o : Option Exit). All (IsHeld m) (elim o [ Some _ ↦ [] | None ↦ unless_trapped m (current_trap m) ])) [
      | Some _ ↦ All-nil (IsHeld m)
      | None ↦ unless_held m (current_trap m) (steps m)
    ]

-- ---- the bytes that change

-- what a turn touches that runs a client instruction
by_exit : (w : HostWorld) (o : Option Exit) → o ≡ None →
    elim o as (λ _. List Place) [ Some _ ↦ [] | None ↦ unless_trapped w.machine (current_trap w.machine) ]
    ≡ unless_trapped w.machine (current_trap w.machine)
by_exit w None none = refl
by_exit w (Some exit) none = absurd cc

runs : (w : HostWorld) → w.exit ≡ None → current_trap w.machine ≡ NoTrap → touched_by_turn w ≡ step_touches w.machine
runs w none free = by_exit w w.exit none ∙ ap (unless_trapped w.machine) free

event_of : (E : Type 0) (r : Result MachineView E) (e : E) → world_of_result r ≡ Err e → r ≡ Err e
event_of E (Ok v) e is = absurd cc
event_of E (Err f) e is = cc

abbrev AreIn : List Place → List Place → Type 0
AreIn places some = All (Contains places) some

pub written_by_turn : ((v u : MachineView) → client_step v ≡ Ok u → AreIn (step_touches v.world) (written_places v.world)) →
    (w : HostWorld) (u : World) → w.exit ≡ None → current_trap w.machine ≡ NoTrap → world_step w.machine ≡ Ok u →
    AreIn (touched_by_turn w) (written_places w.machine)
unfolding world_step
written_by_turn law w u none free is =
    let m = w.machine in
    subst (λ (places : List Place). AreIn places (written_places m)) (sym (runs w none free))
    (holds_of_world (λ _. AreIn (step_touches m) (written_places m)) (client_step (view_without_bytes m)) u
    (λ v. law (view_without_bytes m) v) is)

pub pushed_by_turn : ((v u : MachineView) (number len : ℕ) → client_step v ≡ Err (Soft number len) →
    software_interrupt v number len ≡ Ok u → AreIn (step_touches v.world) (interrupt_places v.world len)) →
    (w : HostWorld) (u : World) (number len : ℕ) → w.exit ≡ None → current_trap w.machine ≡ NoTrap →
    world_step w.machine ≡ Err (Soft number len) →
    world_interrupt w.machine number len ≡ Ok u → AreIn (touched_by_turn w) (interrupt_places w.machine len)
unfolding world_step world_interrupt
pushed_by_turn law w u number len none free is made =
    let m = w.machine in
    let event = event_of Event (client_step (view_without_bytes m)) (Soft number len) is in
    subst (λ (places : List Place). AreIn places (interrupt_places m len)) (sym (runs w none free))
    (holds_of_world (λ _. AreIn (step_touches m) (interrupt_places m len)) (software_interrupt (view_without_bytes m) number len) u
    (λ v. law (view_without_bytes m) v number len event) made)
