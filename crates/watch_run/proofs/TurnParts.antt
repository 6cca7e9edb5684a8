-- The parts of a turn with watchpoints.
use Rattle.std.proofs.Common.{arith, ◌≡◌, ◌∙◌, ◌+◌, ℕ, Bool, true, false, ◌||◌, List, None, Some, Option, refl, ap, subst, sym, IsTrue}
use Rattle.std.specs.Prelude.{◌&&◌, is_ok, if◌then◌else◌}
use Rattle.client_world.specs.{declared.faults.Fault.{Fault}, declared.outcome.Exit.{Exit}, declared.registers.Regs.{Regs}}
use Rattle.client_world.specs.{declared.services.Carry.{Carry}, declared.watchpoints.Watch.{Watch}, Registers.{low_half}}
use Rattle.client_world.specs.{WatchWorld.{WatchWorld, Watching, no_watches}, World.{HostWorld, World}}
use Rattle.guest_space.specs.declared.windows.CodeWindow.{CodeWindow}
use Rattle.host_memory.specs.View.{MachineView}
use Rattle.interrupts.specs.Worlds.{world_after_iret}
use Rattle.host_run.specs.{OtherTurns.{exception_turn, int31_at, int31_call, int31_turn, is_int31}, declared.traps.Trap.{Trap}}
use Rattle.host_run.specs.{declared.traps.Trap.TheVariants.{NoTrap, ProtectedVector}, Traps.{current_trap, is_trap}}
use Rattle.host_run.proofs.OtherTurns.{exception_quiet, int31_quiet}
use Rattle.watch_run.specs.{Hits.{has_first_hit, instruction_address, next_touches, with_hits}, Services.{WatchAnswer, is_watch_function}}
use Rattle.watch_run.specs.Turn.{HasUnwatchedWindow, after_watch_call, is_watch_call, watches_after}
use Rattle.watch_run.proofs.HitLaws.{marked_none, none_due}

-- ---- the function that is asked for

at_by : (b : Bool) (ax : ℕ) → IsTrue (is_watch_call (if b then Some ax else None)) → IsTrue (is_watch_function ax)
at_by true ax call = call
at_by false ax call = cc

call_by : (o : Option Exit) (w : World) → IsTrue (is_watch_call (elim o as (λ _. Option ℕ) [ Some _ ↦ None | None ↦ int31_at w ])) →
    IsTrue (is_watch_function (low_half w.regs.eax))
call_by (Some exit) w call = cc
call_by None w call = at_by (is_int31 (current_trap w) && is_ok (world_after_iret w)) (low_half w.regs.eax) call

pub asked_function : (h : HostWorld) → IsTrue (is_watch_call (int31_call h)) → IsTrue (is_watch_function (low_half h.machine.regs.eax))
unfolding int31_call
asked_function h call = call_by h.exit h.machine call

-- ---- where no trap is, no function is asked for

no_int31 : (t : Trap) → is_trap t ≡ false → is_int31 t ≡ false
no_int31 NoTrap free = refl
no_int31 (ProtectedVector n) free = cc
no_int31 _ free = refl

no_call : (o : Option Exit) (w : World) → is_trap (current_trap w) ≡ false →
    is_watch_call (elim o as (λ _. Option ℕ) [ Some _ ↦ None | None ↦ int31_at w ]) ≡ false
no_call (Some exit) w free = refl
no_call None w free =
    ap (λ (b : Bool). is_watch_call (if b && is_ok (world_after_iret w) then Some (low_half w.regs.eax) else None))
    (no_int31 (current_trap w) free)

pub not_called : (h : HostWorld) → is_trap (current_trap h.machine) ≡ false → is_watch_call (int31_call h) ≡ false
unfolding int31_call
not_called h free = no_call h.exit h.machine free

-- ---- where nothing is watched, and where no instruction runs

pub none_watched : (w : World) (s : Watching) → s ≡ no_watches → watches_after w s ≡ s
unfolding watches_after with_hits
none_watched w s none = subst (λ (t : Watching). watches_after w t ≡ t) (sym none) refl

noted_event : (at : ℕ) (s : Watching) → with_hits at None s ≡ s
unfolding with_hits
noted_event at s =
    ap (λ (ws : List (Option Watch)). let t : Watching = record { watches = ws; due = s.due || has_first_hit at None s.watches } in t)
    (marked_none at s.watches)
    ∙ ap (λ (b : Bool). let t : Watching = record { watches = s.watches; due = b } in t) (none_due at s.watches s.due)

pub event_watched : (w : World) (s : Watching) → is_trap (current_trap w) ≡ true → watches_after w s ≡ s
unfolding watches_after
event_watched w s trap = ap (λ (b : Bool). with_hits (instruction_address w) (if b then None else next_touches w) s) trap
    ∙ noted_event (instruction_address w) s

-- ---- windows of code

pub no_window : (v : MachineView) (s : Watching) (w : CodeWindow) → w.starts ≡ 0 → HasUnwatchedWindow v s w
no_window v s w none some = absurd (omega (arith, none, some))

-- ---- of two worlds that are one

pub host_part : (h : HostWorld) (s : Watching) (w : WatchWorld) → record { host = h; watching = s } ≡ w → h ≡ w.host
host_part h s w same = ap (λ (x : WatchWorld). x.host) same

-- ---- the count of turns

pub told_steps : (h : HostWorld) (f : Fault) → (exception_turn h f).steps ≡ h.steps + 1
told_steps h f = (exception_quiet h f).2

pub served_steps : (h : HostWorld) (r : Regs) (c : Carry) → (int31_turn h r c).steps ≡ h.steps + 1
served_steps h r c = (int31_quiet h r c).2

-- ---- where an instruction runs, and where a function is served

pub step_watched : (w : World) (s : Watching) → is_trap (current_trap w) ≡ false →
    with_hits (instruction_address w) (next_touches w) s ≡ watches_after w s
unfolding watches_after
step_watched w s free = sym (ap (λ (b : Bool). with_hits (instruction_address w) (if b then None else next_touches w) s) free)

pub answered_by : (w : WatchWorld) (after : HostWorld) (r : Regs) (c : Carry) (s : Watching) (a : WatchAnswer) →
    after ≡ int31_turn w.host r c →
    record { regs = r; carry = c; watching = s } ≡ a → record { host = after; watching = s } ≡ after_watch_call w a
answered_by w after r c s a same is = ap (λ (h : HostWorld). let x : WatchWorld = record { host = h; watching = s } in x) same
    ∙ ap (after_watch_call w) is
