-- What turns with watchpoints keep, count and write. Each is an exception that delivers a hit, a function that is served, or the host's own
-- turn.
use Rattle.std.proofs.Common.{arith, ◌≡◌, ◌≢◌, ◌∙◌, ◌≤◌, ◌+◌, ◌*◌, ℕ, zero, suc, Bool, true, false, ◌||◌, [], None, Some, Option, refl, ap}
use Rattle.std.proofs.{Common.{sym, subst, add-one}, lemmas.List.Elements.{All-nil}}
use Rattle.std.specs.Prelude.{All, IsSome, if◌then◌else◌}
use Rattle.client_world.specs.{declared.faults.TheConstants.{DEBUG}, declared.outcome.Exit.{Exit}}
use Rattle.client_world.specs.{declared.outcome.Exit.TheVariants.{ConsoleFull}, declared.registers.Regs.{Regs}}
use Rattle.client_world.specs.{declared.services.Carry.{Carry}, Access.{IsHeld, fault_with}, Console.{Extends}, Soundness.{IsSound}}
use Rattle.client_world.specs.{Soundness.{IsSoundHost}, WatchWorld.{WatchWorld, host_without_watches}, World.{HostWorld}}
use Rattle.dos_calls.proofs.LeftCalls.{extends_itself}
use Rattle.host_run.specs.{Keys.{HasKeys}, Nested.{Stacked, kept}, OtherTurns.{exception_turn, int31_call, int31_turn}}
use Rattle.host_run.specs.{RealCalls.{from_client}, Touched.{touched_by_turn}, Turn.{turn}}
use Rattle.host_run.proofs.{Growth.{turn_console, turn_counted}, OtherTurns.{bounded_sound, exception_keeps, exception_quiet, host_sound}}
use Rattle.host_run.proofs.{OtherTurns.{int31_keeps_turn, int31_quiet, reached}, Sound.{leaves_itself, machine_by, outside_by}}
use Rattle.host_run.proofs.{TurnLaws.{IsReached, KeepsTurn, LeavesBy, turn_keeps}, Runs.{exit_of}}
use Rattle.watch_run.specs.{Services.{watch_service}, Turn.{after_watch_call, after_hit_exception, is_watch_call, delivers_hit}}
use Rattle.watch_run.specs.Turn.{touched_by_watch_turn, turn_with_watchpoints, after_turn_or_call, turns_with_watchpoints, watches_after}
use Rattle.watch_run.specs.Turn.{watched_run, watched_turns}

-- ---- what each kind of turn has, every turn has

by_kind : (P : HostWorld → Type 0) (w : WatchWorld) (told called : Bool) → P (exception_turn w.host (fault_with DEBUG 0)) →
    ((r : Regs) (c : Carry) → P (int31_turn w.host r c)) → P (turn w.host) →
    let after : WatchWorld = if told then after_hit_exception w else if called
    then after_watch_call w (watch_service w.host.machine.regs w.watching)
    else record { host = turn w.host; watching = watches_after w.host.machine w.watching } in P after.host
by_kind P w true called x y z = x
by_kind P w false true x y z = let a = watch_service w.host.machine.regs w.watching in y a.regs a.carry
by_kind P w false false x y z = z

by_exit : (P : HostWorld → Type 0) (w next : WatchWorld) (o : Option Exit) → P w.host → P next.host →
    let after : WatchWorld = elim o [ Some _ ↦ w | None ↦ next ] in P after.host
by_exit P w next (Some exit) p q = p
by_exit P w next None p q = q

has : (P : HostWorld → Type 0) (w : WatchWorld) → P w.host → P (exception_turn w.host (fault_with DEBUG 0)) →
    ((r : Regs) (c : Carry) → P (int31_turn w.host r c)) → P (turn w.host) → P (turn_with_watchpoints w).host
unfolding turn_with_watchpoints
has P w same x y z =
    by_exit P w (if delivers_hit w then after_hit_exception w else after_turn_or_call w) w.host.exit same
    (by_kind P w (delivers_hit w) (is_watch_call (int31_call w.host)) x y z)

-- ---- the exit, the count of turns and the console

turn_is : (w : WatchWorld) (o : Option Exit) → w.host.exit ≡ o → turn_with_watchpoints w
    ≡ elim o as (λ _. WatchWorld) [ Some _ ↦ w | None ↦ if delivers_hit w then after_hit_exception w else after_turn_or_call w ]
unfolding turn_with_watchpoints
turn_is w o is =
    ap (λ (x : Option Exit).
    elim x as (λ _. WatchWorld) [ Some _ ↦ w | None ↦ if delivers_hit w then after_hit_exception w else after_turn_or_call w ]) is

-- a world with an exit stays as it is
pub stays : (w : WatchWorld) → IsSome w.host.exit → turn_with_watchpoints w ≡ w
stays w some = let ended = exit_of w.host.exit some in turn_is w (Some ended.0) ended.1

-- any other turn is counted
pub counts : (w : WatchWorld) → w.host.exit ≡ None → (turn_with_watchpoints w).host.steps ≡ w.host.steps + 1
counts w none =
    ap (λ (v : WatchWorld). v.host.steps) (turn_is w None none)
    ∙ by_kind (λ h. h.steps ≡ w.host.steps + 1) w (delivers_hit w) (is_watch_call (int31_call w.host))
    (exception_quiet w.host (fault_with DEBUG 0)).2
    (λ r c. (int31_quiet w.host r c).2) (turn_counted w.host none)

same_console : (w after : HostWorld) → after.console ≡ w.console → Extends w.console after.console
same_console w after same = subst (Extends w.console) (sym same) (extends_itself w.console)

-- what the client wrote stays
pub extends : (w : WatchWorld) → Extends w.host.console (turn_with_watchpoints w).host.console
extends w =
    has (λ (h : HostWorld). Extends w.host.console h.console) w (extends_itself w.host.console)
    (same_console w.host (exception_turn w.host (fault_with DEBUG 0)) (exception_quiet w.host (fault_with DEBUG 0)).1)
    (λ r c. same_console w.host (int31_turn w.host r c) (int31_quiet w.host r c).1)
    (turn_console w.host)

-- ---- soundness, and the records of calls

pub record Keeps (h after : HostWorld) : Type 0 where
  pub reached : IsReached after
  pub calls : Stacked from_client h after
  pub sound : IsSoundHost h → IsSoundHost after
  pub lines : after.lines + 2 * h.steps ≤ h.lines + 2 * after.steps
  pub leaves : LeavesBy h after after.exit

of_turn : (h after : HostWorld) → KeepsTurn from_client h after → Keeps h after
of_turn h after k = record {
  reached = k.reached;
  calls = k.calls;
  sound = λ s. host_sound h after s k;
  lines = k.lines;
  leaves = k.leaves;
}

pub turn_keeps_all : (w : WatchWorld) → IsReached w.host → Keeps w.host (turn_with_watchpoints w).host
turn_keeps_all w s =
    has (Keeps w.host) w (record {
      reached = s;
      calls = kept refl;
      sound = λ sound. sound;
      lines = omega arith;
      leaves = leaves_itself w.host w.host.exit;
    })
    (of_turn w.host _ (exception_keeps w.host (fault_with DEBUG 0) s))
    (λ r c. of_turn w.host (int31_turn w.host r c) (int31_keeps_turn w.host r c s))
    (of_turn w.host (turn w.host) (turn_keeps w.host s))

pub turn_sound : (w : WatchWorld) → IsSoundHost w.host → HasKeys w.host → IsSoundHost (turn_with_watchpoints w).host
turn_sound w s keys = (turn_keeps_all w (reached w.host s keys)).sound s

from_machine : (h : HostWorld) → IsSound h.machine → HasKeys h → IsReached h
from_machine h machine keys = record { machine = machine; keys = keys }

pub turn_calls : (w : WatchWorld) → IsSound w.host.machine → HasKeys w.host → Stacked from_client w.host (turn_with_watchpoints w).host
turn_calls w sound keys = (turn_keeps_all w (from_machine w.host sound keys)).calls

pub turn_exit : (w : WatchWorld) → IsSound w.host.machine → HasKeys w.host → IsSome (turn_with_watchpoints w).host.exit →
    (turn_with_watchpoints w).host.machine ≡ w.host.machine
turn_exit w sound keys ended =
    let after = (turn_with_watchpoints w).host in
    machine_by w.host after after.exit (turn_keeps_all w (from_machine w.host sound keys)).leaves ended

pub turn_exit_outside : (w : WatchWorld) (exit : Exit) → IsSound w.host.machine → HasKeys w.host →
    (turn_with_watchpoints w).host.exit ≡ Some exit → exit ≢ ConsoleFull →
    ((turn_with_watchpoints w).host.keys ≡ w.host.keys) × ((turn_with_watchpoints w).host.console ≡ w.host.console)
turn_exit_outside w exit sound keys is other =
    let after = (turn_with_watchpoints w).host in
    outside_by w.host after after.exit exit (turn_keeps_all w (from_machine w.host sound keys)).leaves is other

turns_reached : (w : WatchWorld) (n : ℕ) → IsReached w.host → IsReached (turns_with_watchpoints w n).host
unfolding turns_with_watchpoints
turns_reached w zero s = s
turns_reached w (suc n) s = (turn_keeps_all (turns_with_watchpoints w n) (turns_reached w n s)).reached

pub turns_sound : (h : HostWorld) (n : ℕ) → IsSound h.machine → HasKeys h → IsSound (watched_turns h n).machine
turns_sound h n sound keys = (turns_reached (host_without_watches h) n (from_machine h sound keys)).machine

pub turn_has_keys : (w : WatchWorld) → IsSound w.host.machine → HasKeys w.host → HasKeys (turn_with_watchpoints w).host
turn_has_keys w sound keys = (turn_keeps_all w (from_machine w.host sound keys)).reached.keys

pub turns_have_keys : (h : HostWorld) (n : ℕ) → IsSound h.machine → HasKeys h → HasKeys (watched_turns h n)
turns_have_keys h n sound keys = (turns_reached (host_without_watches h) n (from_machine h sound keys)).keys

all_sound : (w : WatchWorld) (n : ℕ) → IsSoundHost w.host → HasKeys w.host → IsSoundHost (turns_with_watchpoints w n).host
unfolding turns_with_watchpoints
all_sound w zero s keys = s
all_sound w (suc n) s keys =
    (turn_keeps_all (turns_with_watchpoints w n) (turns_reached w n (reached w.host s keys))).sound (all_sound w n s keys)

pub turns_sound_host : (h : HostWorld) (n : ℕ) → IsSoundHost h → HasKeys h → IsSoundHost (watched_turns h n)
turns_sound_host h n s keys = all_sound (host_without_watches h) n s keys

pub run_sound_host : (h : HostWorld) (n : ℕ) → IsSoundHost h → HasKeys h → IsSoundHost (watched_run h n)
unfolding watched_run
run_sound_host h n s keys = bounded_sound (watched_turns h n) (turns_sound_host h n s keys)

pub one_more : (w : WatchWorld) (n : ℕ) → turns_with_watchpoints w (n + 1) ≡ turn_with_watchpoints (turns_with_watchpoints w n)
unfolding turns_with_watchpoints
one_more w n = rw add-one refl

pub turns_calls : (h : HostWorld) (n : ℕ) → IsSound h.machine → HasKeys h →
    Stacked from_client (watched_turns h n) (watched_turns h (n + 1))
turns_calls h n sound keys =
    let w = turns_with_watchpoints (host_without_watches h) n in
    subst (λ (x : WatchWorld). Stacked from_client w.host x.host) (sym (one_more (host_without_watches h) n))
    (turn_keeps_all w (turns_reached (host_without_watches h) n (from_machine h sound keys))).calls

-- ---- what is touched

touched_by : (h : HostWorld) (other : Bool) → All (IsHeld h.machine) (touched_by_turn h) →
    All (IsHeld h.machine) (if other then [] else touched_by_turn h)
touched_by h true held = All-nil (IsHeld h.machine)
touched_by h false held = held

pub touches_held : ((h : HostWorld) → All (IsHeld h.machine) (touched_by_turn h)) → (w : WatchWorld) →
    All (IsHeld w.host.machine) (touched_by_watch_turn w)
touches_held law w = touched_by w.host (delivers_hit w || is_watch_call (int31_call w.host)) (law w.host)
