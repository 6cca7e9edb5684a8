-- Turns with watchpoints change nothing after an exit; and runs in which no function on watchpoints is served.
use Rattle.std.proofs.Common.{arith, ◌≡◌, ◌≤◌, ◌<◌, ◌+◌, ◌-◌, ℕ, None, Some, Option, zero, suc, refl, sym, ◌∙◌, ap, subst, add-zero}
use Rattle.std.proofs.Common.{add-suc, Bool, true, false, if◌then◌else◌}
use Rattle.std.specs.Prelude.{IsSome}
use Rattle.client_world.specs.{declared.outcome.Exit.{Exit}, WatchWorld.{WatchWorld, Watching, no_watches, host_without_watches}}
use Rattle.client_world.specs.World.{HostWorld}
use Rattle.host_run.specs.{Run.{with_bound_exit, run, turns}, OtherTurns.{int31_call}, Turn.{turn}}
use Rattle.host_run.proofs.Runs.{bounded_ended}
use Rattle.watch_run.specs.Turn.{run_with_watchpoints, turn_with_watchpoints, turns_with_watchpoints, after_watch_call, is_watch_call}
use Rattle.watch_run.specs.{Turn.{after_turn_or_call, watches_after}, Services.{watch_service}}
use Rattle.watch_run.proofs.{TurnParts.{none_watched}, WatchedTurns.{stays}}

turns_stop : (w : WatchWorld) (i k : ℕ) → IsSome (turns_with_watchpoints w i).host.exit →
    turns_with_watchpoints w (i + k) ≡ turns_with_watchpoints w i
unfolding turns_with_watchpoints
turns_stop w i zero some = rw add-zero refl
turns_stop w i (suc k) some = rw add-suc (ap turn_with_watchpoints (turns_stop w i k some) ∙ stays (turns_with_watchpoints w i) some)

turns_past : (w : WatchWorld) (i n : ℕ) → i ≤ n → IsSome (turns_with_watchpoints w i).host.exit →
    turns_with_watchpoints w n ≡ turns_with_watchpoints w i
turns_past w i n le some =
    let split : i + (n - i) ≡ n = omega arith in
    subst (λ m. turns_with_watchpoints w m ≡ turns_with_watchpoints w i) split (turns_stop w i (n - i) some)

-- a run that ends with turn i + 1 is over there
pub run_ended : (w new : WatchWorld) (n i : ℕ) → new ≡ turns_with_watchpoints w (i + 1) → i < n → IsSome new.host.exit →
    record new { host = with_bound_exit new.host } ≡ run_with_watchpoints w n
run_ended w new n i is lt some =
    let there : IsSome (turns_with_watchpoints w (i + 1)).host.exit = subst (λ (v : WatchWorld). IsSome v.host.exit) is some in
    ap (λ (v : WatchWorld). let x : WatchWorld = record v { host = with_bound_exit v.host } in x)
    (is ∙ sym (turns_past w (i + 1) n (omega arith) there))

-- one that starts after an exit changes nothing
pub run_over : (w : WatchWorld) (n : ℕ) (e : Exit) → w.host.exit ≡ Some e → w ≡ run_with_watchpoints w n
unfolding turns_with_watchpoints
run_over w n e is =
    let past = turns_past w 0 n (omega arith) (subst (λ (o : Option Exit). IsSome o) (sym is) refl) in
    sym (ap (λ (v : WatchWorld). let x : WatchWorld = record v { host = with_bound_exit v.host } in x) past
    ∙ ap (λ (h : HostWorld). let x : WatchWorld = record w { host = h } in x) (bounded_ended w.host e is))

-- ---- no function is served

host_over : (h : HostWorld) (exit : Exit) → h.exit ≡ Some exit → turn h ≡ h
unfolding turn
host_over h exit is = rw is refl

-- one with watchpoints, where none is held
by_exit : (o : Option Exit) (h : HostWorld) (x : WatchWorld) → h.exit ≡ o → x ≡ host_without_watches (turn h) →
    elim o as (λ _. WatchWorld) [ Some _ ↦ host_without_watches h | None ↦ x ] ≡ host_without_watches (turn h)
by_exit None h x is e = e
by_exit (Some exit) h x is e = ap host_without_watches (sym (host_over h exit is))

-- a function is served, or the turn is the host's
by_call : (h : HostWorld) (served : WatchWorld) (b : Bool) → b ≡ false →
    (if b then served else record { host = turn h; watching = watches_after h.machine no_watches }) ≡ host_without_watches (turn h)
by_call h served true e = cc
by_call h served false e =
    ap (λ (s : Watching). let w : WatchWorld = record { host = turn h; watching = s } in w) (none_watched h.machine no_watches refl)

plain_turn : (h : HostWorld) → is_watch_call (int31_call h) ≡ false →
    turn_with_watchpoints (host_without_watches h) ≡ host_without_watches (turn h)
unfolding turn_with_watchpoints
plain_turn h none =
    let served = after_watch_call (host_without_watches h) (watch_service h.machine.regs no_watches) in
    by_exit h.exit h (after_turn_or_call (host_without_watches h)) refl (by_call h served (is_watch_call (int31_call h)) none)

plain_turns : (h : HostWorld) (n : ℕ) → ((k : ℕ) → k < n → is_watch_call (int31_call (turns h k)) ≡ false) →
    turns_with_watchpoints (host_without_watches h) n ≡ host_without_watches (turns h n)
unfolding turns_with_watchpoints turns
plain_turns h zero none = refl
plain_turns h (suc n) none =
    ap turn_with_watchpoints (plain_turns h n (λ k less. none k (omega (arith, less))))
    ∙ plain_turn (turns h n) (none n (omega arith))

pub plain_run : (h : HostWorld) (n : ℕ) → ((k : ℕ) → k < n → is_watch_call (int31_call (turns h k)) ≡ false) →
    run_with_watchpoints (host_without_watches h) n ≡ host_without_watches (run h n)
plain_run h n none = ap (λ (w : WatchWorld). record w { host = with_bound_exit w.host }) (plain_turns h n none)
