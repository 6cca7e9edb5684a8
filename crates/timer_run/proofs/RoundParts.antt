-- A round by its parts: the timer's, which is nothing after an exit, else the interrupt, or only the count of one more round; and the round
-- that is made, by what that part returns; a run: how it starts, one round after another, and how it ends.
use Rattle.std.proofs.Common.{arith, ◌≡◌, ◌≤◌, ◌+◌, Bool, true, false, ◌&&◌, Option, None, Some, Ok, Err, nat_eq, refl, ◌∙◌, ℕ, List, ap}
use Rattle.std.proofs.Common.{subst, sym, ◌<◌, ◌-◌, zero, suc, add-zero, add-suc, add-one}
use Rattle.std.specs.{Prelude.{if◌then◌else◌, IsSome}, declared.result.Result.{Result}}
use Rattle.client_world.specs.{declared.outcome.Exit.{Exit}, World.{HostWorld}, WatchWorld.{WatchWorld, Watching, no_watches}}
use Rattle.client_world.specs.WatchWorld.{host_without_watches}
use Rattle.host_run.specs.{OtherTurns.{interrupt_turn}, Footprint.{ChangesOnly, Footprint}, Run.{with_bound_exit}}
use Rattle.host_run.proofs.{OtherTurns.{interrupt_quiet}, Runs.{bounded_ended, exit_of}}
use Rattle.timer_run.specs.{declared.timer.TheConstants.{TIMER_INTERRUPT}, Timer.{TimerPart, TimerState, after_tick, takes_interrupts}}
use Rattle.timer_run.specs.{Timer.{with_round_counted, timer_answer, timer_part, timer_footprint}, Rounds.{TimedWorld, after_part}}
use Rattle.timer_run.specs.Rounds.{round_footprint, round_with_timer, timed, timer_of, rounds, timed_rounds, timed_run, with_new_timer}
use Rattle.watch_run.specs.Turn.{turn_with_watchpoints, watch_footprint}

-- ---- what each kind of part has, every part has

-- the interrupt is the whole round
abbrev pub interrupted : TimerState → HostWorld → TimerPart
interrupted t h = record { timer = record t { waits = false }; host = interrupt_turn h TIMER_INTERRUPT; taken = true }

-- the turn is still to be made
abbrev pub passed : TimerState → HostWorld → TimerPart
passed t h = record { timer = t; host = h; taken = false }

by_taken : (P : TimerPart → Type 0) (t : TimerState) (h : HostWorld) (taken : Bool) → P (interrupted t h) → P (passed t h) →
    P (if taken then interrupted t h else passed t h)
by_taken P t h true interrupt pass = interrupt
by_taken P t h false interrupt pass = pass

by_exit : (P : TimerPart → Type 0) (t : TimerState) (h : HostWorld) (o : Option Exit) → h.exit ≡ o →
    ((exit : Exit) → h.exit ≡ Some exit → P (passed t h)) → (h.exit ≡ None → P (interrupted (with_round_counted t) h)) →
    (h.exit ≡ None → P (passed (with_round_counted t) h)) → P (elim o [ Some _ ↦ passed t h | None ↦ after_tick (with_round_counted t) h ])
by_exit P t h (Some exit) is ended interrupt pass = ended exit is
by_exit P t h None is ended interrupt pass =
    let u = with_round_counted t in
    by_taken P u h (u.waits && takes_interrupts h.machine) (interrupt is) (pass is)

pub part_has : (P : TimerPart → Type 0) (t : TimerState) (h : HostWorld) → ((exit : Exit) → h.exit ≡ Some exit → P (passed t h)) →
    (h.exit ≡ None → P (interrupted (with_round_counted t) h)) → (h.exit ≡ None → P (passed (with_round_counted t) h)) → P (timer_part t h)
unfolding timer_part
part_has P t h ended interrupt pass = by_exit P t h h.exit refl ended interrupt pass

-- ---- the timer

ticked_by : (t : TimerState) (last : Bool) →
    let u : TimerState = if last then record t { count = 0; waits = true } else record t { count = t.count + 1 } in u.every ≡ t.every
ticked_by t true = refl
ticked_by t false = refl

pub part_every : (t : TimerState) (h : HostWorld) → (timer_part t h).timer.every ≡ t.every
part_every t h =
    let same = ticked_by t (nat_eq (t.count + 1) t.every) in
    part_has (λ p. p.timer.every ≡ t.every) t h (λ exit is. refl) (λ none. same) (λ none. same)

-- ---- the host

pub part_steps : (t : TimerState) (h : HostWorld) → (timer_part t h).host.steps ≤ h.steps + 1
part_steps t h =
    let counted = (interrupt_quiet h TIMER_INTERRUPT).2 in
    part_has (λ p. p.host.steps ≤ h.steps + 1) t h (λ exit is. omega arith) (λ none. omega arith) (λ none. omega arith)

-- a host without an exit had none
pub part_was_on : (t : TimerState) (h : HostWorld) → (timer_part t h).host.exit ≡ None → h.exit ≡ None
part_was_on t h = part_has (λ p. p.host.exit ≡ None → h.exit ≡ None) t h (λ exit is on. on) (λ none on. none) (λ none on. none)

-- where the turn is still to be made, the host is as it was
pub part_passed : (t : TimerState) (h : HostWorld) → (timer_part t h).taken ≡ false → (timer_part t h).host ≡ h
part_passed t h = part_has (λ p. p.taken ≡ false → p.host ≡ h) t h (λ _ _ _. refl) (λ none no. cc) (λ _ _. refl)

-- only the interrupt ends a run that goes on
pub part_ended : (t : TimerState) (h : HostWorld) (exit : Exit) → (timer_part t h).host.exit ≡ Some exit → h.exit ≡ None →
    (timer_part t h).taken ≡ true
part_ended t h exit =
    part_has (λ p. p.host.exit ≡ Some exit → h.exit ≡ None → p.taken ≡ true) t h (λ other is ended none. cc) (λ _ _ _. refl)
    (λ _ ended none. cc)

-- ---- what `Timer::before` returns of it

on_by : (o : Option Exit) (taken answer : Bool) → Ok answer ≡ elim o as (λ _. Result Bool Exit) [ Some exit ↦ Err exit | None ↦ Ok taken ] →
    (o ≡ None) × (taken ≡ answer)
on_by None taken answer is = (refl, cc)
on_by (Some exit) taken answer is = cc

pub answered_on : (p : TimerPart) (answer : Bool) → Ok answer ≡ timer_answer p → (p.host.exit ≡ None) × (p.taken ≡ answer)
answered_on p answer is = on_by p.host.exit p.taken answer is

ended_by : (o : Option Exit) (taken : Bool) (end : Exit) →
    Err end ≡ elim o as (λ _. Result Bool Exit) [ Some exit ↦ Err exit | None ↦ Ok taken ] → o ≡ Some end
ended_by None taken end is = cc
ended_by (Some exit) taken end is = cc

pub answered_exit : (p : TimerPart) (exit : Exit) → Err exit ≡ timer_answer p → p.host.exit ≡ Some exit
answered_exit p exit is = ended_by p.host.exit p.taken exit is

-- ---- after an exit, and without one

round_is : (every : ℕ) (w : TimedWorld) (o : Option Exit) → w.watched.host.exit ≡ o → round_with_timer every w
    ≡ elim o as (λ _. TimedWorld) [ Some _ ↦ w | None ↦ after_part w (timer_part (timer_of every w) w.watched.host) ]
unfolding round_with_timer
round_is every w o is =
    ap (λ (x : Option Exit).
    elim x as (λ _. TimedWorld) [ Some _ ↦ w | None ↦ after_part w (timer_part (timer_of every w) w.watched.host) ]) is

pub round_over : (every : ℕ) (w : TimedWorld) (exit : Exit) → w.watched.host.exit ≡ Some exit → round_with_timer every w ≡ w
round_over every w exit is = round_is every w (Some exit) is

pub round_on : (every : ℕ) (w : TimedWorld) → w.watched.host.exit ≡ None →
    round_with_timer every w ≡ after_part w (timer_part (timer_of every w) w.watched.host)
round_on every w none = round_is every w None none

-- ---- the three kinds of rounds

after_taken : (w : TimedWorld) (p : TimerPart) (taken : Bool) → p.taken ≡ taken →
    after_part w p ≡ timed p.timer (if taken then record w.watched { host = p.host } else turn_with_watchpoints w.watched)
after_taken w p taken is =
    ap (λ (b : Bool). timed p.timer (if b then record w.watched { host = p.host } else turn_with_watchpoints w.watched)) is

answered_round : (t : TimerState) (w : WatchWorld) (taken : Bool) → Ok taken ≡ timer_answer (timer_part t w.host) →
    let p = timer_part t w.host in
    round_with_timer t.every (timed t w) ≡ timed p.timer (if taken then record w { host = p.host } else turn_with_watchpoints w)
answered_round t w taken answer =
    let p = timer_part t w.host in
    let is = answered_on p taken answer in
    round_on t.every (timed t w) (part_was_on t w.host is.0) ∙ after_taken (timed t w) p taken is.1

ended_round : (t : TimerState) (w : WatchWorld) (exit : Exit) → w.host.exit ≡ None → Err exit ≡ timer_answer (timer_part t w.host) →
    let p = timer_part t w.host in round_with_timer t.every (timed t w) ≡ timed p.timer (record w { host = p.host })
ended_round t w exit none answer =
    let p = timer_part t w.host in
    round_on t.every (timed t w) none
    ∙ after_taken (timed t w) p true (part_ended t w.host exit (answered_exit p exit answer) none)

-- the timer and the host after the part, and the watchpoints as they were
part_made : (p : TimerPart) (w : WatchWorld) (t : TimerState) (h : HostWorld) → t ≡ p.timer → h ≡ p.host →
    timed t (record w { host = h }) ≡ timed p.timer (record w { host = p.host })
part_made p w t h timer host =
    ap (λ (u : TimerState). timed u (record w { host = h })) timer ∙ ap (λ (g : HostWorld). timed p.timer (record w { host = g })) host

pub interrupt_made : (t next : TimerState) (w : WatchWorld) (h : HostWorld) → next ≡ (timer_part t w.host).timer →
    h ≡ (timer_part t w.host).host →
    Ok true ≡ timer_answer (timer_part t w.host) → timed next (record w { host = h }) ≡ round_with_timer t.every (timed t w)
interrupt_made t next w h timer host answer = part_made (timer_part t w.host) w next h timer host ∙ sym (answered_round t w true answer)

pub exit_made : (t next : TimerState) (w : WatchWorld) (h : HostWorld) (exit : Exit) → w.host.exit ≡ None →
    next ≡ (timer_part t w.host).timer → h ≡ (timer_part t w.host).host → Err exit ≡ timer_answer (timer_part t w.host) →
    timed next (record w { host = h }) ≡ round_with_timer t.every (timed t w)
exit_made t next w h exit none timer host answer =
    part_made (timer_part t w.host) w next h timer host ∙ sym (ended_round t w exit none answer)

-- the turn is made from the host as it was
pub turn_from : (t : TimerState) (before h : HostWorld) → h ≡ (timer_part t before).host →
    Ok false ≡ timer_answer (timer_part t before) → h ≡ before
turn_from t before h host answer = host ∙ part_passed t before (answered_on (timer_part t before) false answer).1

pub turn_made : (t next : TimerState) (w : WatchWorld) (h : HostWorld) (after : WatchWorld) → next ≡ (timer_part t w.host).timer →
    h ≡ (timer_part t w.host).host → Ok false ≡ timer_answer (timer_part t w.host) → after ≡ turn_with_watchpoints (record w { host = h }) →
    timed next after ≡ round_with_timer t.every (timed t w)
turn_made t next w h after timer host answer made =
    ap (timed next) made
    ∙ ap (λ (g : HostWorld). timed next (turn_with_watchpoints (record w { host = g }))) (turn_from t w.host h host answer)
    ∙ ap (λ (u : TimerState). timed u (turn_with_watchpoints w)) timer
    ∙ sym (answered_round t w false answer)

-- the bytes that it changes
turn_footprint_is : (t : TimerState) (w : WatchWorld) → Ok false ≡ timer_answer (timer_part t w.host) →
    round_footprint t.every (timed t w) ≡ watch_footprint w
turn_footprint_is t w answer =
    ap (λ (taken : Bool). if taken then timer_footprint w.host else watch_footprint w) (answered_on (timer_part t w.host) false answer).1

pub turn_changes : (t : TimerState) (w : WatchWorld) (h : HostWorld) (old before new : List ℕ) → h ≡ (timer_part t w.host).host →
    Ok false ≡ timer_answer (timer_part t w.host) → before ≡ old → ChangesOnly (watch_footprint (record w { host = h })) before new →
    ChangesOnly (round_footprint t.every (timed t w)) old new
turn_changes t w h old before new host answer same changes =
    subst (λ (f : Footprint). ChangesOnly f old new)
    (ap (λ (g : HostWorld). watch_footprint (record w { host = g })) (turn_from t w.host h host answer)
    ∙ sym (turn_footprint_is t w answer))
    (subst (λ (b : List ℕ). ChangesOnly (watch_footprint (record w { host = h })) b new) same changes)

-- ---- its start

pub run_starts : (every : ℕ) (h : HostWorld) (t : TimerState) (s : Watching) → t ≡ record { every = every; count = 0; waits = false } →
    s ≡ no_watches → timed t (record { host = h; watching = s }) ≡ timed_rounds every h 0
unfolding rounds
run_starts every h t s timer watches =
    ap (λ (u : TimerState). timed u (record { host = h; watching = s })) timer
    ∙ ap (λ (x : Watching). let w : WatchWorld = record { host = h; watching = x } in with_new_timer w) watches

-- ---- one more round

pub one_more : (every : ℕ) (w : TimedWorld) (n : ℕ) → rounds every w (n + 1) ≡ round_with_timer every (rounds every w n)
unfolding rounds
one_more every w n = rw add-one refl

pub run_goes_on : (every at : ℕ) (h : HostWorld) (n : ℕ) (before after : TimedWorld) → before ≡ timed_rounds every h n → at ≡ every →
    after ≡ round_with_timer at before → after ≡ timed_rounds every h (n + 1)
run_goes_on every at h n before after so_far same made =
    made ∙ ap (λ (e : ℕ). round_with_timer e before) same ∙ ap (round_with_timer every) so_far
    ∙ sym (one_more every (with_new_timer (host_without_watches h)) n)

-- ---- rounds after an exit change nothing

rounds_stop : (every : ℕ) (w : TimedWorld) (i k : ℕ) (exit : Exit) → (rounds every w i).watched.host.exit ≡ Some exit →
    rounds every w (i + k) ≡ rounds every w i
unfolding rounds
rounds_stop every w i zero exit is = rw add-zero refl
rounds_stop every w i (suc k) exit is =
    rw add-suc (ap (round_with_timer every) (rounds_stop every w i k exit is) ∙ round_over every (rounds every w i) exit is)

rounds_past : (every : ℕ) (w : TimedWorld) (i n : ℕ) (exit : Exit) → i ≤ n → (rounds every w i).watched.host.exit ≡ Some exit →
    rounds every w n ≡ rounds every w i
rounds_past every w i n exit le is =
    let split : i + (n - i) ≡ n = omega arith in
    subst (λ m. rounds every w m ≡ rounds every w i) split (rounds_stop every w i (n - i) exit is)

-- ---- its end

-- a run that ends with round i + 1 is over there
pub run_ended : (every : ℕ) (h : HostWorld) (n i : ℕ) (last : TimedWorld) → last ≡ timed_rounds every h (i + 1) → i < n →
    IsSome last.watched.host.exit → with_bound_exit last.watched.host ≡ timed_run every h n
unfolding timed_run
run_ended every h n i last is less some =
    let start = with_new_timer (host_without_watches h) in
    let ended = exit_of last.watched.host.exit some in
    let same = ap (λ (w : TimedWorld). w.watched.host.exit) is in
    let past = rounds_past every start (i + 1) n ended.0 (omega arith) (sym same ∙ ended.1) in
    ap (λ (w : TimedWorld). with_bound_exit w.watched.host) (is ∙ sym past)

-- a run that makes as many rounds as its bound
pub run_bounded : (every : ℕ) (h : HostWorld) (n i : ℕ) (last : TimedWorld) → last ≡ timed_rounds every h i → i ≡ n →
    with_bound_exit last.watched.host ≡ timed_run every h n
unfolding timed_run
run_bounded every h n i last is all = ap (λ (w : TimedWorld). with_bound_exit w.watched.host) (is ∙ ap (timed_rounds every h) all)

-- a run that starts after an exit changes nothing
pub run_over : (every : ℕ) (h : HostWorld) (n : ℕ) (exit : Exit) → h.exit ≡ Some exit → h ≡ timed_run every h n
unfolding timed_run rounds
run_over every h n exit is =
    let start = with_new_timer (host_without_watches h) in
    sym (ap (λ (w : TimedWorld). with_bound_exit w.watched.host) (rounds_past every start 0 n exit (omega arith) is)
    ∙ bounded_ended h exit is)
