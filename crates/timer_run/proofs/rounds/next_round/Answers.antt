use Rattle.std.proofs.Common.{arith, rules, ℕ, Bool, true, false, ◌≡◌, ◌<◌, ◌∙◌, List, None, Ok, Err, ap, refl, subst, sym}
use Rattle.std.specs.Prelude.{IfErr, if◌then◌else◌}
use Rattle.client_world.specs.{declared.limits.TheConstants.{MAX_STEPS}, WatchWorld.{WatchWorld}, World.{HostWorld}}
use Rattle.host_run.specs.{Footprint.{ChangesOnly}, MakesTurn.{turn_answer}, View.{machine_view}}
use Rattle.host_run.proofs.{Runs.{by_exit}, Touches.{kept}}
use Rattle.timer_run.specs.{Rounds.{MakesRound, round_footprint, timed}, Timer.{TimerState, timer_answer, timer_footprint, timer_part}}
use Rattle.timer_run.proofs.RoundParts.{answered_exit, answered_on, part_every, part_steps, exit_made, interrupt_made, turn_changes}
use Rattle.{timer_run.proofs.RoundParts.{turn_from, turn_made}, watch_run.proofs.TurnParts.{no_window}}
use Rattle.watch_run.specs.Turn.{HasUnwatchedWindow, watch_footprint}
use Rattle.timer_run.proofs.rounds.next_round.Goals as goal

-- ---- the round is the interrupt

pub returns-in-Ok-true-clause-round : goal.returns-in-Ok-true-clause-round
returns-in-Ok-true-clause-round c =
    let t = c.args.timer.now in let host = c.begin_round.ensures.host in
    let w : WatchWorld = record { host = c.args.host.now.world; watching = c.args.watches.now } in
    let answer : Ok true ≡ timer_answer (timer_part t w.host) = cc (c.in-Ok-true.field-0-test, c.in-Ok-true.ensures.answer) in
    let on = answered_on (timer_part t w.host) true answer in
    let made : MakesRound c.args.host.now c.begin_round.new.host c.args.watches.now c.args.watches.now t c.begin_round.new.self (Ok tt) =
    record {
      world = interrupt_made t c.begin_round.new.self w c.begin_round.new.host.world c.begin_round.ensures.timer host answer;
      bytes = subst (λ (b : Bool).
          ChangesOnly (if b then timer_footprint w.host else watch_footprint w) c.args.host.now.bytes c.begin_round.new.host.bytes)
          (sym on.1) (c.in-Ok-true.ensures.bytes (cc c.in-Ok-true.field-0-test));
      kept = tt;
      goes_on = ap (λ (h : HostWorld). h.exit) host ∙ on.0;
      ends = tt;
      steps = let same = ap (λ (h : HostWorld). h.steps) host in omega (arith, same, part_steps t w.host);
      was_on = λ _. c.requires.no_exit;
    } in
    by_exit _ _ (Ok tt) _ _ _ made

pub returns-in-Ok-true-clause-every : goal.returns-in-Ok-true-clause-every
returns-in-Ok-true-clause-every c =
    ap (λ (t : TimerState). t.every) c.begin_round.ensures.timer ∙ part_every c.args.timer.now c.args.host.now.world

pub returns-in-Ok-true-clause-window : goal.returns-in-Ok-true-clause-window
returns-in-Ok-true-clause-window c = no_window _ _ _ refl

-- ---- the turn is made

pub next_watched_turn-requires : goal.next_watched_turn-requires
next_watched_turn-requires c =
    let t = c.args.timer.now in let h = c.args.host.now.world in
    let answer : Ok false ≡ timer_answer (timer_part t h) = cc (c.in-Ok-false.field-0-test, c.in-Ok-false.ensures.answer) in
    let same = turn_from t h c.begin_round.new.host.world c.begin_round.ensures.host answer in
    let bytes = c.in-Ok-false.ensures.kept (λ e. cc (c.in-Ok-false.field-0-test, e)) in
    let view : machine_view c.args.host.now ≡ machine_view c.begin_round.new.host = cc (same, bytes) in
    record {
      no_exit = subst (λ (h : HostWorld). h.exit ≡ None) (sym same) c.requires.no_exit;
      room = subst (λ (h : HostWorld). h.steps < MAX_STEPS) (sym same) c.requires.room;
      window = subst (λ v. HasUnwatchedWindow v c.args.watches.now c.args.window.now) view c.requires.window;
    }

pub returns-in-Ok-false-clause-round : goal.returns-in-Ok-false-clause-round
returns-in-Ok-false-clause-round c =
    let t = c.args.timer.now in let before = c.begin_round.new.host in
    let w : WatchWorld = record { host = c.args.host.now.world; watching = c.args.watches.now } in
    let turn = c.next_watched_turn.ensures.turn in
    let answer : Ok false ≡ timer_answer (timer_part t w.host) = cc (c.in-Ok-false.field-0-test, c.in-Ok-false.ensures.answer) in
    let bytes = c.in-Ok-false.ensures.kept (λ e. cc (c.in-Ok-false.field-0-test, e)) in
    let same = turn_from t w.host before.world c.begin_round.ensures.host answer in
    record {
      world =
          turn_made t c.begin_round.new.self w before.world
          (record { host = c.next_watched_turn.new.h.world; watching = c.next_watched_turn.new.w })
          c.begin_round.ensures.timer c.begin_round.ensures.host answer turn.world;
      bytes =
          turn_changes t w before.world c.args.host.now.bytes before.bytes c.next_watched_turn.new.h.bytes c.begin_round.ensures.host answer
          bytes turn.bytes;
      kept = subst (λ (b : List ℕ). IfErr (turn_answer c.next_watched_turn.new.h.world.exit) (λ _. c.next_watched_turn.new.h.bytes ≡ b))
          bytes turn.kept;
      goes_on = turn.goes_on;
      ends = turn.ends;
      steps = let host = ap (λ (h : HostWorld). h.steps) same in omega (arith, host, turn.steps);
      was_on = λ _. c.requires.no_exit;
    }

pub returns-in-Ok-false-clause-every : goal.returns-in-Ok-false-clause-every
returns-in-Ok-false-clause-every c =
    ap (λ (t : TimerState). t.every) c.begin_round.ensures.timer ∙ part_every c.args.timer.now c.args.host.now.world

-- ---- there is an exit

pub returns-in-Err-clause-round : goal.returns-in-Err-clause-round
returns-in-Err-clause-round c =
    let t = c.args.timer.now in let host = c.begin_round.ensures.host in
    let w : WatchWorld = record { host = c.args.host.now.world; watching = c.args.watches.now } in
    let bytes = c.in-Err.ensures.kept (λ e. cc) in
    let ended = ap (λ (h : HostWorld). h.exit) host ∙ answered_exit (timer_part t w.host) c.in-Err.field-0 c.in-Err.ensures.answer in
    let made : MakesRound c.args.host.now c.begin_round.new.host c.args.watches.now c.args.watches.now t c.begin_round.new.self
    (Err c.in-Err.field-0) =
    record {
      world = exit_made t c.begin_round.new.self w c.begin_round.new.host.world c.in-Err.field-0 c.requires.no_exit
          c.begin_round.ensures.timer host c.in-Err.ensures.answer;
      bytes = kept (round_footprint t.every (timed t w)) c.args.host.now.bytes c.begin_round.new.host.bytes bytes;
      kept = bytes;
      goes_on = tt;
      ends = search (rules, ended);
      steps = let same = ap (λ (h : HostWorld). h.steps) host in omega (arith, same, part_steps t w.host);
      was_on = λ _. c.requires.no_exit;
    } in
    by_exit _ _ (Err c.in-Err.field-0) _ _ _ made

pub returns-in-Err-clause-every : goal.returns-in-Err-clause-every
returns-in-Err-clause-every c =
    ap (λ (t : TimerState). t.every) c.begin_round.ensures.timer ∙ part_every c.args.timer.now c.args.host.now.world
