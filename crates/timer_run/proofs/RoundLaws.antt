-- What rounds keep, count and write. Each is the timer's interrupt, or a turn with watchpoints.
use Rattle.std.proofs.Common.{arith, ◌≡◌, ◌≢◌, ◌∙◌, ◌+◌, ℕ, zero, suc, Bool, true, false, List, [], ◌∷◌, ◌++◌, length, Option, None, Some}
use Rattle.std.proofs.{Common.{refl, sym, ap, subst}, lemmas.List.{append-nil, length_push, same_from_push}, lemmas.List.Elements.{All-nil}}
use Rattle.std.specs.Prelude.{All, IsSome, if◌then◌else◌}
use Rattle.client_world.specs.{declared.calls.Record.{Record}, declared.outcome.Exit.{Exit}}
use Rattle.client_world.specs.{declared.outcome.Exit.TheVariants.{ConsoleFull}, Access.{IsHeld}, Console.{Extends}, Soundness.{IsSound}}
use Rattle.client_world.specs.{Soundness.{IsSoundHost}, WatchWorld.{WatchWorld, host_without_watches}, World.{HostWorld}}
use Rattle.host_run.specs.{Keys.{HasKeys}, Nested.{IsHandedOver, PushesRecord, Stacked, kept, popped, pushed}, OtherTurns.{interrupt_turn}}
use Rattle.host_run.specs.RealCalls.{InterruptSource, from_anywhere, from_client, from_outside}
use Rattle.host_run.proofs.{OtherTurns.{bounded_sound, host_sound, interrupt_keeps, interrupt_quiet, reached}, Sound.{leaves_itself}}
use Rattle.host_run.proofs.{Sound.{machine_by, outside_by}, TurnLaws.{IsReached, LeavesBy}}
use Rattle.timer_run.specs.{declared.timer.TheConstants.{TIMER_INTERRUPT}, Rounds.{TimedWorld, after_part, is_interrupt, round_with_timer}}
use Rattle.timer_run.specs.Rounds.{rounds, source_of_round, timed_rounds, timed_run, timed_turns, timer_of, touched_by_round}
use Rattle.timer_run.specs.{Rounds.{with_new_timer}, Timer.{TimerPart, TimerState, timer_part}}
use Rattle.timer_run.proofs.RoundParts.{part_has, round_on, round_over, one_more}
use Rattle.watch_run.specs.Turn.{touched_by_watch_turn, turn_with_watchpoints}
use Rattle.watch_run.proofs.WatchedTurns.{counts, extends, turn_keeps_all}

-- ---- what each kind of round has, every round has

round_by : (P : HostWorld → Type 0) (every : ℕ) (w : TimedWorld) (o : Option Exit) → w.watched.host.exit ≡ o →
    ((exit : Exit) → w.watched.host.exit ≡ Some exit → P w.watched.host) → P (interrupt_turn w.watched.host TIMER_INTERRUPT) →
    P (turn_with_watchpoints w.watched).host → P (round_with_timer every w).watched.host
round_by P every w (Some exit) is ended interrupt turn =
    subst (λ (v : TimedWorld). P v.watched.host) (sym (round_over every w exit is)) (ended exit is)
round_by P every w None is ended interrupt turn =
    subst (λ (v : TimedWorld). P v.watched.host) (sym (round_on every w is))
    (part_has (λ p. P (after_part w p).watched.host) (timer_of every w) w.watched.host (λ _ _. turn) (λ _. interrupt) (λ _. turn))

round_has : (P : HostWorld → Type 0) (every : ℕ) (w : TimedWorld) → ((exit : Exit) → w.watched.host.exit ≡ Some exit → P w.watched.host) →
    P (interrupt_turn w.watched.host TIMER_INTERRUPT) → P (turn_with_watchpoints w.watched).host → P (round_with_timer every w).watched.host
round_has P every w ended interrupt turn = round_by P every w w.watched.host.exit refl ended interrupt turn

-- ---- the count of turns and the console

pub round_counted : (every : ℕ) (w : TimedWorld) → w.watched.host.exit ≡ None →
    (round_with_timer every w).watched.host.steps ≡ w.watched.host.steps + 1
round_counted every w none =
    round_has (λ h. h.steps ≡ w.watched.host.steps + 1) every w (λ exit is. cc) (interrupt_quiet w.watched.host TIMER_INTERRUPT).2
    (counts w.watched none)

same_console : (before after : List ℕ) → after ≡ before → Extends before after
same_console before after same = ([], same ∙ sym (append-nil before))

pub round_extends : (every : ℕ) (w : TimedWorld) → Extends w.watched.host.console (round_with_timer every w).watched.host.console
round_extends every w =
    let h = w.watched.host in
    round_has (λ (after : HostWorld). Extends h.console after.console) every w (λ _ _. same_console h.console h.console refl)
    (same_console h.console (interrupt_turn h TIMER_INTERRUPT).console (interrupt_quiet h TIMER_INTERRUPT).1)
    (extends w.watched)

-- ---- soundness, and the records of calls

-- what a round keeps of the host, given whose interrupt it may reflect
record KeepsRound (source : InterruptSource) (h after : HostWorld) : Type 0 where
  reached : IsReached after
  calls : Stacked source h after
  sound : IsSoundHost h → IsSoundHost after
  leaves : LeavesBy h after after.exit

same_keeps : (source : InterruptSource) (h : HostWorld) → IsReached h → KeepsRound source h h
same_keeps source h s = record { reached = s; calls = kept refl; sound = λ sound. sound; leaves = leaves_itself h h.exit }

interrupt_round : (h : HostWorld) → IsReached h → KeepsRound from_outside h (interrupt_turn h TIMER_INTERRUPT)
interrupt_round h s =
    let k = interrupt_keeps h TIMER_INTERRUPT s in
    record {
      reached = k.reached;
      calls = k.calls;
      sound = λ sound. host_sound h (interrupt_turn h TIMER_INTERRUPT) sound k;
      leaves = k.leaves;
    }

turn_round : (w : WatchWorld) → IsReached w.host → KeepsRound from_client w.host (turn_with_watchpoints w).host
turn_round w s = let k = turn_keeps_all w s in record { reached = k.reached; calls = k.calls; sound = k.sound; leaves = k.leaves }

part_keeps : (t : TimerState) (h : HostWorld) → IsReached h → KeepsRound from_outside h (timer_part t h).host
part_keeps t h s =
    part_has (λ p. KeepsRound from_outside h p.host) t h (λ _ _. same_keeps from_outside h s) (λ _. interrupt_round h s)
    (λ _. same_keeps from_outside h s)

pub part_sound : (t : TimerState) (h : HostWorld) → IsSoundHost h → HasKeys h → IsSoundHost (timer_part t h).host
part_sound t h s keys = (part_keeps t h (reached h s keys)).sound s

pub part_calls : (t : TimerState) (h : HostWorld) → IsSoundHost h → HasKeys h → Stacked from_outside h (timer_part t h).host
part_calls t h s keys = (part_keeps t h (reached h s keys)).calls

-- by whether the timer's part was the whole round
abbrev source_by : Bool → InterruptSource
source_by taken = if taken then from_outside else from_client

part_round : (w : TimedWorld) (p : TimerPart) (taken : Bool) → p.taken ≡ taken → KeepsRound from_outside w.watched.host p.host →
    KeepsRound from_client w.watched.host (turn_with_watchpoints w.watched).host →
    KeepsRound (source_by taken) w.watched.host (after_part w p).watched.host
part_round w p true is interrupt turn = rw is interrupt
part_round w p false is interrupt turn = rw is turn

round_keeps_by : (every : ℕ) (w : TimedWorld) (o : Option Exit) → w.watched.host.exit ≡ o → IsReached w.watched.host →
    KeepsRound (source_of_round every w) w.watched.host (round_with_timer every w).watched.host
round_keeps_by every w (Some exit) is s =
    subst (λ (v : TimedWorld). KeepsRound (source_of_round every w) w.watched.host v.watched.host) (sym (round_over every w exit is))
    (same_keeps (source_of_round every w) w.watched.host s)
round_keeps_by every w None is s =
    subst (λ (v : TimedWorld). KeepsRound (source_of_round every w) w.watched.host v.watched.host) (sym (round_on every w is))
    (part_round w (timer_part (timer_of every w) w.watched.host) (is_interrupt every w) refl
    (part_keeps (timer_of every w) w.watched.host s) (turn_round w.watched s))

round_keeps : (every : ℕ) (w : TimedWorld) → IsReached w.watched.host →
    KeepsRound (source_of_round every w) w.watched.host (round_with_timer every w).watched.host
round_keeps every w s = round_keeps_by every w w.watched.host.exit refl s

pub round_sound : (every : ℕ) (w : TimedWorld) → IsSoundHost w.watched.host → HasKeys w.watched.host →
    IsSoundHost (round_with_timer every w).watched.host
round_sound every w s keys = (round_keeps every w (reached w.watched.host s keys)).sound s

pub round_keys : (every : ℕ) (w : TimedWorld) → IsSound w.watched.host.machine → HasKeys w.watched.host →
    HasKeys (round_with_timer every w).watched.host
round_keys every w sound keys = (round_keeps every w (record { machine = sound; keys = keys })).reached.keys

pub round_exit : (every : ℕ) (w : TimedWorld) → IsSound w.watched.host.machine → HasKeys w.watched.host →
    IsSome (round_with_timer every w).watched.host.exit → (round_with_timer every w).watched.host.machine ≡ w.watched.host.machine
round_exit every w sound keys ended =
    let after = (round_with_timer every w).watched.host in
    machine_by w.watched.host after after.exit (round_keeps every w (record { machine = sound; keys = keys })).leaves ended

pub round_exit_outside : (every : ℕ) (w : TimedWorld) (exit : Exit) → IsSound w.watched.host.machine → HasKeys w.watched.host →
    (round_with_timer every w).watched.host.exit ≡ Some exit → exit ≢ ConsoleFull →
    ((round_with_timer every w).watched.host.keys ≡ w.watched.host.keys)
    × ((round_with_timer every w).watched.host.console ≡ w.watched.host.console)
round_exit_outside every w exit sound keys is other =
    let after = (round_with_timer every w).watched.host in
    outside_by w.watched.host after after.exit exit (round_keeps every w (record { machine = sound; keys = keys })).leaves is other

-- ---- a round that is the interrupt, and one that isn't

abbrev RoundCalls : ℕ → TimedWorld → InterruptSource → Type 0
RoundCalls every w source = Stacked source w.watched.host (round_with_timer every w).watched.host

pub round_interrupt : (every : ℕ) (w : TimedWorld) → IsSound w.watched.host.machine → HasKeys w.watched.host → is_interrupt every w ≡ true →
    RoundCalls every w from_outside
round_interrupt every w sound keys is =
    subst (λ (b : Bool). RoundCalls every w (source_by b)) is (round_keeps every w (record { machine = sound; keys = keys })).calls

pub round_turn : (every : ℕ) (w : TimedWorld) → IsSound w.watched.host.machine → HasKeys w.watched.host → is_interrupt every w ≡ false →
    RoundCalls every w from_client
round_turn every w sound keys is =
    subst (λ (b : Bool). RoundCalls every w (source_by b)) is (round_keeps every w (record { machine = sound; keys = keys })).calls

-- ---- runs

rounds_reached : (every : ℕ) (w : TimedWorld) (n : ℕ) → IsReached w.watched.host → IsReached (rounds every w n).watched.host
unfolding rounds
rounds_reached every w zero s = s
rounds_reached every w (suc n) s = (round_keeps every (rounds every w n) (rounds_reached every w n s)).reached

rounds_sound : (every : ℕ) (w : TimedWorld) (n : ℕ) → IsSoundHost w.watched.host → HasKeys w.watched.host →
    IsSoundHost (rounds every w n).watched.host
unfolding rounds
rounds_sound every w zero s keys = s
rounds_sound every w (suc n) s keys =
    (round_keeps every (rounds every w n) (rounds_reached every w n (reached w.watched.host s keys))).sound (rounds_sound every w n s keys)

-- ---- from a host whose client has set no watchpoint

timed_reached : (every : ℕ) (h : HostWorld) (n : ℕ) → IsSound h.machine → HasKeys h → IsReached (timed_turns every h n)
timed_reached every h n sound keys =
    rounds_reached every (with_new_timer (host_without_watches h)) n (record { machine = sound; keys = keys })

pub timed_sound : (every : ℕ) (h : HostWorld) (n : ℕ) → IsSound h.machine → HasKeys h → IsSound (timed_turns every h n).machine
timed_sound every h n sound keys = (timed_reached every h n sound keys).machine

pub timed_sound_host : (every : ℕ) (h : HostWorld) (n : ℕ) → IsSoundHost h → HasKeys h → IsSoundHost (timed_turns every h n)
timed_sound_host every h n s keys = rounds_sound every (with_new_timer (host_without_watches h)) n s keys

pub run_sound_host : (every : ℕ) (h : HostWorld) (n : ℕ) → IsSoundHost h → HasKeys h → IsSoundHost (timed_run every h n)
unfolding timed_run
run_sound_host every h n s keys = bounded_sound (timed_turns every h n) (timed_sound_host every h n s keys)

pub timed_calls : (every : ℕ) (h : HostWorld) (n : ℕ) → IsSound h.machine → HasKeys h →
    Stacked (source_of_round every (timed_rounds every h n)) (timed_turns every h n) (timed_turns every h (n + 1))
timed_calls every h n sound keys =
    let w = timed_rounds every h n in
    subst (λ (v : TimedWorld). Stacked (source_of_round every w) w.watched.host v.watched.host)
    (sym (one_more every (with_new_timer (host_without_watches h)) n))
    (round_keeps every w (timed_reached every h n sound keys)).calls

-- the record that a turn adds is one that the turn may add
pub pushed_by : (source : InterruptSource) (w v : HostWorld) (r : Record) → v.machine.calls ≡ w.machine.calls ++ r ∷ [] →
    Stacked source w v → PushesRecord source w r v
pushed_by source w v r is (kept same) =
    absurd (let e = ap length (sym same ∙ is) in let more = length_push w.machine.calls r in omega arith)
pushed_by source w v r is (pushed s e pushes) =
    let same = (same_from_push w.machine.calls w.machine.calls s r (sym e ∙ is)).1 in
    subst (λ (x : Record). PushesRecord source w x v) same pushes
pushed_by source w v r is (popped s e pops) =
    absurd (let less = ap length e in let one = length_push v.machine.calls s in let more = length_push w.machine.calls r in
    let all = ap length is in omega arith)

abbrev pub matched_by_source : (every : ℕ) (h : HostWorld) (i j : ℕ) → IsSound h.machine → HasKeys h →
    (m : IsHandedOver from_anywhere (timed_turns every h) i j) →
    IsHandedOver (source_of_round every (timed_rounds every h i)) (timed_turns every h) i j
matched_by_source every h i j sound keys m = record {
  innermost = m.innermost;
  push = m.push;
  pushes = pushed_by (source_of_round every (timed_rounds every h i)) (timed_turns every h i) (timed_turns every h (i + 1)) m.innermost
      m.push (timed_calls every h i sound keys);
  stays = m.stays;
  pop = m.pop;
  pops = m.pops;
  rest = m.rest;
}

-- ---- what is touched

touched_by : (w : WatchWorld) (taken : Bool) → All (IsHeld w.host.machine) (touched_by_watch_turn w) →
    All (IsHeld w.host.machine) (if taken then [] else touched_by_watch_turn w)
touched_by w true held = All-nil (IsHeld w.host.machine)
touched_by w false held = held

pub round_touches : ((w : WatchWorld) → All (IsHeld w.host.machine) (touched_by_watch_turn w)) → (every : ℕ) (w : TimedWorld) →
    All (IsHeld w.watched.host.machine) (touched_by_round every w)
round_touches law every w = touched_by w.watched (timer_part (timer_of every w) w.watched.host).taken (law w.watched)
