-- Turns, one after another, and those after an exit, which change nothing.
use Rattle.std.proofs.Common.{arith, ◌≡◌, ◌≤◌, ◌+◌, ◌-◌, ℕ, zero, suc, refl, sym, ◌∙◌, ap, subst, add-zero, add-suc, add-one, None, Some}
use Rattle.std.specs.{Prelude.{IsSome}, declared.option.Option.{Option}}
use Rattle.client_world.specs.{WatchWorld.{WatchWorld}, World.{HostWorld}}
use Rattle.dpmi_cli.specs.Runs.{host_at_end}
use Rattle.dpmi_calls.specs.Turns.{before_turns, host_after, next_turn, turns_from}
use Rattle.host_run.specs.Run.{with_bound_exit}
use Rattle.host_run.proofs.Runs.{exit_of}
use Rattle.timer_run.specs.Rounds.{TimedWorld, round_with_timer, rounds, timed_run, with_new_timer}
use Rattle.timer_run.proofs.RoundParts.{round_over}
use Rattle.watch_run.specs.Turn.{turns_with_watchpoints, watched_run}
use Rattle.watch_run.proofs.WatchedTurns.{stays}

pub one_more : (timer : Option ℕ) (w : TimedWorld) (n : ℕ) → turns_from timer w (n + 1) ≡ next_turn timer (turns_from timer w n)
unfolding turns_from
one_more timer w n = rw add-one refl

-- ---- after an exit

over : (timer : Option ℕ) (w : TimedWorld) → IsSome w.watched.host.exit → next_turn timer w ≡ w
over None w some = ap (λ (x : WatchWorld). record w { watched = x }) (stays w.watched some)
over (Some every) w some = let ended = exit_of w.watched.host.exit some in round_over every w ended.0 ended.1

stop : (timer : Option ℕ) (w : TimedWorld) (i k : ℕ) → IsSome (turns_from timer w i).watched.host.exit →
    turns_from timer w (i + k) ≡ turns_from timer w i
unfolding turns_from
stop timer w i zero some = rw add-zero refl
stop timer w i (suc k) some = rw add-suc (ap (next_turn timer) (stop timer w i k some) ∙ over timer (turns_from timer w i) some)

pub past : (timer : Option ℕ) (w : TimedWorld) (i n : ℕ) → i ≤ n → IsSome (turns_from timer w i).watched.host.exit →
    turns_from timer w n ≡ turns_from timer w i
past timer w i n le some =
    let split : i + (n - i) ≡ n = omega arith in
    subst (λ m. turns_from timer w m ≡ turns_from timer w i) split (stop timer w i (n - i) some)

-- ---- they are those of the command's run

plain : (w : WatchWorld) (n : ℕ) → turns_from None (with_new_timer w) n ≡ with_new_timer (turns_with_watchpoints w n)
unfolding turns_from turns_with_watchpoints
plain w zero = refl
plain w (suc n) = ap (next_turn None) (plain w n)

with_rounds : (every : ℕ) (w : TimedWorld) (n : ℕ) → turns_from (Some every) w n ≡ rounds every w n
unfolding turns_from rounds
with_rounds every w zero = refl
with_rounds every w (suc n) = ap (round_with_timer every) (with_rounds every w n)

pub same_run : (timer : Option ℕ) (h : HostWorld) (n : ℕ) → host_at_end h timer n ≡ with_bound_exit (host_after timer h n)
unfolding watched_run timed_run
same_run None h n = ap (λ (w : TimedWorld). with_bound_exit w.watched.host) (sym (plain (before_turns h).watched n))
same_run (Some every) h n = ap (λ (w : TimedWorld). with_bound_exit w.watched.host) (sym (with_rounds every (before_turns h) n))
