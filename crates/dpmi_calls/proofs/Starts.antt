-- The world of a run: before its first turn, and after one more.
use Rattle.std.proofs.Common.{arith, ◌≡◌, ◌∙◌, ◌≤◌, ◌+◌, ℕ, false, refl, sym, ap, subst, inl, inr, None, Some}
use Rattle.std.specs.{Prelude.{◌⊎◌, IsSome}, Option.{is_some}, declared.option.Option.{Option}}
use Rattle.client_world.specs.{declared.outcome.Exit.{Exit}, WatchWorld.{WatchWorld, Watching, host_without_watches, no_watches}}
use Rattle.client_world.specs.World.{HostWorld}
use Rattle.dpmi_calls.specs.{Clients.{ClientGiven, answer_of, client_at_start, given, refusal_of, timer_given}, Runs.{IsRun, every_by}}
use Rattle.dpmi_calls.specs.{Runs.{every_of, world_by, world_of}, Turns.{before_turns, client_after, host_of, next_turn, turns_from}}
use Rattle.dpmi_calls.specs.{declared.run.ClientRun.{ClientRun}, declared.start.Client.{Client}}
use Rattle.dpmi_calls.proofs.Turns.{one_more, past}
use Rattle.dpmi_cli.specs.{Answer.{Refuses, Starts, Verdict, answer_to}, declared.prepare.Reason.{Reason}}
use Rattle.host_run.specs.View.{machine_view}
use Rattle.timer_run.specs.{Rounds.{TimedWorld, round_with_timer, timed, with_new_timer}, Timer.{TimerState}}
use Rattle.watch_run.specs.Turn.{HasUnwatchedWindow, turn_with_watchpoints}

host_by : (t : Option TimerState) (w : WatchWorld) → (world_by t w).watched.host ≡ w.host
host_by None w = refl
host_by (Some t) w = refl

-- the run's host is that of its client after the turns that it counts
pub host_is : (r : ClientRun) → IsRun r → r.host.world ≡ host_of (given r.client) r.turns
host_is r run =
    sym (host_by r.timer (record { host = r.host.world; watching = r.watches })) ∙ ap (λ (w : TimedWorld). w.watched.host) run.world

-- a run in which there is no exit is that of a client that had not ended after as many turns
exit_by : (o : Option Exit) → is_some o ≡ false → o ≡ None
exit_by None is = refl
exit_by (Some exit) is = absurd cc

pub exit_at : (c : Client) (n : ℕ) (r : ClientRun) → IsRun r → r.client ≡ c → r.turns ≡ n → is_some r.host.world.exit ≡ false →
    (host_of (given c) n).exit ≡ None
exit_at c n r run client turns is =
    ap (λ (h : HostWorld). h.exit) (sym (host_is r run ∙ ap (λ (x : Client). host_of (given x) r.turns) client
    ∙ ap (host_of (given c)) turns)) ∙ exit_by r.host.world.exit is

-- one more turn
run_next : (c : ClientGiven) (n : ℕ) (every : Option ℕ) (before after : TimedWorld) → every ≡ timer_given c.timer →
    before ≡ client_after c n → after ≡ next_turn every before → after ≡ client_after c (n + 1)
run_next c n every before after timer was is =
    is ∙ ap (λ (e : Option ℕ). next_turn e before) timer ∙ ap (next_turn (timer_given c.timer)) was ∙ sym (one_more _ _ n)

-- it is made: the run is after it, whatever its timer is
stepped : (r new : ClientRun) → IsRun r → every_of new ≡ every_of r → new.client ≡ r.client → new.turns ≡ r.turns + 1 →
    world_of new ≡ next_turn (every_of r) (world_of r) → HasUnwatchedWindow (machine_view new.host) new.watches new.window →
    new.host.world.steps ≤ r.host.world.steps + 1 → IsRun new
stepped r new run every client turns is window steps = record {
  timer = every ∙ run.timer ∙ ap (λ (c : Client). timer_given c.timer) (sym client);
  world =
      run_next (given r.client) r.turns (every_of r) (world_of r) (world_of new) run.timer run.world is
      ∙ ap (λ (c : Client). client_after (given c) (r.turns + 1)) (sym client) ∙ ap (client_after (given new.client)) (sym turns);
  window = window;
  steps = let few = run.steps in omega (arith, few, steps, turns);
}

-- without a timer
pub stepped_plain : (r new : ClientRun) → IsRun r → r.timer ≡ None → new.timer ≡ None → new.client ≡ r.client → new.turns ≡ r.turns + 1 →
    record { host = new.host.world; watching = new.watches }
    ≡ turn_with_watchpoints (record { host = r.host.world; watching = r.watches }) →
    HasUnwatchedWindow (machine_view new.host) new.watches new.window → new.host.world.steps ≤ r.host.world.steps + 1 → IsRun new
stepped_plain r new run none still client turns is window steps =
    let w : WatchWorld = record { host = r.host.world; watching = r.watches } in
    let after : WatchWorld = record { host = new.host.world; watching = new.watches } in
    stepped r new run (ap every_by still ∙ sym (ap every_by none)) client turns
    (ap (λ (t : Option TimerState). world_by t after) still ∙ ap with_new_timer is
    ∙ sym (ap (λ (t : Option TimerState). next_turn (every_by t) (world_by t w)) none))
    window steps

-- with one
pub stepped_timed : (r new : ClientRun) (t u : TimerState) → IsRun r → r.timer ≡ Some t → new.timer ≡ Some u → u.every ≡ t.every →
    new.client ≡ r.client → new.turns ≡ r.turns + 1 →
    timed u (record { host = new.host.world; watching = new.watches })
    ≡ round_with_timer t.every (timed t (record { host = r.host.world; watching = r.watches })) →
    HasUnwatchedWindow (machine_view new.host) new.watches new.window → new.host.world.steps ≤ r.host.world.steps + 1 → IsRun new
stepped_timed r new t u run some still same client turns is window steps =
    let w : WatchWorld = record { host = r.host.world; watching = r.watches } in
    let after : WatchWorld = record { host = new.host.world; watching = new.watches } in
    stepped r new run (ap every_by still ∙ ap (λ n. Some n) same ∙ sym (ap every_by some)) client turns
    (ap (λ (v : Option TimerState). world_by v after) still ∙ is
    ∙ sym (ap (λ (v : Option TimerState). next_turn (every_by v) (world_by v w)) some))
    window steps

-- turns after the client's end change nothing
pub at_turn : (r : ClientRun) (turn : ℕ) → IsRun r → r.turns ≤ turn → (r.turns ≡ turn) ⊎ IsSome r.host.world.exit →
    IsRun (record r { turns = turn })
at_turn r turn run le (inl same) = subst (λ (n : ℕ). IsRun (record r { turns = n })) same run
at_turn r turn run le (inr ended) = record {
  timer = run.timer;
  world =
      run.world
      ∙ sym (past (timer_given r.client.timer) (before_turns (client_at_start (given r.client) 0)) r.turns turn le
      (subst (λ (h : HostWorld). IsSome h.exit) (host_is r run) ended));
  window = run.window;
  steps = let few = run.steps in omega (arith, few, le);
}

-- before the first turn
pub started : (c : Client) (t : Option TimerState) (w : WatchWorld) → world_by t w ≡ with_new_timer w → w.watching ≡ no_watches →
    w.host ≡ client_at_start (given c) 0 → world_by t w ≡ client_after (given c) 0
unfolding turns_from
started c t w new watches host =
    new ∙ ap (λ (s : Watching). with_new_timer (record { host = w.host; watching = s })) watches
    ∙ ap (λ (h : HostWorld). with_new_timer (host_without_watches h)) host

-- the answer of a client that is taken, by the host in which it starts, and its timer
pub answer_started : (c : ClientGiven) (bound trace : ℕ) (h : HostWorld) (timer : Option ℕ) → refusal_of c bound trace ≡ None →
    h ≡ client_at_start c trace → timer ≡ timer_given c.timer → answer_to (Starts h timer bound) ≡ answer_of c bound trace
answer_started c bound trace h timer taken is every =
    ap (λ (t : Option ℕ). answer_to (Starts h t bound)) every
    ∙ ap (λ (w : HostWorld). answer_to (Starts w (timer_given c.timer) bound)) is
    ∙ sym (ap (λ (o : Option Reason). answer_to (elim o as (λ _. Verdict) [
      | None ↦ Starts (client_at_start c trace) (timer_given c.timer) bound
      | Some reason ↦ Refuses reason
    ])) taken)
