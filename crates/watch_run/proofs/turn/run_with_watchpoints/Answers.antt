use Rattle.{std.proofs.Common.{arith, refl, sym, ◌∙◌, ap}, client_world.specs.WatchWorld.{WatchWorld}, host_run.specs.View.{HostView}}
use Rattle.watch_run.proofs.{TurnParts.{no_window}, Runs.{run_ended, run_over}, WatchedTurns.{one_more}}
use Rattle.watch_run.specs.Turn.{turn_with_watchpoints, turns_with_watchpoints}
use Rattle.watch_run.proofs.turn.run_with_watchpoints.Goals as goal

pub returns-in-Some-clause-world : goal.returns-in-Some-clause-world
returns-in-Some-clause-world c =
    let first : WatchWorld = record { host = c.args.h.now.world; watching = c.args.w.now } in
    run_over first c.args.bound c.in-Some.exit (sym c.in-Some.ensures)

pub loop-count-init : goal.loop-count-init
unfolding turns_with_watchpoints
loop-count-init c = (refl, omega arith, sym c.in_default.ensures, no_window _ _ _ refl)

pub next_watched_turn-requires : goal.next_watched_turn-requires
next_watched_turn-requires c = record {
  no_exit = c.loop-count.invariant.2;
  room = let room = c.requires (sym c.in_default.ensures) in omega arith;
  window = c.loop-count.invariant.3;
}

pub loop-count-preserved : goal.loop-count-preserved
loop-count-preserved c =
    let first : WatchWorld = record { host = c.args.h.now.world; watching = c.args.w.now } in (
      c.next_watched_turn.ensures.turn.world ∙ ap turn_with_watchpoints c.loop-count.invariant.0 ∙ sym (one_more first c.loop-count.count),
      omega arith,
      c.in_default-next_watched_turn.ensures.answer,
      c.next_watched_turn.ensures.window,
    )

pub returns-in-Err-clause-world : goal.returns-in-Err-clause-world
returns-in-Err-clause-world c =
    let first : WatchWorld = record { host = c.args.h.now.world; watching = c.args.w.now } in
    let last : WatchWorld = record { host = c.next_watched_turn.new.h.world; watching = c.next_watched_turn.new.w } in
    ap (λ (v : HostView). let w : WatchWorld = record { host = v.world; watching = last.watching } in w) c.end_run.ensures.host
    ∙ run_ended first last c.args.bound c.loop-count.count
    (c.next_watched_turn.ensures.turn.world ∙ ap turn_with_watchpoints c.loop-count.invariant.0 ∙ sym (one_more first c.loop-count.count))
    c.loop-count-test.true c.in-Err.ensures.answer
