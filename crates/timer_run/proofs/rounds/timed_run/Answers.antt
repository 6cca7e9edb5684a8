use Rattle.{std.proofs.Common.{arith, ◌∙◌, ap, refl, sym}, host_run.specs.View.{HostView}, watch_run.proofs.TurnParts.{no_window}}
use Rattle.{timer_run.specs.Timer.{TimerState}, timer_run.proofs.RoundParts.{run_bounded, run_ended, run_goes_on, run_over, run_starts}}
use Rattle.timer_run.proofs.rounds.timed_run.Goals as goal

pub returns-in-Some-clause-world : goal.returns-in-Some-clause-world
returns-in-Some-clause-world c = run_over c.args.every c.args.host.now.world c.args.bound c.in-Some.exit (sym c.in-Some.ensures)

pub loop-count-init : goal.loop-count-init
loop-count-init c = (
  run_starts c.args.every c.args.host.now.world c.new-timer.result c.new-watches.result c.new-timer.ensures c.new-watches.ensures,
  ap (λ (t : TimerState). t.every) c.new-timer.ensures,
  omega arith,
  sym c.in_default.ensures,
  no_window _ _ _ refl,
)

pub next_round-requires : goal.next_round-requires
next_round-requires c = record {
  no_exit = c.loop-count.invariant.3;
  room = let room = c.requires.room (sym c.in_default.ensures) in omega arith;
  window = c.loop-count.invariant.4;
}

pub loop-count-preserved : goal.loop-count-preserved
loop-count-preserved c = (
  run_goes_on c.args.every c.loop-count.timer.every c.args.host.now.world c.loop-count.count _ _ c.loop-count.invariant.0
      c.loop-count.invariant.1
      c.next_round.ensures.round.world,
  c.next_round.ensures.every ∙ c.loop-count.invariant.1,
  omega arith,
  c.in_default-next_round.ensures.answer,
  c.next_round.ensures.window,
)

pub returns-in-Err-clause-world : goal.returns-in-Err-clause-world
returns-in-Err-clause-world c =
    ap (λ (v : HostView). v.world) c.end_run.ensures.host
    ∙ run_ended c.args.every c.args.host.now.world c.args.bound c.loop-count.count _
    (run_goes_on c.args.every c.loop-count.timer.every c.args.host.now.world c.loop-count.count _ _ c.loop-count.invariant.0
    c.loop-count.invariant.1
    c.next_round.ensures.round.world)
    c.loop-count-test.true c.in-Err.ensures.answer

pub returns-clause-world : goal.returns-clause-world
returns-clause-world c =
    ap (λ (v : HostView). v.world) c.end_run-2.ensures.host
    ∙ run_bounded c.args.every c.args.host.now.world c.args.bound c.loop-count.count _ c.loop-count.invariant.0
    (omega (arith, c.loop-count-test.false, c.loop-count.auto.count-end))
