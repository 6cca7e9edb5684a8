use Rattle.{std.proofs.Common.{arith, sym, subst}, std.specs.Prelude.{IsSome}, client_world.specs.declared.outcome.Exit.TheVariants.{Bound}}
use Rattle.dpmi_io.proofs.Output.{puts_cut, puts_returned, puts_then}
use Rattle.pair_run.proofs.{OwnRuns.{client_of, closed_ends, room, run_ends, turns_none}, PairTexts.{when_err}}
use Rattle.pair_run.proofs.slices.pair.Goals as goal

pub returns-in_err-put_head-clause-some_a : goal.returns-in_err-put_head-clause-some_a
returns-in_err-put_head-clause-some_a g c =
    when_err c.from_residual.result (0, omega arith, sym (turns_none g.T.Turns.turn (g.T.Turns.world c.args.a.now)))

pub returns-in_err-put_head-clause-some_b : goal.returns-in_err-put_head-clause-some_b
returns-in_err-put_head-clause-some_b g c =
    when_err c.from_residual.result (0, omega arith, sym (turns_none g.T.Turns.turn (g.T.Turns.world c.args.b.now)))

pub returns-in_err-put_head-clause-puts : goal.returns-in_err-put_head-clause-puts
returns-in_err-put_head-clause-puts g c = puts_cut _ _ c.from_residual.ensures.0 c.in_err-put_head.ensures

pub returns-in_err-run_slices-clause-puts : goal.returns-in_err-run_slices-clause-puts
returns-in_err-run_slices-clause-puts g c =
    puts_returned _ c.from_residual-in_err-run_slices.ensures.0
    (puts_then _ c.in_ok-put_head.ensures c.in_err-run_slices.ensures.puts)

pub end_run-requires : goal.end_run-requires
end_run-requires g c none =
    let left = room (client_of g.met.T.Turns.ended_stays g.met.T.Turns.turn_is_counted g.met.T.Turns.console_extends)
    (g.T.Turns.world c.args.a.now) (g.T.Turns.world c.run_slices.new.a) c.args.bound 0 c.args.bound
    c.in_ok-run_slices.ensures.ran_a c.requires.first_a.no_steps (omega arith) none in
    omega arith

pub end_run-requires-2 : goal.end_run-requires-2
end_run-requires-2 g c none =
    let left = room (client_of g.met.T.Turns.ended_stays g.met.T.Turns.turn_is_counted g.met.T.Turns.console_extends)
    (g.T.Turns.world c.args.b.now) (g.T.Turns.world c.run_slices.new.b) c.args.bound 0 c.args.bound
    c.in_ok-run_slices.ensures.ran_b c.requires.first_b.no_steps (omega arith) none in
    omega arith

pub returns-clause-end_a : goal.returns-clause-end_a
returns-clause-end_a g c =
    run_ends g.T.Turns.turn g.T.Turns.closed g.T.Turns.exit_of c.args.bound (g.T.Turns.world c.args.a.now)
    (g.T.Turns.world c.run_slices.new.a) _
    c.in_ok-run_slices.ensures.ran_a c.end_run.ensures

pub returns-clause-end_b : goal.returns-clause-end_b
returns-clause-end_b g c =
    run_ends g.T.Turns.turn g.T.Turns.closed g.T.Turns.exit_of c.args.bound (g.T.Turns.world c.args.b.now)
    (g.T.Turns.world c.run_slices.new.b) _
    c.in_ok-run_slices.ensures.ran_b c.end_run-2.ensures

pub returns-clause-exits : goal.returns-clause-exits
returns-clause-exits g c =
    let ends = closed_ends g.T.Turns.closed g.T.Turns.exit_of Bound (λ w. (g.met.T.Turns.closed_is_bound w).0) in (
      subst (λ w. IsSome (g.T.Turns.exit_of w)) (sym c.end_run.ensures) (ends _),
      subst (λ w. IsSome (g.T.Turns.exit_of w)) (sym c.end_run-2.ensures) (ends _),
    )

pub returns-clause-puts : goal.returns-clause-puts
returns-clause-puts g c = puts_then _ c.in_ok-put_head.ensures c.in_ok-run_slices.ensures.puts
