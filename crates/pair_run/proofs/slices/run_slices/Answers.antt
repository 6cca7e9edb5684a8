use Rattle.{std.proofs.Common.{arith, refl, sym, subst, ap, ◌∙◌, ◌≡◌, ◌≤◌, ◌+◌}, dpmi_io.specs.Causes.{Rose}}
use Rattle.dpmi_io.proofs.Output.{puts_done, puts_failed}
use Rattle.pair_run.specs.{declared.lines.Letter.TheVariants.{A, B}, Run.{turns_of}, Slices.{own_run}}
use Rattle.pair_run.proofs.{OwnRuns.{client_of, over, room, turns_none}, PairTexts.{Made, a_failed, b_failed, line_failed, line_gained}}
use Rattle.pair_run.proofs.PairTexts.{next_begins, pair_more, pair_none, pair_whole, slice_ends, when_err}
use Rattle.pair_run.proofs.slices.run_slices.Goals.{then-a_ended, else-a_ended}
use Rattle.pair_run.proofs.slices.run_slices.Goals as goal

pub loop-done-init : goal.loop-done-init
loop-done-init g c =
    let run = own_run g.T.Turns.turn g.T.Turns.console_of g.T.Turns.steps_of c.args.bound in
    record {
      begins = omega arith;
      few = omega arith;
      a = sym (turns_none g.T.Turns.turn (g.T.Turns.world c.args.a.now));
      b = sym (turns_none g.T.Turns.turn (g.T.Turns.world c.args.b.now));
      a_ended = λ e. cc;
      b_ended = λ e. cc;
      text = pair_none c.args.slice (run (g.T.Turns.world c.args.a.now)) (run (g.T.Turns.world c.args.b.now))
          (g.O.Sink.taken c.args.out.now);
      quiet = refl;
    }

pub make_slice-requires : goal.make_slice-requires
make_slice-requires g c none =
    let few : c.loop-done.done + c.min-turns.result ≤ c.args.bound = omega (arith, c.min-turns.ensures) in
    let left = room (client_of g.met.T.Turns.ended_stays g.met.T.Turns.turn_is_counted g.met.T.Turns.console_extends)
    (g.T.Turns.world c.args.a.now) (g.T.Turns.world c.loop-done.a) c.loop-done.done c.min-turns.result c.args.bound
    c.loop-done.invariant.a c.requires.first_a.no_steps few none in
    omega arith

pub make_slice-requires-in-loop-done : goal.make_slice-requires-in-loop-done
make_slice-requires-in-loop-done g c none =
    let few : c.loop-done.done + c.min-turns.result ≤ c.args.bound = omega (arith, c.min-turns.ensures) in
    let left = room (client_of g.met.T.Turns.ended_stays g.met.T.Turns.turn_is_counted g.met.T.Turns.console_extends)
    (g.T.Turns.world c.args.b.now) (g.T.Turns.world c.loop-done.b) c.loop-done.done c.min-turns.result c.args.bound
    c.loop-done.invariant.b c.requires.first_b.no_steps few none in
    omega arith

pub returns-in_err-a_ended-clause-some_a : goal.returns-in_err-a_ended-clause-some_a
returns-in_err-a_ended-clause-some_a g c =
    when_err c.from_residual.result (
      c.loop-done.done + c.min-turns.result,
      omega (arith, c.min-turns.ensures),
      slice_ends g.T.Turns.turn (g.T.Turns.world c.args.a.now) (g.T.Turns.world c.loop-done.a) (g.T.Turns.world c.make_slice.new.client)
          c.loop-done.done c.min-turns.result c.loop-done.invariant.a c.in_err-a_ended.ensures.world,
    )

pub returns-in_err-a_ended-clause-puts : goal.returns-in_err-a_ended-clause-puts
returns-in_err-a_ended-clause-puts g c =
    let made : Made g.T.Turns.turn (g.T.Turns.world c.args.a.now) (g.T.Turns.world c.loop-done.a) (g.T.Turns.world c.make_slice.new.client)
    c.args.slice c.args.bound c.loop-done.number c.loop-done.done c.min-turns.result = record {
      begins = c.loop-done.invariant.begins;
      ends = next_begins c.args.slice c.args.bound c.loop-done.number c.loop-done.done c.min-turns.result
          c.loop-done.invariant.begins c.loop-done-test.true c.min-turns.ensures;
      was = c.loop-done.invariant.a;
      is = c.in_err-a_ended.ensures.world;
    } in
    puts_failed c.from_residual.result c.from_residual.ensures.0
    (a_failed (client_of g.met.T.Turns.ended_stays g.met.T.Turns.turn_is_counted g.met.T.Turns.console_extends)
    (g.T.Turns.world c.args.a.now) (g.T.Turns.world c.args.b.now) c.args.slice c.args.bound c.loop-done.number
    (g.O.Sink.taken c.args.out.now) (g.O.Sink.taken c.loop-done.out) (g.O.Sink.taken c.make_slice.new.out)
    c.requires.some_turns c.requires.first_a.no_steps c.requires.first_b.no_steps c.loop-done.invariant.text
    (line_failed g.T.Turns.console_of g.T.Turns.steps_of A _ _ made c.in_err-a_ended.ensures.puts.part))
    (subst (λ from. Rose from (g.O.Sink.faults c.make_slice.new.out)) c.loop-done.invariant.quiet c.in_err-a_ended.ensures.puts.failed)

pub returns-in_err-b_ended-clause-some_a : goal.returns-in_err-b_ended-clause-some_a
returns-in_err-b_ended-clause-some_a g c =
    when_err c.from_residual-in_err-b_ended.result (
      c.loop-done.done + c.min-turns.result,
      omega (arith, c.min-turns.ensures),
      slice_ends g.T.Turns.turn (g.T.Turns.world c.args.a.now) (g.T.Turns.world c.loop-done.a) (g.T.Turns.world c.make_slice.new.client)
          c.loop-done.done c.min-turns.result c.loop-done.invariant.a c.in_ok-a_ended.ensures.world,
    )

pub returns-in_err-b_ended-clause-some_b : goal.returns-in_err-b_ended-clause-some_b
returns-in_err-b_ended-clause-some_b g c =
    when_err c.from_residual-in_err-b_ended.result (
      c.loop-done.done + c.min-turns.result,
      omega (arith, c.min-turns.ensures),
      slice_ends g.T.Turns.turn (g.T.Turns.world c.args.b.now) (g.T.Turns.world c.loop-done.b)
          (g.T.Turns.world c.make_slice-in-loop-done.new.client)
          c.loop-done.done c.min-turns.result c.loop-done.invariant.b c.in_err-b_ended.ensures.world,
    )

pub returns-in_err-b_ended-clause-puts : goal.returns-in_err-b_ended-clause-puts
returns-in_err-b_ended-clause-puts g c =
    let ends = next_begins c.args.slice c.args.bound c.loop-done.number c.loop-done.done c.min-turns.result
    c.loop-done.invariant.begins c.loop-done-test.true c.min-turns.ensures in
    let made_a : Made g.T.Turns.turn (g.T.Turns.world c.args.a.now) (g.T.Turns.world c.loop-done.a)
    (g.T.Turns.world c.make_slice.new.client)
    c.args.slice c.args.bound c.loop-done.number c.loop-done.done c.min-turns.result =
    record { begins = c.loop-done.invariant.begins; ends = ends; was = c.loop-done.invariant.a; is = c.in_ok-a_ended.ensures.world } in
    let made_b : Made g.T.Turns.turn (g.T.Turns.world c.args.b.now) (g.T.Turns.world c.loop-done.b)
    (g.T.Turns.world c.make_slice-in-loop-done.new.client)
    c.args.slice c.args.bound c.loop-done.number c.loop-done.done c.min-turns.result =
    record { begins = c.loop-done.invariant.begins; ends = ends; was = c.loop-done.invariant.b; is = c.in_err-b_ended.ensures.world } in
    puts_failed c.from_residual-in_err-b_ended.result c.from_residual-in_err-b_ended.ensures.0
    (b_failed (client_of g.met.T.Turns.ended_stays g.met.T.Turns.turn_is_counted g.met.T.Turns.console_extends)
    (g.T.Turns.world c.args.a.now) (g.T.Turns.world c.args.b.now) c.args.slice c.args.bound c.loop-done.number
    (g.O.Sink.taken c.args.out.now) (g.O.Sink.taken c.loop-done.out) (g.O.Sink.taken c.make_slice.new.out)
    (g.O.Sink.taken c.make_slice-in-loop-done.new.out)
    c.requires.some_turns c.requires.first_a.no_steps c.requires.first_b.no_steps c.loop-done.invariant.text
    (line_gained g.T.Turns.console_of g.T.Turns.steps_of A _ _ made_a c.in_ok-a_ended.ensures.puts.whole)
    (line_failed g.T.Turns.console_of g.T.Turns.steps_of B _ _ made_b c.in_err-b_ended.ensures.puts.part))
    (subst (λ from. Rose from (g.O.Sink.faults c.make_slice-in-loop-done.new.out))
    (c.in_ok-a_ended.ensures.puts.quiet ∙ c.loop-done.invariant.quiet) c.in_err-b_ended.ensures.puts.failed)

pub loop-done-preserved : goal.loop-done-preserved
loop-done-preserved g c =
    let run = own_run g.T.Turns.turn g.T.Turns.console_of g.T.Turns.steps_of c.args.bound in
    let ends = next_begins c.args.slice c.args.bound c.loop-done.number c.loop-done.done c.min-turns.result
    c.loop-done.invariant.begins c.loop-done-test.true c.min-turns.ensures in
    let made_a : Made g.T.Turns.turn (g.T.Turns.world c.args.a.now) (g.T.Turns.world c.loop-done.a)
    (g.T.Turns.world c.make_slice.new.client)
    c.args.slice c.args.bound c.loop-done.number c.loop-done.done c.min-turns.result =
    record { begins = c.loop-done.invariant.begins; ends = ends; was = c.loop-done.invariant.a; is = c.in_ok-a_ended.ensures.world } in
    let made_b : Made g.T.Turns.turn (g.T.Turns.world c.args.b.now) (g.T.Turns.world c.loop-done.b)
    (g.T.Turns.world c.make_slice-in-loop-done.new.client)
    c.args.slice c.args.bound c.loop-done.number c.loop-done.done c.min-turns.result =
    record { begins = c.loop-done.invariant.begins; ends = ends; was = c.loop-done.invariant.b; is = c.in_ok-b_ended.ensures.world } in
    record {
      begins = ends;
      few = omega (arith, c.min-turns.ensures);
      a = slice_ends g.T.Turns.turn (g.T.Turns.world c.args.a.now) (g.T.Turns.world c.loop-done.a) (g.T.Turns.world c.make_slice.new.client)
          c.loop-done.done c.min-turns.result c.loop-done.invariant.a c.in_ok-a_ended.ensures.world;
      b = slice_ends g.T.Turns.turn (g.T.Turns.world c.args.b.now) (g.T.Turns.world c.loop-done.b)
          (g.T.Turns.world c.make_slice-in-loop-done.new.client)
          c.loop-done.done c.min-turns.result c.loop-done.invariant.b c.in_ok-b_ended.ensures.world;
      a_ended = λ ended. elim c.if-a_ended.branch [
        | then-a_ended w ↦ (let is = w.if-a_ended.true in cc c.in_ok-a_ended.ensures.ended)
        | else-a_ended w ↦ (let is = w.ended-is in cc)
      ];
      b_ended = λ ended. elim c.if-a_ended.branch [
        | then-a_ended w ↦ (let is = w.ended-is in cc c.in_ok-b_ended.ensures.ended)
        | else-a_ended w ↦ (let is = w.ended-is in cc)
      ];
      text = pair_more c.args.slice (run (g.T.Turns.world c.args.a.now)) (run (g.T.Turns.world c.args.b.now)) c.loop-done.number
          (g.O.Sink.taken c.args.out.now) (g.O.Sink.taken c.loop-done.out) (g.O.Sink.taken c.make_slice.new.out)
          (g.O.Sink.taken c.make_slice-in-loop-done.new.out)
          c.loop-done.invariant.text
          (line_gained g.T.Turns.console_of g.T.Turns.steps_of A _ _ made_a c.in_ok-a_ended.ensures.puts.whole)
          (line_gained g.T.Turns.console_of g.T.Turns.steps_of B _ _ made_b c.in_ok-b_ended.ensures.puts.whole);
      quiet = c.in_ok-b_ended.ensures.puts.quiet ∙ c.in_ok-a_ended.ensures.puts.quiet ∙ c.loop-done.invariant.quiet;
    }

-- both clients have ended

pub returns-else-not-ended-clause-ran_a : goal.returns-else-not-ended-clause-ran_a
returns-else-not-ended-clause-ran_a g c =
    c.loop-done.invariant.a
    ∙ sym (over (client_of g.met.T.Turns.ended_stays g.met.T.Turns.turn_is_counted g.met.T.Turns.console_extends)
    (g.T.Turns.world c.args.a.now) (g.T.Turns.world c.loop-done.a) c.loop-done.done c.args.bound c.loop-done.invariant.a (omega arith)
    (c.loop-done.invariant.a_ended c.if-not-ended.false))

pub returns-else-not-ended-clause-ran_b : goal.returns-else-not-ended-clause-ran_b
returns-else-not-ended-clause-ran_b g c =
    c.loop-done.invariant.b
    ∙ sym (over (client_of g.met.T.Turns.ended_stays g.met.T.Turns.turn_is_counted g.met.T.Turns.console_extends)
    (g.T.Turns.world c.args.b.now) (g.T.Turns.world c.loop-done.b) c.loop-done.done c.args.bound c.loop-done.invariant.b (omega arith)
    (c.loop-done.invariant.b_ended c.if-not-ended.false))

pub returns-else-not-ended-clause-puts : goal.returns-else-not-ended-clause-puts
returns-else-not-ended-clause-puts g c =
    let client = client_of g.met.T.Turns.ended_stays g.met.T.Turns.turn_is_counted g.met.T.Turns.console_extends in
    let a_over =
    over client (g.T.Turns.world c.args.a.now) (g.T.Turns.world c.loop-done.a) c.loop-done.done c.args.bound c.loop-done.invariant.a
    (omega arith) (c.loop-done.invariant.a_ended c.if-not-ended.false) in
    let b_over =
    over client (g.T.Turns.world c.args.b.now) (g.T.Turns.world c.loop-done.b) c.loop-done.done c.args.bound c.loop-done.invariant.b
    (omega arith) (c.loop-done.invariant.b_ended c.if-not-ended.false) in
    puts_done
    (pair_whole client (g.T.Turns.world c.args.a.now) (g.T.Turns.world c.args.b.now) c.args.slice c.args.bound c.loop-done.number
    c.loop-done.done
    (g.O.Sink.taken c.args.out.now) (g.O.Sink.taken c.loop-done.out) c.requires.some_turns c.requires.first_a.no_steps
    c.requires.first_b.no_steps
    c.loop-done.invariant.begins a_over b_over c.loop-done.invariant.text)
    c.loop-done.invariant.quiet

-- both have made all of their turns

pub returns-after-loop-done-clause-puts : goal.returns-after-loop-done-clause-puts
returns-after-loop-done-clause-puts g c =
    let all : c.args.bound ≡ c.loop-done.done = omega (arith, c.loop-done.invariant.begins, c.loop-done-test.false) in
    puts_done
    (pair_whole (client_of g.met.T.Turns.ended_stays g.met.T.Turns.turn_is_counted g.met.T.Turns.console_extends)
    (g.T.Turns.world c.args.a.now) (g.T.Turns.world c.args.b.now) c.args.slice c.args.bound c.loop-done.number c.loop-done.done
    (g.O.Sink.taken c.args.out.now) (g.O.Sink.taken c.loop-done.out) c.requires.some_turns c.requires.first_a.no_steps
    c.requires.first_b.no_steps
    c.loop-done.invariant.begins
    (ap (λ n. turns_of g.T.Turns.turn n (g.T.Turns.world c.args.a.now)) all)
    (ap (λ n. turns_of g.T.Turns.turn n (g.T.Turns.world c.args.b.now)) all)
    c.loop-done.invariant.text)
    c.loop-done.invariant.quiet
