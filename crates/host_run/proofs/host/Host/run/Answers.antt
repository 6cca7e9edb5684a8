use Rattle.{std.proofs.Common.{arith, refl, sym, ◌∙◌, ap}, host_run.specs.{Run.{turns}, Turn.{turn}, View.{HostView}}}
use Rattle.host_run.proofs.{WindowStarts.{no_starts}, Runs.{run_ended, run_over, turns_more}}
use Rattle.host_run.proofs.host.Host.run.Goals as goal

pub returns-in-Some-clause-world : goal.returns-in-Some-clause-world
returns-in-Some-clause-world c = run_over c.args.self.now.world c.args.bound c.in-Some.exit (sym c.in-Some.ensures)

pub loop-count-init : goal.loop-count-init
unfolding turns
loop-count-init c = (refl, omega arith, sym c.in_default.ensures, no_starts _ _ refl)

pub next_turn-requires : goal.next_turn-requires
next_turn-requires c = record {
  no_exit = c.loop-count.invariant.2;
  room = let room = c.requires (sym c.in_default.ensures) in omega arith;
  window = c.loop-count.invariant.3;
}

pub loop-count-preserved : goal.loop-count-preserved
loop-count-preserved c = (
  c.next_turn.ensures.turn.world ∙ ap turn c.loop-count.invariant.0 ∙ sym (turns_more c.args.self.now.world c.loop-count.count),
  omega arith,
  c.in_default-next_turn.ensures.answer,
  c.next_turn.ensures.window,
)

pub returns-in-Err-clause-world : goal.returns-in-Err-clause-world
returns-in-Err-clause-world c =
    ap (λ (h : HostView). h.world) c.end_run.ensures.host
    ∙ run_ended c.args.self.now.world c.next_turn.new.self.world c.args.bound c.loop-count.count
    (c.next_turn.ensures.turn.world ∙ ap turn c.loop-count.invariant.0 ∙ sym (turns_more c.args.self.now.world c.loop-count.count))
    c.loop-count-test.true c.in-Err.ensures.answer
