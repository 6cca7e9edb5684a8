use Rattle.{std.proofs.Common.{arith, ◌≡◌, ◌∙◌, ◌+◌, ◌-◌, None, ap, refl, sym}, std.specs.Option.{is_some}}
use Rattle.dpmi_calls.specs.{Clients.{given}, Turns.{host_of}, Stops.{last_by, last_of, reason_at, wanted_in}}
use Rattle.dpmi_calls.specs.declared.start.Client.{Client}
use Rattle.dpmi_calls.proofs.{Starts.{exit_at}, StopLists.{last_noted, no_last_yet, one_more_turn}}
use Rattle.dpmi_calls.proofs.stops.find_last.Goals as goal

pub loop-done-init : goal.loop-done-init
loop-done-init c = (c.requires.run, refl, refl, c.requires.seen, no_last_yet _ _ _, λ n le lt. absurd (omega (arith, le, lt)))

pub loop-done-preserved : goal.loop-done-preserved
loop-done-preserved c =
    let l = c.loop-done in let made = c.next_last-last.ensures in let w = wanted_in c.args.wanted.now in (
      made.run,
      made.client ∙ l.invariant.1,
      made.turns ∙ ap (λ n. n + 1) l.invariant.2,
      made.seen,
      last_noted w (host_of (given c.args.run.now.client)) c.args.run.now.turns l.done l.last _ l.auto.done l.invariant.4
          (made.last
          ∙ ap (λ (x : Client). last_by l.last (l.run.turns + 1) (reason_at w (host_of (given x)) l.run.turns)) l.invariant.1
          ∙ ap (λ n. last_by l.last (n + 1) (reason_at w (host_of (given c.args.run.now.client)) n)) l.invariant.2),
      one_more_turn (λ n. (host_of (given c.args.run.now.client) n).exit ≡ None) c.args.run.now.turns l.done
          (exit_at c.args.run.now.client l.done l.run l.invariant.0 l.invariant.1 l.invariant.2
          (ap is_some (sym c.exit.ensures) ∙ sym c.is_some.ensures ∙ c.if-is_some.false)) l.invariant.5,
    )

pub returns-then-is_some-clause-last : goal.returns-then-is_some-clause-last
returns-then-is_some-clause-last c =
    let l = c.loop-done in
    l.invariant.4
    ∙ ap
    (λ n. last_of (wanted_in c.args.wanted.now) (host_of (given c.args.run.now.client)) c.args.run.now.turns (n - c.args.run.now.turns))
    (sym l.invariant.2)

pub returns-clause-last : goal.returns-clause-last
returns-clause-last c =
    let l = c.loop-done in
    l.invariant.4
    ∙ ap
    (λ n. last_of (wanted_in c.args.wanted.now) (host_of (given c.args.run.now.client)) c.args.run.now.turns (n - c.args.run.now.turns))
    (sym l.invariant.2)
