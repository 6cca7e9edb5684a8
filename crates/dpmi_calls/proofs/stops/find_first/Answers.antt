use Rattle.{std.proofs.Common.{arith, ◌∙◌, ◌+◌, ◌-◌, ◌++◌, ap, refl, sym, take}, std.specs.Option.{is_some}}
use Rattle.dpmi_calls.specs.{Clients.{given}, Turns.{host_of}, Stops.{reason_at, stops_by, stops_of, wanted_in}}
use Rattle.dpmi_calls.specs.declared.start.Client.{Client}
use Rattle.dpmi_calls.proofs.{Starts.{exit_at}, StopLists.{none_yet, noted, still_goes_on}}
use Rattle.dpmi_calls.proofs.stops.find_first.Goals as goal

pub loop-done-init : goal.loop-done-init
loop-done-init c = (
  c.requires.run,
  refl,
  refl,
  c.requires.seen,
  omega arith,
  none_yet _ _ _,
  λ n le lt. absurd (omega (arith, le, lt)),
)

pub loop-done-preserved : goal.loop-done-preserved
loop-done-preserved c =
    let l = c.loop-done in let made = c.note_stop-made.ensures in let w = wanted_in c.args.wanted.now in (
      made.run,
      made.client ∙ l.invariant.1,
      made.turns ∙ ap (λ n. n + 1) l.invariant.2,
      made.seen,
      made.few,
      noted w (host_of (given c.args.run.now.client)) c.args.run.now.turns l.done (take l.made l.stops) _ l.auto.done l.invariant.5
          (made.stops
          ∙ ap (λ (x : Client). take l.made l.stops
          ++ stops_by (l.run.turns + 1) (reason_at w (host_of (given x)) l.run.turns)) l.invariant.1
          ∙ ap (λ n. take l.made l.stops ++ stops_by (n + 1) (reason_at w (host_of (given c.args.run.now.client)) n)) l.invariant.2),
      still_goes_on w (host_of (given c.args.run.now.client)) c.args.run.now.turns l.done l.made _ l.stops made.length
          (exit_at c.args.run.now.client l.done l.run l.invariant.0 l.invariant.1 l.invariant.2
          (ap is_some (sym c.exit.ensures) ∙ sym c.is_some.ensures ∙ c.if-is_some.false))
          (omega (arith, c.if-made-room.false, l.invariant.4)) l.invariant.5 l.invariant.6,
    )

pub returns-then-made-room-clause-stops : goal.returns-then-made-room-clause-stops
returns-then-made-room-clause-stops c =
    let l = c.loop-done in
    l.invariant.5
    ∙ ap (λ n. stops_of (wanted_in c.args.wanted.now) (host_of (given c.args.run.now.client)) c.args.run.now.turns
    (n - c.args.run.now.turns))
    (sym l.invariant.2)

pub returns-clause-stops : goal.returns-clause-stops
returns-clause-stops c =
    let l = c.loop-done in
    l.invariant.5
    ∙ ap (λ n. stops_of (wanted_in c.args.wanted.now) (host_of (given c.args.run.now.client)) c.args.run.now.turns
    (n - c.args.run.now.turns))
    (sym l.invariant.2)
