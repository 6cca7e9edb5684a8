use Rattle.{std.proofs.Common.{arith, refl, sym, subst, ◌+◌}, std.specs.Prelude.{IsSome}, client_world.specs.WatchWorld.{WatchWorld}}
use Rattle.{pair_run.proofs.OwnRuns.{turns_none}, watch_run.proofs.TurnParts.{no_window}, watch_run.specs.Turn.{turn_with_watchpoints}}
use Rattle.dpmi_cli.proofs.RunAnswers.{all_turns, next_turn}
use Rattle.dpmi_cli.proofs.watched_host.WatchedHostTurns.go.Goals as goal

pub returns-in-Some-clause-world : goal.returns-in-Some-clause-world
returns-in-Some-clause-world c =
    let begin : WatchWorld = record { host = c.args.self.now.host.world; watching = c.args.self.now.watches } in
    all_turns begin begin 0 c.args.n (sym (turns_none turn_with_watchpoints begin)) (omega arith)
    (subst (λ o. IsSome o) c.in-Some.ensures refl)

pub loop-count-init : goal.loop-count-init
loop-count-init c = record {
  world = sym (turns_none turn_with_watchpoints (record { host = c.args.self.now.host.world; watching = c.args.self.now.watches }));
  room = let left = c.requires (sym c.in_default.ensures) in omega arith;
  no_exit = sym c.in_default.ensures;
  window = no_window _ _ _ refl;
}

pub next_watched_turn-requires : goal.next_watched_turn-requires
next_watched_turn-requires c = record {
  no_exit = c.loop-count.invariant.no_exit;
  room = let left = c.loop-count.invariant.room in omega arith;
  window = c.loop-count.invariant.window;
}

pub loop-count-preserved : goal.loop-count-preserved
loop-count-preserved c = record {
  world = next_turn (record { host = c.args.self.now.host.world; watching = c.args.self.now.watches })
      (record { host = c.loop-count.self.host.world; watching = c.loop-count.self.watches }) _ c.loop-count.count
      c.loop-count.invariant.world c.next_watched_turn.ensures.turn.world;
  room = let left = c.loop-count.invariant.room in omega (arith, c.next_watched_turn.ensures.turn.steps);
  no_exit = c.in_default-next_watched_turn.ensures.answer;
  window = c.next_watched_turn.ensures.window;
}

pub returns-in-Err-clause-world : goal.returns-in-Err-clause-world
returns-in-Err-clause-world c =
    let begin : WatchWorld = record { host = c.args.self.now.host.world; watching = c.args.self.now.watches } in
    all_turns begin _ (c.loop-count.count + 1) c.args.n
    (next_turn begin (record { host = c.loop-count.self.host.world; watching = c.loop-count.self.watches }) _ c.loop-count.count
    c.loop-count.invariant.world c.next_watched_turn.ensures.turn.world)
    (omega arith) c.in-Err.ensures.answer
