use Rattle.{std.proofs.Common.{refl, rules, ◌≡◌}, client_world.specs.WatchWorld.{no_watches}, watch_run.proofs.TurnParts.{no_window}}
use Rattle.watch_run.proofs.turn.turn_elsewhere.Goals as goal

pub returns-then-not-is_unused-clause-window : goal.returns-then-not-is_unused-clause-window
returns-then-not-is_unused-clause-window c = no_window _ _ _ refl

pub find_start-requires : goal.find_start-requires
find_start-requires c some = (c.requires.window some).0

pub returns-in-None-2-clause-window : goal.returns-in-None-2-clause-window
returns-in-None-2-clause-window c some =
    let none : c.args.w.now ≡ no_watches = search rules in (c.turn_outside.ensures.window some, none)
