use Rattle.{std.proofs.Common.{rules}, callbacks.specs.Callbacks.{enter_callback}}
use Rattle.callbacks.proofs.{StackAsked.{held_width}, entering.enter.Goals.{returns-then-not-is_loadable as goal}}

pub returns-then-not-is_loadable : goal
unfolding enter_callback
returns-then-not-is_loadable c = search (rules, held_width)
