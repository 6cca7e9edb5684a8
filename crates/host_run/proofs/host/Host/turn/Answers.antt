use Rattle.{std.proofs.Common.{rules}, host_run.specs.Turn.{turn}}
use Rattle.host_run.proofs.host.Host.turn.Goals as goal

pub returns-in-Some : goal.returns-in-Some
unfolding turn
returns-in-Some c = search rules

pub next_turn-ended-requires-clause-no_exit : goal.next_turn-ended-requires-clause-no_exit
next_turn-ended-requires-clause-no_exit c = search rules
