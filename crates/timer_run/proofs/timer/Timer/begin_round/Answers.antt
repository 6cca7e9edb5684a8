use Rattle.{std.proofs.Common.{rules}, timer_run.specs.Timer.{timer_part}}
use Rattle.timer_run.proofs.timer.Timer.begin_round.Goals as goal

pub int_turn-requires-clause-enabled : goal.int_turn-requires-clause-enabled
int_turn-requires-clause-enabled c = search rules

pub returns-then-takes_interrupts-clause-timer : goal.returns-then-takes_interrupts-clause-timer
unfolding timer_part
returns-then-takes_interrupts-clause-timer c = search rules

pub returns-clause-timer : goal.returns-clause-timer
unfolding timer_part
returns-clause-timer c = search rules
