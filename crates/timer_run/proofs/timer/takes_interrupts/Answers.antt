use Rattle.{std.proofs.Common.{rules}, timer_run.proofs.timer.takes_interrupts.Goals.{returns-in-Protected-clause-shallow as goal}}

pub returns-in-Protected-clause-shallow : goal
returns-in-Protected-clause-shallow c = search rules
