use Rattle.{std.proofs.Common.{rules}, timer_run.proofs.timer.Timer.tick.Goals.{returns-then-self as goal}}

pub returns-then-self : goal
returns-then-self c = search rules
