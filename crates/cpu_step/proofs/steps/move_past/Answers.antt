use Rattle.{std.proofs.Common.{rules}, cpu_step.proofs.steps.move_past.Goals.{returns as goal}}

pub returns : goal
returns c = search rules
