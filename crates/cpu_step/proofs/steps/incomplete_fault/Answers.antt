use Rattle.{std.proofs.Common.{rules}, cpu_step.proofs.steps.incomplete_fault.Goals.{returns-in-Ok as goal}}

pub returns-in-Ok : goal
returns-in-Ok c = search rules
