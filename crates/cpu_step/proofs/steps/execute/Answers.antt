use Rattle.{std.proofs.Common.{rules}, cpu_step.specs.Step.{after_instruction}}
use Rattle.cpu_step.proofs.steps.execute.Goals.{returns-in-Err-clause-executed as goal}

pub returns-in-Err-clause-executed : goal
unfolding after_instruction
returns-in-Err-clause-executed c = search rules
