use Rattle.{std.proofs.Common.{rules}, host_run.proofs.serving.step_machine.Goals.{returns-in-None-clause-machine as goal}}

pub returns-in-None-clause-machine : goal
returns-in-None-clause-machine c = search rules
