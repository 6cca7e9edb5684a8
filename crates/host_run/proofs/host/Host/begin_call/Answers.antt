use Rattle.{std.proofs.Common.{rules}, host_run.proofs.host.Host.begin_call.Goals.{returns-in-Run-clause-answer as goal}}

pub returns-in-Run-clause-answer : goal
returns-in-Run-clause-answer c = search rules
