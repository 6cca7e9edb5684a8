use Rattle.{std.proofs.Common.{rules}, host_run.proofs.host.Host.end_run.Goals.{returns-in-Some-clause-answer as goal}}

pub returns-in-Some-clause-answer : goal
returns-in-Some-clause-answer c = search rules
