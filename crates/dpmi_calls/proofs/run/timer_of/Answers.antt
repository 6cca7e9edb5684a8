use Rattle.{std.proofs.Common.{rules}, dpmi_calls.proofs.run.timer_of.Goals.{returns-in-Some-clause-every as goal}}

pub returns-in-Some-clause-every : goal
returns-in-Some-clause-every c = search rules
