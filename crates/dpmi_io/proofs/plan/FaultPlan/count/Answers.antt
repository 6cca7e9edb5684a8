use Rattle.{std.proofs.Common.{rules}, dpmi_io.proofs.plan.FaultPlan.count.Goals.{returns-clause-listed as goal}}

pub returns-clause-listed : goal
returns-clause-listed c = search rules
