use Rattle.{std.proofs.Common.{rules}, dpmi_report.proofs.trace.carry_name.Goals.{returns-in-Set-clause-name as goal}}

pub returns-in-Set-clause-name : goal
returns-in-Set-clause-name c = search rules
