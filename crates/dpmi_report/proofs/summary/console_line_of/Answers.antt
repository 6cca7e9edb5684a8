use Rattle.{std.proofs.Common.{rules}, dpmi_report.proofs.summary.console_line_of.Goals.{returns as goal}}

pub returns : goal
returns c = search rules
