use Rattle.{std.proofs.Common.{◌∙◌}, dpmi_io.proofs.Output.{puts_text}, dpmi_report.proofs.parts.put_end.Goals.{returns as goal}}

pub returns : goal
returns g c = puts_text (c.as_slice.ensures.value ∙ c.end_lines_of-lines.ensures) c.put_all.ensures.puts
