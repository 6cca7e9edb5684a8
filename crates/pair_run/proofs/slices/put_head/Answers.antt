use Rattle.{std.proofs.Common.{◌∙◌}, dpmi_io.proofs.Output.{puts_text}, pair_run.proofs.slices.put_head.Goals.{returns as goal}}

pub returns : goal
returns g c = puts_text (c.as_slice.ensures.value ∙ c.pair_head-line.ensures) c.put_all.ensures.puts
