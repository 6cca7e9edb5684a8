use Rattle.{std.proofs.Common.{rules}, dpmi_io.proofs.real.StdoutSinkSink.put.Goals.{returns-in-Ok-clause-bound as goal}}

pub returns-in-Ok-clause-bound : goal
returns-in-Ok-clause-bound g c = search rules
