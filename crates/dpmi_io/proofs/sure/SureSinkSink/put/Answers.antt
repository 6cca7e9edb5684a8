use Rattle.{std.proofs.Common.{rules}, dpmi_io.proofs.sure.SureSinkSink.put.Goals.{returns-clause-took as goal}}

pub returns-clause-took : goal
returns-clause-took c = search rules
