use Rattle.{std.proofs.Common.{rules}, host_run.proofs.host.Host.return_from_call.Goals.{returns as goal}}

pub returns : goal
returns c = search rules
