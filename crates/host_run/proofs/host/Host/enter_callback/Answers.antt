use Rattle.{std.proofs.Common.{rules}, host_run.proofs.host.Host.enter_callback.Goals.{returns as goal}}

pub returns : goal
returns c = search rules
