use Rattle.{std.proofs.Common.{rules}, host_run.proofs.host.Host.serve_dos_call.Goals.{returns-in-Ended as goal}}

pub returns-in-Ended : goal
returns-in-Ended c = search rules
