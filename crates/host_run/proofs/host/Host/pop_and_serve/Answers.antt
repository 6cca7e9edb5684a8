use Rattle.{std.proofs.Common.{rules}, host_run.proofs.host.Host.pop_and_serve.Goals.{returns-in_err-pop_in_mode as goal}}

pub returns-in_err-pop_in_mode : goal
returns-in_err-pop_in_mode c = search rules
