use Rattle.{std.proofs.Common.{rules}, host_run.proofs.traps.trap_at.Goals.{returns-in-Protected as goal}}

pub returns-in-Protected : goal
returns-in-Protected c = search rules
