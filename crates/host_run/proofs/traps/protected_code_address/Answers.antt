use Rattle.{std.proofs.Common.{rules}, host_run.proofs.traps.protected_code_address.Goals.{returns as goal}}

pub returns : goal
returns c = search rules
