use Rattle.{std.proofs.Common.{rules}, host_run.proofs.host.Host.note.Goals.{invariant_of-self as goal}}

pub invariant_of-self : goal
invariant_of-self c = search rules
