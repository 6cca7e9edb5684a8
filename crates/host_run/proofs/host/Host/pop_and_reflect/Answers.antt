use Rattle.{std.proofs.Common.{rules}, host_run.proofs.host.Host.pop_and_reflect.Goals.{reflect_interrupt-requires-clause-shallow as goal}}

pub reflect_interrupt-requires-clause-shallow : goal
reflect_interrupt-requires-clause-shallow c = search rules
