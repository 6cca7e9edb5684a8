use Rattle.{std.proofs.Common.{rules}, interrupts.proofs.software.check_vector.Goals.{returns-in-Protected as goal}}

pub returns-in-Protected : goal
returns-in-Protected c = search rules
