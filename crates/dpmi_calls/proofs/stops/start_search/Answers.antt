use Rattle.{std.proofs.Common.{rules}, dpmi_calls.proofs.stops.start_search.Goals.{returns-in-Ok-clause-turns as goal}}

pub returns-in-Ok-clause-turns : goal
returns-in-Ok-clause-turns c = search rules
