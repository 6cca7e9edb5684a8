use Rattle.{std.proofs.Common.{rules}, dpmi_calls.proofs.stops.next_last.Goals.{returns-in-Some-clause-last as goal}}

pub returns-in-Some-clause-last : goal
returns-in-Some-clause-last c = search rules
