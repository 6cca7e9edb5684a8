use Rattle.{std.proofs.Common.{rules}, callbacks.proofs.{Served.{past_none}, services.addressed_slot.Goals.{returns-clause-slot as goal}}}

pub returns-clause-slot : goal
returns-clause-slot c = search (rules, past_none)
