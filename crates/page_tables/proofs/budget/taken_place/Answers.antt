use Rattle.{std.proofs.Common.{rules}, page_tables.proofs.budget.taken_place.Goals.{returns-clause-place as goal}}

pub returns-clause-place : goal
returns-clause-place c = search rules
