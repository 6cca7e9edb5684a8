use Rattle.{std.proofs.Common.{rules}, page_tables.proofs.entry.is_allowed.Goals.{returns-then-not-write as goal}}

pub returns-then-not-write : goal
returns-then-not-write c = search rules
