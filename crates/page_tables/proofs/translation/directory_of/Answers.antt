use Rattle.{std.proofs.Common.{rules}, page_tables.proofs.translation.directory_of.Goals.{returns as goal}}

pub returns : goal
returns c = search rules
