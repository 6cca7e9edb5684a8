use Rattle.{std.proofs.Common.{rules}, block_services.proofs.regions.touched_pages.Goals.{returns-clause-pages as goal}}

pub returns-clause-pages : goal
returns-clause-pages c = search rules
