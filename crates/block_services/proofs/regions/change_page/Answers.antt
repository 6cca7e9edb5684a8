use Rattle.{std.proofs.Common.{rules}, block_services.proofs.regions.change_page.Goals.{returns-in-Lock as goal}}

pub returns-in-Lock : goal
returns-in-Lock c = search rules
