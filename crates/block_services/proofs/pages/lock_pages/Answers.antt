use Rattle.{std.proofs.Common.{rules}, block_services.specs.Rows.{lock_pages}}
use Rattle.block_services.proofs.pages.lock_pages.Goals.{returns-then-of_some_page-2 as goal}

pub returns-then-of_some_page-2 : goal
unfolding lock_pages
returns-then-of_some_page-2 c = search rules
