use Rattle.{std.proofs.Common.{◌∙◌, sym, arith}, block_services.specs.Rows.{first_page, page_count}}
use Rattle.block_services.proofs.{RoomLaws.{in_view}, pages.relock_pages.Goals.{set_pages-requires-clause-view as goal}}

pub set_pages-requires-clause-view : goal
set_pages-requires-clause-view c page from to =
    let w = c.args.m.now.world in
    let first = c.asked_run-first.ensures.first in
    let pages = c.asked_run-first.ensures.pages in
    in_view w (first_page w) (page_count w) (sym c.of_some_page.ensures ∙ c.if-of_some_page.false) page (omega arith) (omega arith)
