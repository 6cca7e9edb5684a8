use Rattle.{std.proofs.Common.{◌∙◌, sym, ap, ◌+◌}, std.specs.Option.{is_some}, block_services.specs.Pages.{page_answer, some_page}}
use Rattle.service_rows.proofs.RunLaws.{index_found, index_missed, index_passed}
use Rattle.block_services.proofs.regions.some_page.Goals as goal

pub returns-then-page_answer : goal.returns-then-page_answer
unfolding some_page
returns-then-page_answer c =
    ap is_some (sym (index_found (page_answer c.args.question c.args.m.now.world) c.loop-page.page (c.args.first + c.args.n)
    c.loop-page-test.true (sym c.page_answer.ensures ∙ c.if-page_answer.true))
    ∙ c.loop-page.invariant)

pub loop-page-preserved : goal.loop-page-preserved
loop-page-preserved c =
    sym (index_passed (page_answer c.args.question c.args.m.now.world) c.loop-page.page (c.args.first + c.args.n)
    c.loop-page-test.true (sym c.page_answer.ensures ∙ c.if-page_answer.false))
    ∙ c.loop-page.invariant

pub returns : goal.returns
unfolding some_page
returns c =
    ap is_some (sym
    (index_missed (page_answer c.args.question c.args.m.now.world) c.loop-page.page (c.args.first + c.args.n) c.loop-page-test.false)
    ∙ c.loop-page.invariant)
