use Rattle.{std.proofs.Common.{◌∙◌, arith, inl, inr}, block_services.proofs.PageLaws.{no_page, page_of_block}}
use Rattle.block_services.proofs.regions.is_blocks.Goals as goal

pub returns-then-page-clause-is : goal.returns-then-page-clause-is
returns-then-page-clause-is c = no_page c.args.m.now.world.blocks _ (inl (omega (arith, c.if-page.true)))

pub returns-then-page-2-clause-is : goal.returns-then-page-2-clause-is
returns-then-page-2-clause-is c = no_page c.args.m.now.world.blocks _ (inr (omega (arith, c.if-page-2.true)))

pub returns-clause-is : goal.returns-clause-is
returns-clause-is c =
    c.may_touch.ensures
    ∙ page_of_block c.args.m.now.world.blocks c.args.page (omega (arith, c.if-page.false)) (omega (arith, c.if-page-2.false))
