use Rattle.{std.proofs.Common.{◌∙◌, sym, ap, ◌+◌, ◌-◌, List, Option}, client_world.specs.World.{MemoryBlock, World}}
use Rattle.{block_services.specs.Pages.{changed}, block_services.proofs.PageLaws.{changed_done, changed_next, only_blocks}}
use Rattle.block_services.proofs.regions.change_pages.Goals as goal

pub loop-page-preserved : goal.loop-page-preserved
loop-page-preserved c =
    let end = c.args.first + c.args.n in
    let blocks = ap (λ (w : World). w.blocks) c.change_page.ensures in
    record {
      kept = only_blocks c.args.m.now.world c.loop-page.m.world c.change_page.new.m.world _ c.loop-page.invariant.kept
          c.change_page.ensures;
      made = ap (λ (bs : List (Option MemoryBlock)). changed c.args.change bs (c.loop-page.page + 1) (end - (c.loop-page.page + 1))) blocks
          ∙ sym (changed_next c.args.change c.loop-page.m.world.blocks c.loop-page.page end c.loop-page-test.true)
          ∙ c.loop-page.invariant.made;
    }

pub returns : goal.returns
returns c =
    c.loop-page.invariant.kept
    ∙ ap (λ (bs : List (Option MemoryBlock)). record c.args.m.now.world { blocks = bs })
    (sym (changed_done c.args.change c.loop-page.m.world.blocks c.loop-page.page (c.args.first + c.args.n) c.loop-page-test.false)
    ∙ c.loop-page.invariant.made)
