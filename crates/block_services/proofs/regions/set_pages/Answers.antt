use Rattle.{std.proofs.Common.{◌∙◌, sym, ap, ◌+◌, ◌-◌, List, Bool}, client_world.specs.World.{World}}
use Rattle.{block_services.specs.Pages.{with_pages}, block_services.proofs.PageLaws.{only_pageable, set_done, set_next}}
use Rattle.block_services.proofs.regions.set_pages.Goals as goal

pub loop-page-preserved : goal.loop-page-preserved
loop-page-preserved c =
    let end = c.args.first + c.args.n in
    let pages = ap (λ (w : World). w.pageable) c.set_pageable.ensures.world in
    record {
      kept = only_pageable c.args.m.now.world c.loop-page.m.world c.set_pageable.new.self.world _ c.loop-page.invariant.kept
          c.set_pageable.ensures.world;
      made = ap (λ (ps : List Bool). with_pages c.args.on ps (c.loop-page.page + 1) (end - (c.loop-page.page + 1))) pages
          ∙ sym (set_next c.args.on c.loop-page.m.world.pageable c.loop-page.page end c.loop-page-test.true)
          ∙ c.loop-page.invariant.made;
    }

pub returns : goal.returns
returns c =
    c.loop-page.invariant.kept
    ∙ ap (λ (ps : List Bool). record c.args.m.now.world { pageable = ps })
    (sym (set_done c.args.on c.loop-page.m.world.pageable c.loop-page.page (c.args.first + c.args.n) c.loop-page-test.false)
    ∙ c.loop-page.invariant.made)
