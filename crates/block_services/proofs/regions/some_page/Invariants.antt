use Rattle.std.proofs.Common.{◌≡◌, ◌+◌, ◌-◌}
use Rattle.service_rows.specs.FirstIndex.{first_index}
use Rattle.block_services.specs.Pages.{page_answer}
use Rattle.block_services.proofs.regions.some_page.Given as goal

abbrev pub invariant-loop-page : goal.invariant-loop-page
invariant-loop-page l =
    first_index (page_answer l.question l.m.world) l.page (l.first + l.n - l.page)
    ≡ first_index (page_answer l.question l.m.world) l.first l.n
