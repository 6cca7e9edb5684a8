use Rattle.std.proofs.Common.{◌≡◌, ◌+◌, ◌-◌}
use Rattle.block_services.specs.Pages.{with_pages}
use Rattle.block_services.proofs.regions.set_pages.Given as goal

abbrev pub invariant-loop-page : goal.invariant-loop-page
invariant-loop-page l = record {
  kept : l.m.world ≡ record l.fn.m.world { pageable = l.m.world.pageable };
  made : with_pages l.on l.m.world.pageable l.page (l.first + l.n - l.page) ≡ with_pages l.on l.fn.m.world.pageable l.first l.n;
}
