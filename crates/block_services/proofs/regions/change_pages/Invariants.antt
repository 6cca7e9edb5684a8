use Rattle.std.proofs.Common.{◌≡◌, ◌+◌, ◌-◌}
use Rattle.block_services.specs.Pages.{changed}
use Rattle.block_services.proofs.regions.change_pages.Given as goal

abbrev pub invariant-loop-page : goal.invariant-loop-page
invariant-loop-page l = record {
  kept : l.m.world ≡ record l.fn.m.world { blocks = l.m.world.blocks };
  made : changed l.change l.m.world.blocks l.page (l.first + l.n - l.page) ≡ changed l.change l.fn.m.world.blocks l.first l.n;
}
