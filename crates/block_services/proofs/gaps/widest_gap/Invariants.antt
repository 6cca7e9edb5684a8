use Rattle.std.proofs.Common.{◌≡◌, ◌≤◌, drop, max}
use Rattle.client_world.specs.declared.memory_map.TheConstants.{BLOCK_REGION_PAGES}
use Rattle.block_services.proofs.SpanLaws.{widest}
use Rattle.block_services.proofs.gaps.widest_gap.Given as goal

abbrev pub invariant-loop-span : goal.invariant-loop-span
invariant-loop-span l = record {
  few : l.page ≤ BLOCK_REGION_PAGES;
  same : max l.widest (widest (drop l.span-index l.spans) l.page) ≡ widest l.spans 0;
}
