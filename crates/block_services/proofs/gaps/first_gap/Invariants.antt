use Rattle.std.proofs.Common.{◌≡◌, ◌≤◌, drop}
use Rattle.client_world.specs.declared.memory_map.TheConstants.{BLOCK_REGION_PAGES}
use Rattle.block_services.proofs.SpanLaws.{found}
use Rattle.block_services.proofs.gaps.first_gap.Given as goal

abbrev pub invariant-loop-span : goal.invariant-loop-span
invariant-loop-span l = record {
  few : l.page ≤ BLOCK_REGION_PAGES;
  same : found (drop l.span-index l.spans) l.page l.pages ≡ found l.spans 0 l.pages;
}
