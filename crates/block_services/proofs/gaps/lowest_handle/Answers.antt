use Rattle.{std.proofs.Common.{◌≡◌, ◌∙◌, sym, refl, ap, arith, rules, ◌+◌, true, false}, std.specs.Option.{is_none}}
use Rattle.{client_world.specs.{declared.limits.TheConstants.{MAX_BLOCKS}, World.{block_at}}, block_services.specs.Gaps.{lowest_handle}}
use Rattle.service_rows.proofs.RunLaws.{index_found, index_missed, index_passed}
use Rattle.block_services.proofs.SpanLists.{seen_none, is_free, none_of}
use Rattle.block_services.proofs.gaps.lowest_handle.Goals as goal

pub returns-then-is_none : goal.returns-then-is_none
unfolding lowest_handle
returns-then-is_none c =
    let free : is_free c.args.m.now.world.blocks c.loop-handle.handle ≡ true =
    sym (seen_none (block_at c.args.m.now.world.blocks c.loop-handle.handle)) ∙ ap is_none (sym c.block.ensures) ∙ search rules in
    let from = c.loop-handle.auto.handle in (
      sym c.loop-handle.invariant
          ∙ index_found (is_free c.args.m.now.world.blocks) c.loop-handle.handle (1 + MAX_BLOCKS) c.loop-handle-test.true free,
      omega arith,
      omega (arith, c.loop-handle-test.true),
      none_of (block_at c.args.m.now.world.blocks c.loop-handle.handle) free,
    )

pub loop-handle-preserved : goal.loop-handle-preserved
loop-handle-preserved c =
    let held : is_free c.args.m.now.world.blocks c.loop-handle.handle ≡ false =
    sym (seen_none (block_at c.args.m.now.world.blocks c.loop-handle.handle)) ∙ ap is_none (sym c.block.ensures) ∙ search rules in
    sym (index_passed (is_free c.args.m.now.world.blocks) c.loop-handle.handle (1 + MAX_BLOCKS) c.loop-handle-test.true held)
    ∙ c.loop-handle.invariant

pub returns : goal.returns
unfolding lowest_handle
returns c = (
  sym c.loop-handle.invariant
      ∙ index_missed (is_free c.args.m.now.world.blocks) c.loop-handle.handle (1 + MAX_BLOCKS) c.loop-handle-test.false,
  refl,
)
