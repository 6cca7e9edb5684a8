use Rattle.{std.proofs.Common.{◌∙◌, sym, ◌+◌}, client_world.specs.declared.limits.TheConstants.{MAX_BLOCKS}}
use Rattle.{block_services.specs.Gaps.{block_in_way, is_in_way}, service_rows.proofs.RunLaws.{index_found, index_missed, index_passed}}
use Rattle.block_services.proofs.gaps.block_in_way.Goals as goal

pub returns-then-is_in_way : goal.returns-then-is_in_way
unfolding block_in_way
returns-then-is_in_way c =
    sym (index_found (is_in_way c.args.m.now.world.blocks c.args.own c.args.base c.args.pages) c.loop-handle.handle (1 + MAX_BLOCKS)
    c.loop-handle-test.true (sym c.is_in_way.ensures ∙ c.if-is_in_way.true))
    ∙ c.loop-handle.invariant

pub loop-handle-preserved : goal.loop-handle-preserved
loop-handle-preserved c =
    sym (index_passed (is_in_way c.args.m.now.world.blocks c.args.own c.args.base c.args.pages) c.loop-handle.handle (1 + MAX_BLOCKS)
    c.loop-handle-test.true (sym c.is_in_way.ensures ∙ c.if-is_in_way.false))
    ∙ c.loop-handle.invariant

pub returns : goal.returns
unfolding block_in_way
returns c =
    sym (index_missed (is_in_way c.args.m.now.world.blocks c.args.own c.args.base c.args.pages) c.loop-handle.handle (1 + MAX_BLOCKS)
    c.loop-handle-test.false)
    ∙ c.loop-handle.invariant
