use Rattle.std.proofs.Common.{◌∙◌, sym, ap, ℕ}
use Rattle.client_world.specs.{declared.host_frames.TheConstants.{DESCRIPTORS}, Selector.{Row, row_at_index}}
use Rattle.{desc_services.specs.Rows.{is_segment_row, segment_index}, service_rows.proofs.RunLaws.{index_found, index_missed, index_passed}}
use Rattle.desc_services.proofs.segment.segment_index.Goals as goal

pub returns-then-is_segment_row-clause-index : goal.returns-then-is_segment_row-clause-index
unfolding segment_index
returns-then-is_segment_row-clause-index c =
    sym (index_found (λ (index : ℕ). is_segment_row (row_at_index c.args.m.now.world.descriptors index) c.args.segment) c.loop-index.index
    DESCRIPTORS
    c.loop-index-test.true
    (ap (λ (row : Row). is_segment_row row c.args.segment) (sym c.desc.ensures.row) ∙ sym c.is_segment_row.ensures
    ∙ c.if-is_segment_row.true))
    ∙ c.loop-index.invariant

pub loop-index-preserved : goal.loop-index-preserved
loop-index-preserved c =
    sym (index_passed (λ (index : ℕ). is_segment_row (row_at_index c.args.m.now.world.descriptors index) c.args.segment) c.loop-index.index
    DESCRIPTORS
    c.loop-index-test.true
    (ap (λ (row : Row). is_segment_row row c.args.segment) (sym c.desc.ensures.row) ∙ sym c.is_segment_row.ensures
    ∙ c.if-is_segment_row.false))
    ∙ c.loop-index.invariant

pub returns-clause-index : goal.returns-clause-index
unfolding segment_index
returns-clause-index c =
    sym (index_missed (λ (index : ℕ). is_segment_row (row_at_index c.args.m.now.world.descriptors index) c.args.segment) c.loop-index.index
    DESCRIPTORS
    c.loop-index-test.false)
    ∙ c.loop-index.invariant
