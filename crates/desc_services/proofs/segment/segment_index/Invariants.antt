use Rattle.std.proofs.Common.{◌≡◌, ◌-◌, ℕ}
use Rattle.client_world.specs.{declared.host_frames.TheConstants.{DESCRIPTORS}, Selector.{row_at_index}}
use Rattle.service_rows.specs.FirstIndex.{first_index}
use Rattle.desc_services.specs.Rows.{is_segment_row}
use Rattle.desc_services.proofs.segment.segment_index.Given as goal

abbrev pub invariant-loop-index : goal.invariant-loop-index
invariant-loop-index l =
    first_index (λ (index : ℕ). is_segment_row (row_at_index l.m.world.descriptors index) l.segment) l.index (DESCRIPTORS - l.index)
    ≡ first_index (λ (index : ℕ). is_segment_row (row_at_index l.m.world.descriptors index) l.segment) 0 DESCRIPTORS
