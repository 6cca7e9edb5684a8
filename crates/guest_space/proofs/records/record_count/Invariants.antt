use Rattle.std.proofs.Common.{◌≢◌, ℕ, ◌<◌, slice_index}
use Rattle.guest_space.specs.Records.{record_place}
use Rattle.guest_space.proofs.records.record_count.Given as goal

abbrev pub invariant-loop-place : goal.invariant-loop-place
invariant-loop-place l = (k : ℕ) → k < l.place → slice_index l.ram (record_place k) ≢ 0
