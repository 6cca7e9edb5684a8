use Rattle.{std.proofs.Common.{arith}, guest_space.proofs.RecordWrites.{counted_rows}}
use Rattle.guest_space.proofs.records.record_count.Goals as goal

pub returns-then-get8-eq0-clause-count : goal.returns-then-get8-eq0-clause-count
returns-then-get8-eq0-clause-count c = grind (arith, counted_rows)

pub returns-clause-count : goal.returns-clause-count
returns-clause-count c = grind (arith, counted_rows)
