use Rattle.{std.proofs.Common.{arith}, guest_space.proofs.{MachineLaws.{written_or_kept}, Writes.{answered, other_bytes, other_count}}}
use Rattle.guest_space.proofs.machine.Machine.write_one.Goals as goal

pub returns-then-x-eq8-clause-made : goal.returns-then-x-eq8-clause-made
returns-then-x-eq8-clause-made c = grind (arith, answered)

pub returns-then-x-eq8-clause-only : goal.returns-then-x-eq8-clause-only
returns-then-x-eq8-clause-only c = grind (arith, returns-then-x-eq8-clause-made, written_or_kept)

pub returns-then-x-eq16-clause-made : goal.returns-then-x-eq16-clause-made
returns-then-x-eq16-clause-made c = grind (arith, answered)

pub returns-then-x-eq16-clause-only : goal.returns-then-x-eq16-clause-only
returns-then-x-eq16-clause-only c = grind (arith, returns-then-x-eq16-clause-made, written_or_kept)

pub returns-else-x-eq16-clause-made : goal.returns-else-x-eq16-clause-made
returns-else-x-eq16-clause-made c = grind (arith, answered, other_bytes, other_count)

pub returns-else-x-eq16-clause-only : goal.returns-else-x-eq16-clause-only
returns-else-x-eq16-clause-only c = grind (arith, returns-else-x-eq16-clause-made, written_or_kept)
