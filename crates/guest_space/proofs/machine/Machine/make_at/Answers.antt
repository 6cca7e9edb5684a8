use Rattle.{std.proofs.Common.{arith}, guest_space.proofs.{Writes.{other_bytes, other_count}, WriteRuns.{written_by_bytes}}}
use Rattle.guest_space.proofs.machine.Machine.make_at.Goals as goal

pub returns-then-x-eq8-clause-written : goal.returns-then-x-eq8-clause-written
returns-then-x-eq8-clause-written c = grind (arith, written_by_bytes)

pub returns-then-x-eq16-clause-written : goal.returns-then-x-eq16-clause-written
returns-then-x-eq16-clause-written c = grind (arith, written_by_bytes)

pub returns-else-x-eq16-clause-written : goal.returns-else-x-eq16-clause-written
returns-else-x-eq16-clause-written c = grind (arith, other_bytes, other_count, written_by_bytes)
