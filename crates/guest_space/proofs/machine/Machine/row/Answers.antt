use Rattle.{std.proofs.Common.{arith}, host_memory.proofs.RowWrites.{row_reads}}
use Rattle.guest_space.proofs.machine.Machine.row.Goals.{returns-clause-row as goal}

pub returns-clause-row : goal
returns-clause-row c = grind (arith, row_reads)
