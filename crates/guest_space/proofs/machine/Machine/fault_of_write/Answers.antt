use Rattle.std.proofs.Common.{arith}
use Rattle.guest_space.proofs.{Writes.{fault_of_probe, write_refusal_is}, machine.Machine.fault_of_write.Goals.{returns as goal}}

pub returns : goal
returns c = grind (arith, fault_of_probe, write_refusal_is)
