use Rattle.{std.proofs.Common.{zero-add, arith}, guest_ram.proofs.PutLaws.{at_region}, host_memory.proofs.Parts.{dos_is}}
use Rattle.guest_space.proofs.machine.Machine.dos8.Goals.{returns as goal}

pub returns : goal
returns c = grind (arith, at_region, dos_is, zero-add)
