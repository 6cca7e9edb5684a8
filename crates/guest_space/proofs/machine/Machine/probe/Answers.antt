use Rattle.std.proofs.Common.{arith}
use Rattle.guest_space.proofs.{Accesses.{refusal_linear}, machine.Machine.probe.Goals.{returns-in-Some as goal}}

pub returns-in-Some : goal
returns-in-Some c = grind (arith, refusal_linear)
