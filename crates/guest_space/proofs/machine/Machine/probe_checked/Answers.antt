use Rattle.std.proofs.Common.{arith}
use Rattle.guest_space.proofs.{Accesses.{refusal_linear}, machine.Machine.probe_checked.Goals.{returns as goal}}

pub returns : goal
returns c = grind (arith, refusal_linear)
