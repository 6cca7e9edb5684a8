use Rattle.{std.proofs.Common.{arith}, guest_space.proofs.FarLaws.{reachable_linear, far_bytes_linear, reachable_not_refused}}
use Rattle.guest_space.proofs.machine.Machine.read_bytes.Goals as goal

pub load_into-requires-clause-readable : goal.load_into-requires-clause-readable
load_into-requires-clause-readable c = grind (arith, reachable_linear)

pub returns-in-Ok : goal.returns-in-Ok
returns-in-Ok c = grind (arith, far_bytes_linear)

pub returns-in_default : goal.returns-in_default
returns-in_default c = grind (arith, reachable_not_refused)
