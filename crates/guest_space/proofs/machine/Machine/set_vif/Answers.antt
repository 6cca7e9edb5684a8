use Rattle.{std.proofs.Common.{arith}, guest_space.proofs.OwnParts.{vif_world, vif_sound}}
use Rattle.guest_space.proofs.machine.Machine.set_vif.Goals as goal

pub invariant_of-self : goal.invariant_of-self
invariant_of-self c = grind (arith, vif_sound)

pub returns-clause-world : goal.returns-clause-world
returns-clause-world c = grind (arith, vif_world)
