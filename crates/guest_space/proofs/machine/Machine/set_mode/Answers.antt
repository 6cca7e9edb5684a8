use Rattle.{std.proofs.Common.{arith}, guest_space.proofs.OwnParts.{mode_world, mode_sound}}
use Rattle.guest_space.proofs.machine.Machine.set_mode.Goals as goal

pub invariant_of-self : goal.invariant_of-self
invariant_of-self c = grind (arith, mode_sound)

pub returns-clause-world : goal.returns-clause-world
returns-clause-world c = grind (arith, mode_world)
