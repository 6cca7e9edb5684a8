use Rattle.{std.proofs.Common.{arith}, guest_space.proofs.{HiddenLaws.{found_same}, OwnParts.{regs_world, regs_sound}}}
use Rattle.guest_space.proofs.machine.Machine.set_regs.Goals as goal

pub invariant_of-self : goal.invariant_of-self
invariant_of-self c = grind (arith, found_same, regs_sound)

pub invariant_of-self-else-have_same_selectors : goal.invariant_of-self-else-have_same_selectors
invariant_of-self-else-have_same_selectors c = grind (arith, regs_sound)

pub returns-then-have_same_selectors-clause-world : goal.returns-then-have_same_selectors-clause-world
returns-then-have_same_selectors-clause-world c = grind (arith, regs_world)

pub returns-else-have_same_selectors-clause-world : goal.returns-else-have_same_selectors-clause-world
returns-else-have_same_selectors-clause-world c = grind (arith, regs_world)
