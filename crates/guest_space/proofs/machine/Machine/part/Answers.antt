use Rattle.{std.proofs.Common.{arith}, guest_space.proofs.{HiddenLaws.{part_there}, machine.Machine.part.Goals.{returns as goal}}}

pub returns : goal
returns c = grind (arith, part_there)
