use Rattle.{std.proofs.Common.{arith}, guest_space.proofs.HiddenLaws.{said_by_part, said_by_row}}
use Rattle.guest_space.proofs.machine.Machine.is_big.Goals as goal

pub returns-in-Some : goal.returns-in-Some
returns-in-Some c = grind (arith, said_by_part)

pub returns-in-None : goal.returns-in-None
returns-in-None c = grind (arith, said_by_row)
