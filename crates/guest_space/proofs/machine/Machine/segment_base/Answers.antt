use Rattle.{std.proofs.Common.{arith}, guest_space.proofs.HiddenLaws.{base_by_part, base_by_row}}
use Rattle.guest_space.proofs.machine.Machine.segment_base.Goals as goal

pub returns-in-Some : goal.returns-in-Some
returns-in-Some c = grind (arith, base_by_part)

pub returns-in-None : goal.returns-in-None
returns-in-None c = grind (arith, base_by_row)
