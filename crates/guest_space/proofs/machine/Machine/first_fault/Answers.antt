use Rattle.std.proofs.{Common.{refl, arith}, lemmas.List.{drop_all}}
use Rattle.guest_space.proofs.Writes.{first_some, first_later, first_none, left_from}
use Rattle.guest_space.proofs.machine.Machine.first_fault.Goals as goal

pub loop-x-init : goal.loop-x-init
loop-x-init c = refl

pub returns-in-Some : goal.returns-in-Some
returns-in-Some c = grind (arith, first_some, left_from)

pub loop-x-preserved : goal.loop-x-preserved
loop-x-preserved c = grind (arith, first_later, left_from)

pub returns : goal.returns
returns c = grind (arith, drop_all, first_none)
