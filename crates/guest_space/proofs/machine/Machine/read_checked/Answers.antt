use Rattle.{std.proofs.Common.{arith}, guest_space.proofs.{Accesses.{loaded_linear}, machine.Machine.read_checked.Goals.{returns as goal}}}

pub returns : goal
returns g c = grind (arith, loaded_linear)
