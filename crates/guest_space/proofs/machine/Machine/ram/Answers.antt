use Rattle.{std.proofs.Common.{arith}, host_memory.proofs.BlocksClaim.{holds_world}}
use Rattle.guest_space.proofs.{MachineLaws.{machine_walks, machine_stands}, Machines.{opened_holds}, Insides.{processor_of}}
use Rattle.guest_space.proofs.machine.Machine.ram.Goals as goal

pub returns-clause-holds : goal.returns-clause-holds
returns-clause-holds c = grind (arith, holds_world)

pub returns-clause-walks : goal.returns-clause-walks
returns-clause-walks c =
    machine_walks c.args.self.now
    (opened_holds (processor_of c.self.inside) c.self.inside.ram c.args.self.now c.self.view_is c.self.invariant.0 c.self.invariant.1)

pub returns-clause-places : goal.returns-clause-places
returns-clause-places c =
    machine_stands c.args.self.now
    (opened_holds (processor_of c.self.inside) c.self.inside.ram c.args.self.now c.self.view_is c.self.invariant.0 c.self.invariant.1)
