use Rattle.guest_space.proofs.{Machines.{opened_holds}, Insides.{processor_of}, machine.Machine.holds_world.Goals.{returns as goal}}

pub returns : goal
returns c = opened_holds (processor_of c.self.inside) c.self.inside.ram c.args.self.now c.self.view_is c.self.invariant.0 c.self.invariant.1
