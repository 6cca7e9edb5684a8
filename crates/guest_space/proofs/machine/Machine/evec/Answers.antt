use Rattle.std.proofs.Common.{◌∙◌}
use Rattle.guest_space.proofs.{VectorCalls.{exception_read}, Insides.{processor_of}, machine.Machine.evec.Goals.{returns as goal}}

pub returns : goal
returns c = c.pointer.ensures
    ∙ exception_read (processor_of c.self.inside) c.self.inside.ram c.args.self.now c.self.view_is c.args.n c.requires
