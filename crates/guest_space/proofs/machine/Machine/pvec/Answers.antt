use Rattle.std.proofs.Common.{◌∙◌, arith}
use Rattle.guest_space.proofs.{VectorCalls.{interrupt_read}, Insides.{processor_of}, machine.Machine.pvec.Goals.{returns as goal}}

pub returns : goal
returns c = c.pointer.ensures
    ∙ interrupt_read (processor_of c.self.inside) c.self.inside.ram c.args.self.now c.self.view_is c.args.n (omega arith)
