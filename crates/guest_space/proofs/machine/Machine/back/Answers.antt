use Rattle.std.proofs.Common.{◌∙◌}
use Rattle.guest_space.proofs.{VectorCalls.{callback_read}, Insides.{processor_of}, machine.Machine.back.Goals.{returns as goal}}

pub returns : goal
returns c = c.callback.ensures
    ∙ callback_read (processor_of c.self.inside) c.self.inside.ram c.args.self.now c.self.view_is c.args.slot c.requires
