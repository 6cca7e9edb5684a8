use Rattle.{std.proofs.Common.{◌∙◌, sym}, guest_space.proofs.{Insides.{processor_of}, RecordWrites.{count_of}}}
use Rattle.guest_space.proofs.machine.Machine.record_count.Goals.{returns-clause-count as goal}

pub returns-clause-count : goal
returns-clause-count c =
    c.record_count.ensures.count
    ∙ sym (count_of (processor_of c.self.inside) c.self.inside.ram c.args.self.now c.self.view_is c.self.invariant.0)
