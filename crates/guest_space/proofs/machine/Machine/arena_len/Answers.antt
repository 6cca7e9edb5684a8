use Rattle.{std.proofs.Common.{◌∙◌, sym}, guest_space.proofs.{ArenaWrites.{count_of}, Insides.{processor_of}}}
use Rattle.guest_space.proofs.machine.Machine.arena_len.Goals.{returns-clause-count as goal}

pub returns-clause-count : goal
returns-clause-count c = c.entry_count.ensures.count
    ∙ sym (count_of (processor_of c.self.inside) c.self.inside.ram c.args.self.now c.self.view_is)
