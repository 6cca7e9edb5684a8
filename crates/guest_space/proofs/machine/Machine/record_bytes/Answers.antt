use Rattle.guest_space.proofs.{RecordWrites.{row_held, row_some, row_none}, Insides.{processor_of}}
use Rattle.guest_space.proofs.machine.Machine.record_bytes.Goals as goal

pub returns-clause-held : goal.returns-clause-held
returns-clause-held c held =
    rw c.get.ensures (row_held (processor_of c.self.inside) c.self.inside.ram c.args.self.now c.self.view_is c.self.invariant.0 c.args.slot
    c.requires held)

pub returns-clause-some : goal.returns-clause-some
returns-clause-some c held =
    rw c.get.ensures (row_some (processor_of c.self.inside) c.self.inside.ram c.args.self.now c.self.view_is c.self.invariant.0 c.args.slot
    c.requires held)

pub returns-clause-none : goal.returns-clause-none
returns-clause-none c free =
    rw c.get.ensures (row_none (processor_of c.self.inside) c.self.inside.ram c.args.self.now c.self.view_is c.self.invariant.0 c.args.slot
    c.requires free)
