use Rattle.std.proofs.Common.{◌∙◌, sym}
use Rattle.guest_space.proofs.{HiddenLaws.{said_by_part}, machine.Machine.quick_size.Goals.{returns-in-Some as goal}}

pub returns-in-Some : goal
returns-in-Some c =
    let w = c.args.self.now.world in
    (said_by_part w.mode w.regs w.descriptors c.args.seg c.in-Some.part (sym c.part.ensures ∙ c.in-Some.is)).0
