use Rattle.std.proofs.Common.{◌∙◌, sym}
use Rattle.guest_space.proofs.{HiddenLaws.{base_by_part}, machine.Machine.quick_base.Goals.{returns-in-Some as goal}}

pub returns-in-Some : goal
returns-in-Some c =
    let w = c.args.self.now.world in
    base_by_part w.mode w.regs w.descriptors c.args.seg c.args.off c.args.n c.args.write c.in-Some.part (sym c.part.ensures ∙ c.in-Some.is)
    ∙ c.allows.ensures c.if-allows.true c.args.seg
