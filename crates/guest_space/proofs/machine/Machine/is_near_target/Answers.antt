use Rattle.{std.proofs.Common.{◌∙◌, false, sym}, client_world.specs.declared.segments.SegReg.TheVariants.{Cs}}
use Rattle.guest_space.proofs.{Codes.{near_target, part_goes_up}, HiddenLaws.{base_by_part}}
use Rattle.guest_space.proofs.machine.Machine.is_near_target.Goals.{returns-in-Some as goal}

pub returns-in-Some : goal
returns-in-Some c is =
    let w = c.args.self.now.world in
    let part = c.in-Some.part in
    let has = sym c.part.ensures ∙ c.in-Some.is in
    near_target w c.args.off part.base (base_by_part w.mode w.regs w.descriptors Cs c.args.off 1 false part has
    ∙ c.has_code_at.ensures is (part_goes_up w.mode w.regs w.descriptors part has))
