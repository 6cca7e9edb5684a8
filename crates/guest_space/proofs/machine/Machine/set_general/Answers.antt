use Rattle.{std.proofs.Common.{ap, ◌∙◌, arith}, client_world.specs.{declared.registers.Regs.{Regs}, General.{with_general}}}
use Rattle.{host_memory.specs.Layout.{world_of}, guest_space.proofs.{OwnParts.{changed_regs, regs_sound}, HiddenLaws.{found_general}}}
use Rattle.guest_space.proofs.machine.Machine.set_general.Goals as goal

pub invariant_of-self : goal.invariant_of-self
invariant_of-self c = grind (arith, found_general, regs_sound)

pub returns : goal.returns
returns c =
    let m = c.self.inside in
    ap (λ (r : Regs). record { world = world_of m.ram m.pages m.mode r m.vif m.width; bytes = m.ram }) c.set_general.ensures
    ∙ changed_regs m.ram m.pages m.mode m.regs m.vif m.width (λ (r : Regs). with_general r c.args.n c.args.v) c.args.self.now c.self.view_is
