use Rattle.{std.proofs.Common.{arith}, client_world.specs.declared.registers.Regs.{Regs}}
use Rattle.guest_space.proofs.OwnParts.{changed_regs, regs_sound}
use Rattle.guest_space.proofs.machine.Machine.set_eip.Goals as goal

pub invariant_of-self : goal.invariant_of-self
invariant_of-self c = grind (arith, regs_sound)

pub returns : goal.returns
returns c =
    let m = c.self.inside in
    changed_regs m.ram m.pages m.mode m.regs m.vif m.width (λ (r : Regs). record r { eip = c.args.eip }) c.args.self.now c.self.view_is
