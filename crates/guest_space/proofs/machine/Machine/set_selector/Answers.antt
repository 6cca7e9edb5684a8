use Rattle.{std.proofs.Common.{◌∙◌, ap, arith}, client_world.specs.{declared.registers.Regs.{Regs}, Segments.{with_selector}}}
use Rattle.host_memory.specs.Layout.{world_of}
use Rattle.guest_space.proofs.{OwnParts.{changed_regs, regs_sound}, HiddenLaws.{found_changed, found_loaded}}
use Rattle.guest_space.proofs.machine.Machine.set_selector.Goals as goal

pub invariant_of-self : goal.invariant_of-self
invariant_of-self c = grind (arith, found_changed, regs_sound)

pub invariant_of-self-else-not-is_same : goal.invariant_of-self-else-not-is_same
invariant_of-self-else-not-is_same c = grind (arith, found_loaded, regs_sound)

pub returns-then-not-is_same : goal.returns-then-not-is_same
returns-then-not-is_same c =
    let m = c.self.inside in
    ap (λ (r : Regs). record { world = world_of m.ram m.pages m.mode r m.vif m.width; bytes = m.ram }) c.set_selector.ensures
    ∙ changed_regs m.ram m.pages m.mode m.regs m.vif m.width (λ (r : Regs). with_selector r c.args.seg c.args.sel) c.args.self.now
    c.self.view_is

pub returns-else-not-is_same : goal.returns-else-not-is_same
returns-else-not-is_same c =
    let m = c.self.inside in
    ap (λ (r : Regs). record { world = world_of m.ram m.pages m.mode r m.vif m.width; bytes = m.ram }) c.set_selector.ensures
    ∙ changed_regs m.ram m.pages m.mode m.regs m.vif m.width (λ (r : Regs). with_selector r c.args.seg c.args.sel) c.args.self.now
    c.self.view_is
