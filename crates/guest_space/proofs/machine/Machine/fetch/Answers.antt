use Rattle.{std.proofs.Common.{rules, ◌≡◌, ◌∙◌, sym, ap, Err, arith}, host_memory.specs.View.{MachineView}}
use Rattle.{host_memory.proofs.Parts.{regs_is}, guest_space.specs.Code.{code_byte, one_byte}}
use Rattle.guest_space.proofs.Codes.{fetched_by, not_fetched_by}
use Rattle.guest_space.proofs.machine.Machine.fetch.Goals as goal

pub returns-in_err-base : goal.returns-in_err-base
returns-in_err-base c = grind (arith, not_fetched_by, regs_is)

pub returns-in_err-byte : goal.returns-in_err-byte
returns-in_err-byte c =
    let m = c.self.inside in
    let eip : m.regs.eip ≡ c.args.self.now.world.regs.eip =
    sym (ap (λ (r : Rattle.client_world.specs.declared.registers.Regs.Regs). r.eip) (regs_is m.ram m.pages m.mode m.regs m.vif m.width))
    ∙ ap (λ (v : MachineView). v.world.regs.eip) c.self.view_is in
    let told : code_byte c.args.self.now.world c.args.at ≡ Err c.in_err-byte.field-0.0 =
    sym (fetched_by c.args.self.now.world c.args.at m.regs.eip c.from.result c.from-2.result c.in_ok-base.base eip c.from.ensures
    c.from-2.ensures
    (sym c.segment_base.ensures ∙ c.in_ok-base.was))
    ∙ ap one_byte (sym c.load.ensures ∙ c.in_err-byte.was) in
    search rules

pub returns : goal.returns
returns c =
    let m = c.self.inside in
    let eip : m.regs.eip ≡ c.args.self.now.world.regs.eip =
    sym (ap (λ (r : Rattle.client_world.specs.declared.registers.Regs.Regs). r.eip) (regs_is m.ram m.pages m.mode m.regs m.vif m.width))
    ∙ ap (λ (v : MachineView). v.world.regs.eip) c.self.view_is in
    sym (ap one_byte (sym c.load.ensures ∙ c.in_ok-byte.was))
    ∙ fetched_by c.args.self.now.world c.args.at m.regs.eip c.from.result c.from-2.result c.in_ok-base.base eip c.from.ensures
    c.from-2.ensures
    (sym c.segment_base.ensures ∙ c.in_ok-base.was)
