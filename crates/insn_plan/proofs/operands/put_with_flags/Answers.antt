use Rattle.{std.proofs.Common.{Ok, sym, ap, ◌∙◌}, guest_space.specs.Registers.{with_registers}, host_memory.specs.View.{MachineView}}
use Rattle.insn_forms.specs.declared.insn.Operand.{Operand}
use Rattle.insn_plan.specs.{Act.{with_flags}, Operands.{put_operand}, Plan.{after_commit}, Registers.{with_register}}
use Rattle.insn_plan.proofs.{WrittenState.{put_with_flags_in_register}, operands.put_with_flags.Goals.{returns-in-Reg as goal}}

pub returns-in-Reg : goal
returns-in-Reg c =
    let v = c.args.m.now in
    ap (λ (o : Operand). after_commit v (put_operand v.world.regs c.args.addr32 c.args.width o c.args.v (with_flags c.args.flags v.world)))
    c.in-Reg.is
    ∙ put_with_flags_in_register v c.args.flags v.world.regs c.args.addr32 c.args.width c.in-Reg.width c.in-Reg.number c.args.v
    ∙ sym (ap (λ (u : MachineView). Ok u) (c.put_register.ensures ∙ ap
    (λ (u : MachineView). with_registers (with_register u.world.regs c.in-Reg.width c.in-Reg.number c.args.v) u) c.set_flags.ensures))
