use Rattle.{std.proofs.Common.{Ok, sym, ap, ◌∙◌}, host_memory.specs.View.{MachineView}, insn_forms.specs.declared.insn.Operand.{Operand}}
use Rattle.insn_plan.specs.{Act.{unchanged}, Operands.{put_operand}, Plan.{after_commit}}
use Rattle.insn_plan.proofs.{WrittenState.{put_in_register}, operands.put_operand.Goals.{returns-in-Reg as goal}}

pub returns-in-Reg : goal
returns-in-Reg c =
    let v = c.args.m.now in
    ap (λ (o : Operand). after_commit v (put_operand v.world.regs c.args.addr32 c.args.width o c.args.v (unchanged v.world))) c.in-Reg.is
    ∙ put_in_register v v.world.regs c.args.addr32 c.args.width c.in-Reg.width c.in-Reg.number c.args.v
    ∙ sym (ap (λ (u : MachineView). Ok u) c.put_register.ensures)
