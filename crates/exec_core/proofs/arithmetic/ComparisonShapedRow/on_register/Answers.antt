use Rattle.{std.proofs.Common.{◌≡◌, ◌∙◌, sym, ap, Ok}, host_memory.specs.View.{MachineView}, insn_plan.specs.Registers.{register}}
use Rattle.exec_core.proofs.{OnRegisters.{compare_on}, arithmetic.ComparisonShapedRow.on_register.Goals.{returns as goal}}

pub returns : goal
returns g c =
    let a = c.register-a.result in
    let is : a ≡ register c.args.m.now.world.regs g.row.W c.args.n = cc in
    compare_on g.O.BinaryFormula.formula c.args.m.now c.args.i.now g.row.W c.args.n a c.args.b c.requires.operands is
    ∙ ap (λ (v : MachineView). Ok v) (sym c.set_flags_of.ensures)
