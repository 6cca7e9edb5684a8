use Rattle.{std.proofs.Common.{◌∙◌, sym, ap, Ok}, host_memory.specs.View.{MachineView}}
use Rattle.exec_core.proofs.{OnRegisters.{binary_on}, arithmetic.ArithmeticShapedRow.on_register.Goals.{returns as goal}}

pub returns : goal
returns g c =
    binary_on g.O.BinaryFormula.formula c.args.m.now c.args.i.now g.row.W c.args.n c.args.b c.requires.operands
    ∙ ap (λ (v : MachineView). Ok v) (sym c.change.ensures)
