use Rattle.{std.proofs.Common.{◌∙◌, sym, ap, Ok}, host_memory.specs.View.{MachineView}}
use Rattle.exec_core.proofs.{OnRegisters.{shift_on}, shifts.ShiftingShapedRow.on_register.Goals.{returns as goal}}

pub returns : goal
returns g c =
    shift_on g.O.ShiftFormula.formula c.args.m.now c.args.i.now g.row.W c.args.n c.args.b c.requires.operands
    ∙ ap (λ (v : MachineView). Ok v) (sym c.shift_register.ensures)
