-- Each instruction is one of exec_core's or one of exec_flow's.
use Rattle.std.proofs.Common.{◌≡◌, true, false, not, ap}
use Rattle.insn_forms.specs.{declared.insn.Op.{Op}, declared.insn.Operand.{Operand}}
use Rattle.exec_core.specs.Dispatch.{is_core}
use Rattle.exec_flow.specs.Dispatch.{is_flow}

pub flow_where_not_core : (op : Op) (first second : Operand) → is_core op first second ≡ false → is_flow op first second ≡ true
unfolding is_core is_flow
flow_where_not_core op first second e = ap not e
