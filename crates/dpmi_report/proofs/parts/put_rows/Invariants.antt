use Rattle.std.proofs.Common.{◌≡◌}
use Rattle.dpmi_io.specs.Content.{Gains}
use Rattle.dpmi_report.specs.{Lines.{desc_row}, Rows.{up_to}}
use Rattle.dpmi_report.proofs.parts.put_rows.Given as goal

abbrev pub invariant-loop-index : goal.invariant-loop-index
invariant-loop-index g l =
    Gains (g.O.Sink.taken l.initial.out) (g.O.Sink.taken l.out) (up_to (desc_row l.machine.world.descriptors) l.index)
    × (g.O.Sink.faults l.out ≡ g.O.Sink.faults l.initial.out)
