use Rattle.std.proofs.Common.{◌≡◌}
use Rattle.dpmi_io.specs.Content.{Gains}
use Rattle.dpmi_report.specs.{Lines.{block_row}, Rows.{up_to}}
use Rattle.dpmi_report.proofs.blocks.put_block_rows.Given as goal

abbrev pub invariant-loop-place : goal.invariant-loop-place
invariant-loop-place g l =
    Gains (g.O.Sink.taken l.initial.out) (g.O.Sink.taken l.out) (up_to (block_row l.machine.world.blocks) l.place)
    × (g.O.Sink.faults l.out ≡ g.O.Sink.faults l.initial.out)
