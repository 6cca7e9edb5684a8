use Rattle.std.proofs.Common.{◌≡◌}
use Rattle.dpmi_io.specs.Content.{Gains}
use Rattle.dpmi_report.specs.{Rows.{up_to}, Trace.{trace_row}}
use Rattle.dpmi_report.proofs.parts.put_first_events.Given as goal

abbrev pub invariant-loop-i : goal.invariant-loop-i
invariant-loop-i g l =
    Gains (g.O.Sink.taken l.initial.out) (g.O.Sink.taken l.out) (up_to (trace_row l.host.world.kept) l.i)
    × (g.O.Sink.faults l.out ≡ g.O.Sink.faults l.initial.out)
