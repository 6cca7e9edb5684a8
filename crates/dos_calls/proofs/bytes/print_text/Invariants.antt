use Rattle.std.proofs.Common.{◌+◌, ◌-◌}
use Rattle.client_world.specs.declared.memory_map.TheConstants.{SEGMENT_SIZE}
use Rattle.dos_calls.specs.DosBytes.{text_from}
use Rattle.dos_calls.proofs.ConsoleLaws.{Adds}
use Rattle.dos_calls.proofs.bytes.print_text.Given as goal

abbrev pub invariant-loop-n : goal.invariant-loop-n
invariant-loop-n l =
    Adds l.fn.console (text_from l.fn.m.world.dos l.segment l.offset SEGMENT_SIZE)
    l.console (text_from l.fn.m.world.dos l.segment (l.offset + l.n) (SEGMENT_SIZE - l.n))
