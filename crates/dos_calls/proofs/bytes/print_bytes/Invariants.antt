use Rattle.std.proofs.Common.{◌+◌, ◌-◌}
use Rattle.dos_calls.specs.DosBytes.{bytes_from}
use Rattle.dos_calls.proofs.ConsoleLaws.{Adds}
use Rattle.dos_calls.proofs.bytes.print_bytes.Given as goal

abbrev pub invariant-loop-n : goal.invariant-loop-n
invariant-loop-n l =
    Adds l.fn.console (bytes_from l.fn.m.world.dos l.segment l.offset l.count)
    l.console (bytes_from l.fn.m.world.dos l.segment (l.offset + l.n) (l.count - l.n))
