use Rattle.std.proofs.Common.{drop}
use Rattle.dos_calls.proofs.ConsoleLaws.{Adds}
use Rattle.dos_calls.proofs.console.Console.print.Given as goal

abbrev pub invariant-loop-byte : goal.invariant-loop-byte
invariant-loop-byte l = Adds l.fn.self l.bytes l.self (drop l.byte-index l.bytes)
