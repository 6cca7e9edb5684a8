use Rattle.std.proofs.Common.{◌≡◌, take, drop}
use Rattle.dos_calls.specs.Calls.{line_of}
use Rattle.dos_calls.proofs.LineLaws.{behind}
use Rattle.dos_calls.proofs.keys.line_length.Given as goal

abbrev pub invariant-loop-n : goal.invariant-loop-n
invariant-loop-n l = line_of l.bytes ≡ behind (take l.n l.bytes) (line_of (drop l.n l.bytes))
