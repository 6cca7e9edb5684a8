use Rattle.std.proofs.Common.{rules}
use Rattle.dpmi_io.proofs.memory_sink.MemSinkSink.put.Goals as goal

pub returns-then-count-clause-failed : goal.returns-then-count-clause-failed
returns-then-count-clause-failed c = search rules

pub returns-clause-fails : goal.returns-clause-fails
returns-clause-fails c = search rules
