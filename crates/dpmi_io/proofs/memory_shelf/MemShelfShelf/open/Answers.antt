use Rattle.std.proofs.Common.{rules}
use Rattle.dpmi_io.proofs.memory_shelf.MemShelfShelf.open.Goals as goal

pub returns-then-is_none-clause-result : goal.returns-then-is_none-clause-result
returns-then-is_none-clause-result c = search rules

pub returns-clause-result : goal.returns-clause-result
returns-clause-result c = search rules
