use Rattle.{std.proofs.Common.{rules}, dpmi_io.proofs.memory_shelf.MemShelfShelf.read.Goals.{returns-then-count-clause-failed as goal}}

pub returns-then-count-clause-failed : goal
returns-then-count-clause-failed c = search rules
