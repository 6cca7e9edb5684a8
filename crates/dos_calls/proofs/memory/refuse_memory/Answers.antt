use Rattle.{std.proofs.Common.{rules}, dos_calls.proofs.memory.refuse_memory.Goals.{returns-in-NoMemory as goal}}

pub returns-in-NoMemory : goal
returns-in-NoMemory c = search rules
