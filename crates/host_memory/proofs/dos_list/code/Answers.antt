use Rattle.{std.proofs.Common.{rules}, host_memory.proofs.dos_list.code.Goals.{returns-in-Dpmi as goal}}

pub returns-in-Dpmi : goal
returns-in-Dpmi c = search rules
