use Rattle.{std.proofs.Common.{rules}, dpmi_io.proofs.real.FileShelfShelf.open.Goals.{returns-in-Err-clause-failed as goal}}

pub returns-in-Err-clause-failed : goal
returns-in-Err-clause-failed g c = search rules
