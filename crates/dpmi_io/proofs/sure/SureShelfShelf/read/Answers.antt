use Rattle.{std.proofs.Common.{rules}, dpmi_io.proofs.sure.SureShelfShelf.read.Goals.{returns-clause-bytes as goal}}

pub returns-clause-bytes : goal
returns-clause-bytes c = search rules
