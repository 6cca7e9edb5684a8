use Rattle.{std.proofs.Common.{rules}, dos_calls.proofs.registers.refuse.Goals.{returns as goal}}

pub returns : goal
returns c = search rules
