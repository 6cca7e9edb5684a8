use Rattle.{std.proofs.Common.{rules}, dos_calls.proofs.console.Console.add.Goals.{returns-then-len-clause-bytes as goal}}

pub returns-then-len-clause-bytes : goal
returns-then-len-clause-bytes c = search rules
