use Rattle.{std.proofs.Common.{rules}, exec_core.proofs.strings.is_over.Goals.{returns-then-is_repeated as goal}}

pub returns-then-is_repeated : goal
returns-then-is_repeated c = search rules
