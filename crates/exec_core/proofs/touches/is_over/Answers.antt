use Rattle.{std.proofs.Common.{rules}, exec_core.proofs.touches.is_over.Goals.{returns-then-ne as goal}}

pub returns-then-ne : goal
returns-then-ne c = search rules
