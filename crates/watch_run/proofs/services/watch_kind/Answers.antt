use Rattle.{std.proofs.Common.{rules}, watch_run.proofs.services.watch_kind.Goals.{returns-in-1 as goal}}

pub returns-in-1 : goal
returns-in-1 c = search rules
