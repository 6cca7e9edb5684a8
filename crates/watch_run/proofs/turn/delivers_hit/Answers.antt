use Rattle.{std.proofs.Common.{rules}, watch_run.proofs.turn.delivers_hit.Goals.{returns-in-Real as goal}}

pub returns-in-Real : goal
returns-in-Real c = search rules
