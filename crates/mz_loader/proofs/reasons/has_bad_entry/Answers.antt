use Rattle.{std.proofs.Common.{rules}, mz_loader.proofs.reasons.has_bad_entry.Goals.{returns-else-entry as goal}}

pub returns-else-entry : goal
returns-else-entry c = search rules
