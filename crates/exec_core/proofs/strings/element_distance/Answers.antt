use Rattle.{std.proofs.Common.{rules}, exec_core.proofs.strings.element_distance.Goals.{returns-then-registers as goal}}

pub returns-then-registers : goal
returns-then-registers c = search rules
