use Rattle.{std.proofs.Common.{rules}, mode_gates.specs.Entry.{entry}, mode_gates.proofs.entering.entry.Goals.{returns-in-Some as goal}}

pub returns-in-Some : goal
unfolding entry
returns-in-Some c = search rules
