use Rattle.{std.proofs.Common.{rules}, mode_gates.specs.Entry.{after_first_entry}, mode_gates.proofs.entering.enter.Goals.{returns as goal}}

pub returns : goal
unfolding after_first_entry
returns c = search rules
