use Rattle.{std.proofs.Common.{rules}, mode_gates.specs.Entry.{entry_rows}, mode_gates.proofs.entering.make_rows.Goals.{returns as goal}}

pub returns : goal
unfolding entry_rows
returns c = search rules
