use Rattle.{std.proofs.Common.{rules}, translation.proofs.calling.return_frame.Goals.{returns-in-Far-clause-words as goal}}

pub returns-in-Far-clause-words : goal
returns-in-Far-clause-words c = search rules
