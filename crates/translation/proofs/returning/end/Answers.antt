use Rattle.{std.proofs.Common.{rules}, translation.specs.SimulatedCall.{end_call}}
use Rattle.translation.proofs.returning.end.Goals.{returns-then-not-has_structure as goal}

pub returns-then-not-has_structure : goal
unfolding end_call
returns-then-not-has_structure c = search rules
