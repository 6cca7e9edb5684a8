use Rattle.{std.proofs.Common.{rules}, translation.specs.SimulatedCall.{begin_call}}
use Rattle.translation.proofs.calling.begin.Goals.{returns-in-Err-clause-begun as goal}

pub returns-in-Err-clause-begun : goal
unfolding begin_call
returns-in-Err-clause-begun c = search rules
