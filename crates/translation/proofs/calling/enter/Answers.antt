use Rattle.{std.proofs.Common.{rules}, translation.specs.SimulatedCall.{callee_world}}
use Rattle.translation.proofs.calling.enter.Goals.{returns as goal}

pub returns : goal
unfolding callee_world
returns c = search rules
