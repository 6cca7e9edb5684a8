use Rattle.{std.proofs.Common.{rules}, translation.specs.SimulatedCall.{call_service}}
use Rattle.translation.proofs.calling.call_by.Goals.{returns-then-depth-eq-DEEPEST as goal}

pub returns-then-depth-eq-DEEPEST : goal
unfolding call_service
returns-then-depth-eq-DEEPEST c = search rules
