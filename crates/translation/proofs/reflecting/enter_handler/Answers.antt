use Rattle.{std.proofs.Common.{rules}, translation.specs.SimulatedCall.{reflection_regs, after_reflection}}
use Rattle.translation.proofs.reflecting.enter_handler.Goals.{returns as goal}

pub returns : goal
unfolding reflection_regs after_reflection
returns c = search rules
