use Rattle.{std.proofs.Common.{rules}, mode_gates.specs.Switches.{world_after_switch_to_protected, after_switch}}
use Rattle.mode_gates.proofs.switches.to_protected.Goals.{returns-in_default-clause-machine as goal}

pub returns-in_default-clause-machine : goal
unfolding world_after_switch_to_protected after_switch
returns-in_default-clause-machine c = search rules
