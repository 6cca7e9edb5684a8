use Rattle.{std.proofs.Common.{rules}, mode_gates.proofs.switches.can_switch.Goals.{returns-else-is_loadable-3 as goal}}

pub returns-else-is_loadable-3 : goal
returns-else-is_loadable-3 c = search rules
