use Rattle.{std.proofs.Common.{rules}, insn_plan.specs.Accesses.{touch_of_access}}
use Rattle.insn_plan.proofs.{Moved.{access_fault_moved, selector_moved}, accesses.Accesses.touch_of_access.Goals.{returns as goal}}

pub returns : goal
unfolding touch_of_access
returns c = search (rules, access_fault_moved, selector_moved)
