use Rattle.std.proofs.Common.{rules}
use Rattle.callbacks.proofs.{StackAsked.{reach_here, reach_elsewhere}, real_stack.is_writable.Goals.{returns-then-names_stack_row as goal}}

pub returns-then-names_stack_row : goal
returns-then-names_stack_row c = search (rules, reach_here, reach_elsewhere)
