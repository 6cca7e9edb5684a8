use Rattle.{std.proofs.Common.{rules}, callbacks.specs.Callbacks.{leave_callback, after_leaving}}
use Rattle.callbacks.proofs.leaving.leave.Goals.{returns-else-not-far_ok as goal}

pub returns-else-not-far_ok : goal
unfolding leave_callback after_leaving
returns-else-not-far_ok c = search rules
