use Rattle.{std.proofs.Common.{rules}, host_run.proofs.windows.trap_free_window.Goals.{returns-clause-window as goal}}

pub returns-clause-window : goal
returns-clause-window c = λ some. (c.find_window-window.ensures.window some, c.is_outside.ensures (search rules))
