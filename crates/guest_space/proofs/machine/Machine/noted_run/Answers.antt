use Rattle.{std.proofs.Common.{rules}, guest_space.proofs.machine.Machine.noted_run.Goals.{returns-then-is_in_page as goal}}

pub returns-then-is_in_page : goal
returns-then-is_in_page c = search rules
