use Rattle.{std.proofs.Common.{rules}, host_run.specs.Ending.{exit_in}, host_run.proofs.ending.Ending.exit.Goals.{returns-in-4 as goal}}

pub returns-in-4 : goal
unfolding exit_in
returns-in-4 c = search rules
