use Rattle.{std.proofs.Common.{rules}, host_run.proofs.host.Host.next_turn.Goals.{returns-in-None-clause-window as goal}}

pub returns-in-None-clause-window : goal
returns-in-None-clause-window c = search rules
