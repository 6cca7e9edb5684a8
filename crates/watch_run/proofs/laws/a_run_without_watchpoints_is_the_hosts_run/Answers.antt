use Rattle.watch_run.proofs.{Runs.{plain_run}, laws.a_run_without_watchpoints_is_the_hosts_run.Goals.{returns as goal}}

pub returns : goal
returns c = plain_run
