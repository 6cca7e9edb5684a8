use Rattle.host_run.proofs.{Runs.{run_stays}, laws.a_run_past_an_exit_is_over.Goals.{returns as goal}}

pub returns : goal
returns c = run_stays
