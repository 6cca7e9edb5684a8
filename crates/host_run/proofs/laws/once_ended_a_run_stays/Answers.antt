use Rattle.host_run.proofs.{Runs.{turns_stay}, laws.once_ended_a_run_stays.Goals.{returns as goal}}

pub returns : goal
returns c = turns_stay
