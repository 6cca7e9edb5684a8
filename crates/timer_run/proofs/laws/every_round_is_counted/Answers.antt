use Rattle.timer_run.proofs.RoundLaws.{round_counted, round_exit, round_exit_outside, round_extends}
use Rattle.timer_run.proofs.laws.every_round_is_counted.Goals.{returns as goal}

pub returns : goal
returns c = record { counted = round_counted; console = round_extends; exit = round_exit; outside = round_exit_outside }
