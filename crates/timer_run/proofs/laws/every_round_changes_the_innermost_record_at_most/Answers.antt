use Rattle.timer_run.proofs.RoundLaws.{part_calls, round_interrupt, round_turn, timed_calls}
use Rattle.timer_run.proofs.laws.every_round_changes_the_innermost_record_at_most.Goals.{returns as goal}

pub returns : goal
returns c = record { part = part_calls; interrupt = round_interrupt; turn = round_turn; rounds = timed_calls }
