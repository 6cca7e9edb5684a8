use Rattle.host_run.proofs.{HandOver.{hands_over, run_hands_over}, laws.every_nested_call_hands_over.Goals.{returns as goal}}

pub returns : goal
returns c = record { matched = hands_over; run = run_hands_over }
