use Rattle.host_run.proofs.{Nested.{anywhere}, Sound.{turns_calls}, TurnLaws.{turn_keeps}}
use Rattle.host_run.proofs.laws.every_turn_changes_the_innermost_record_at_most.Goals as goal

pub returns-clause-turn : goal.returns-clause-turn
returns-clause-turn c = λ w s keys. (turn_keeps w (record { machine = s; keys = keys })).calls

pub returns-clause-turns : goal.returns-clause-turns
returns-clause-turns c = λ w s keys n. turns_calls w n (record { machine = s; keys = keys })

pub returns-clause-anywhere : goal.returns-clause-anywhere
returns-clause-anywhere c = anywhere
