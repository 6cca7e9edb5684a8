use Rattle.host_run.proofs.OtherTurns.{bounded_calls, exception_keeps, int31_calls, interrupt_keeps}
use Rattle.host_run.proofs.laws.every_other_turn_changes_the_innermost_record_at_most.Goals as goal

pub returns-clause-int31 : goal.returns-clause-int31
returns-clause-int31 c = int31_calls

pub returns-clause-exception : goal.returns-clause-exception
returns-clause-exception c = λ w f s keys. (exception_keeps w f (record { machine = s; keys = keys })).calls

pub returns-clause-interrupt : goal.returns-clause-interrupt
returns-clause-interrupt c = λ w n s keys. (interrupt_keeps w n (record { machine = s; keys = keys })).calls

pub returns-clause-bound : goal.returns-clause-bound
returns-clause-bound c = bounded_calls
