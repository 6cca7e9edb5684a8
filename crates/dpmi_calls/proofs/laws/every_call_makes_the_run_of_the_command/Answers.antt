use Rattle.dpmi_calls.proofs.{Turns.{same_run}, laws.every_call_makes_the_run_of_the_command.Goals.{returns-clause-turns as goal}}

pub returns-clause-turns : goal
returns-clause-turns c = λ timer h n. same_run timer h n
