use Rattle.dos_calls.proofs.{LeftCalls.{call_leaves}, laws.every_end_of_a_dos_call_leaves_the_machine.Goals.{returns as goal}}

pub returns : goal
returns c = record { machine = λ s. (call_leaves s).machine; outside = λ s. (call_leaves s).outside }
