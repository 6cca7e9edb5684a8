use Rattle.dos_calls.proofs.{LeftCalls.{call_leaves}, laws.every_dos_call_extends_the_console.Goals.{returns as goal}}

pub returns : goal
returns c = λ s. (call_leaves s).console
