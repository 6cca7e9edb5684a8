use Rattle.dos_calls.proofs.SoundCalls.{call_keeps, multiplex_keeps}
use Rattle.dos_calls.proofs.laws.every_dos_call_is_sound.Goals as goal

pub returns-clause-world : goal.returns-clause-world
returns-clause-world c = λ s sound bytes. (call_keeps s (record { world = sound; keys = bytes })).world

pub returns-clause-keys : goal.returns-clause-keys
returns-clause-keys c = λ s sound bytes. (call_keeps s (record { world = sound; keys = bytes })).keys

pub returns-clause-console : goal.returns-clause-console
returns-clause-console c = λ s sound bytes. (call_keeps s (record { world = sound; keys = bytes })).console

pub returns-clause-multiplex : goal.returns-clause-multiplex
returns-clause-multiplex c = multiplex_keeps
