use Rattle.host_run.proofs.Sound.{turn_sound, host_turn_sound}
use Rattle.host_run.proofs.laws.every_turn_is_sound.Goals as goal

pub returns-clause-machine : goal.returns-clause-machine
returns-clause-machine c = λ w s keys. (turn_sound w (record { machine = s; keys = keys })).machine

pub returns-clause-keys : goal.returns-clause-keys
returns-clause-keys c = λ w s keys. (turn_sound w (record { machine = s; keys = keys })).keys

pub returns-clause-host : goal.returns-clause-host
returns-clause-host c = host_turn_sound
