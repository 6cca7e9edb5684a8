use Rattle.host_run.proofs.Sound.{turns_sound, run_sound, host_turns_sound, host_run_sound}
use Rattle.host_run.proofs.laws.every_run_is_sound.Goals as goal

pub returns-clause-turns : goal.returns-clause-turns
returns-clause-turns c = λ w s keys n. (turns_sound w n (record { machine = s; keys = keys })).machine

pub returns-clause-end : goal.returns-clause-end
returns-clause-end c = λ w s keys n. (run_sound w n (record { machine = s; keys = keys })).machine

pub returns-clause-keys : goal.returns-clause-keys
returns-clause-keys c = λ w s keys n. (turns_sound w n (record { machine = s; keys = keys })).keys

pub returns-clause-host_turns : goal.returns-clause-host_turns
returns-clause-host_turns c = host_turns_sound

pub returns-clause-host_end : goal.returns-clause-host_end
returns-clause-host_end c = host_run_sound
