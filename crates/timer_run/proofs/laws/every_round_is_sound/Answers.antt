use Rattle.timer_run.proofs.RoundLaws.{part_sound, round_keys, round_sound, run_sound_host, timed_sound, timed_sound_host}
use Rattle.timer_run.proofs.laws.every_round_is_sound.Goals.{returns as goal}

pub returns : goal
returns c = record {
  part = part_sound;
  round = round_sound;
  keys = round_keys;
  rounds = timed_sound;
  host_rounds = timed_sound_host;
  host_end = run_sound_host;
}
