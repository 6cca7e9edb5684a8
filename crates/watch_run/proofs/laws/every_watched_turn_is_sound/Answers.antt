use Rattle.watch_run.proofs.WatchedTurns.{run_sound_host, turn_has_keys, turn_sound, turns_have_keys, turns_sound, turns_sound_host}
use Rattle.watch_run.proofs.laws.every_watched_turn_is_sound.Goals.{returns as goal}

pub returns : goal
returns c = record {
  turn = turn_sound;
  keys = turn_has_keys;
  turns = turns_sound;
  turns_keys = turns_have_keys;
  host_turns = turns_sound_host;
  host_end = run_sound_host;
}
