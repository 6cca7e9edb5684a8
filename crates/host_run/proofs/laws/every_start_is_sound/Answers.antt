use Rattle.host_run.proofs.{Sound.{blank_sound, started_sound}, laws.every_start_is_sound.Goals.{returns as goal}}

pub returns : goal
returns c = record { blank = blank_sound; started = started_sound }
