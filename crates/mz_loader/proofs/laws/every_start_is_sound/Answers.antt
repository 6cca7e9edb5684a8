use Rattle.mz_loader.proofs.{SoundStart.{sound_start}, laws.every_start_is_sound.Goals.{returns as goal}}

pub returns : goal
returns c = sound_start
