use Rattle.translation.proofs.{SoundCalls.{sound_begin, sound_reflect, sound_end}, laws.every_call_is_sound.Goals.{returns as goal}}

pub returns : goal
returns c = record { begin = sound_begin; reflect = sound_reflect; end = sound_end }
