use Rattle.callbacks.proofs.{Served.{sound_serve}, SoundEntries.{sound_enter, sound_leave}}
use Rattle.callbacks.proofs.laws.every_callback_is_sound.Goals.{returns as goal}

pub returns : goal
returns c = record { serve = sound_serve; enter = sound_enter; leave = sound_leave }
