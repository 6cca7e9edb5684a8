use Rattle.fault_service.proofs.{SoundAnswers.{sound_by_mode}, by_mode.every_delivery_is_sound.Goals.{returns as goal}}

pub returns : goal
returns c = sound_by_mode
