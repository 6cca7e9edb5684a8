use Rattle.fault_service.proofs.{SoundAnswers.{sound_delivery, sound_return}, laws.every_answer_is_sound.Goals.{returns as goal}}

pub returns : goal
returns c = record { delivery = sound_delivery; back = sound_return }
