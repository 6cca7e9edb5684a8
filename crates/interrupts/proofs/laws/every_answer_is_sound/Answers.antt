use Rattle.interrupts.proofs.SoundAnswers.{sound_delivery, sound_interrupt, sound_popped, sound_world_delivery, sound_world_interrupt}
use Rattle.interrupts.proofs.{SoundAnswers.{sound_world_popped, sound_world_step}, laws.every_answer_is_sound.Goals.{returns as goal}}

pub returns : goal
returns c = record {
  interrupt = sound_interrupt;
  delivery = sound_delivery;
  popped = sound_popped;
  world_step = sound_world_step;
  world_interrupt = sound_world_interrupt;
  world_delivery = sound_world_delivery;
  world_popped = sound_world_popped;
}
