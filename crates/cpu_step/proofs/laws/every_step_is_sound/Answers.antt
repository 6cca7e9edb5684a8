use Rattle.cpu_step.proofs.{SoundSteps.{sound_step}, laws.every_step_is_sound.Goals.{returns as goal}}

pub returns : goal
returns c = sound_step
