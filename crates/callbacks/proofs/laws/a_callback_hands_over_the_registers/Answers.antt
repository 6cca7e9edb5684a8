use Rattle.callbacks.proofs.{SoundEntries.{has_entered}, laws.a_callback_hands_over_the_registers.Goals.{returns as goal}}

pub returns : goal
returns c = has_entered
