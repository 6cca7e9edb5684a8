use Rattle.callbacks.proofs.{SoundEntries.{has_left}, laws.a_return_hands_back_the_registers.Goals.{returns as goal}}

pub returns : goal
returns c = has_left
