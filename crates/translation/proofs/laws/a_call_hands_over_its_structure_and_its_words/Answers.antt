use Rattle.translation.proofs.{HandedOver.{has_begun}, laws.a_call_hands_over_its_structure_and_its_words.Goals.{returns as goal}}

pub returns : goal
returns c = has_begun
