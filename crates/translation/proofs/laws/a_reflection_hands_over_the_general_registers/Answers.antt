use Rattle.translation.proofs.{HandedOver.{has_reflected}, laws.a_reflection_hands_over_the_general_registers.Goals.{returns as goal}}

pub returns : goal
returns c = has_reflected
