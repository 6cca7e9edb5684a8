use Rattle.translation.proofs.{HandedOver.{has_ended}, laws.a_return_hands_over_the_results.Goals.{returns as goal}}

pub returns : goal
returns c = has_ended
