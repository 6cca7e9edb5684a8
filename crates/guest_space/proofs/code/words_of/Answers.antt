use Rattle.{std.proofs.Common.{arith}, guest_space.proofs.{Codes.{words_of_region}, code.words_of.Goals.{returns as goal}}}

pub returns : goal
returns c = grind (arith, words_of_region)
