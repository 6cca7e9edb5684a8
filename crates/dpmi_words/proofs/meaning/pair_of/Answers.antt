use Rattle.{std.proofs.Common.{rules}, dpmi_words.proofs.meaning.pair_of.Goals.{returns as goal}}

pub returns : goal
returns c = search rules
