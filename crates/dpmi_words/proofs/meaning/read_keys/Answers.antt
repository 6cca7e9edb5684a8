use Rattle.{std.proofs.Common.{rules}, dpmi_words.proofs.meaning.read_keys.Goals.{returns-in-None-Some as goal}}

pub returns-in-None-Some : goal
returns-in-None-Some c = search rules
