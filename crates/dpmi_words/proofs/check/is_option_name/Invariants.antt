use Rattle.std.proofs.Common.{◌≡◌, drop}
use Rattle.dpmi_words.specs.{Reading.{is_option_name}, Seen.{names_of}}
use Rattle.dpmi_words.proofs.check.is_option_name.Given as goal

abbrev pub invariant-loop-option : goal.invariant-loop-option
invariant-loop-option l = is_option_name (names_of l.options) l.name ≡ is_option_name (names_of (drop l.option-index l.options)) l.name
