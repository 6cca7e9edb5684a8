use Rattle.std.proofs.Common.{◌≡◌, drop}
use Rattle.dpmi_words.specs.{Reading.{has_given}, Seen.{pairs}}
use Rattle.dpmi_words.proofs.check.has.Given as goal

abbrev pub invariant-loop-g : goal.invariant-loop-g
invariant-loop-g l = has_given l.name (pairs l.given) ≡ has_given l.name (pairs (drop l.g-index l.given))
