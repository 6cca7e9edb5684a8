use Rattle.std.proofs.Common.{◌≡◌, drop, map}
use Rattle.std.specs.String.{string_bytes}
use Rattle.dpmi_words.specs.{Reading.{nothing_read, reads}, Seen.{names_of, texts, reading_of}}
use Rattle.dpmi_words.proofs.check.passes.Given as goal

abbrev pub invariant-loop-word : goal.invariant-loop-word
invariant-loop-word l =
    reads (names_of l.options) (map string_bytes l.words) (nothing_read (texts l.operands))
    ≡ reads (names_of l.options) (map string_bytes (drop l.word-index l.words)) (reading_of l.seen)
