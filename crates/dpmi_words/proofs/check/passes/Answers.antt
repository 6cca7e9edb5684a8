use Rattle.{std.proofs.Common.{◌∙◌, sym, ap}, std.specs.{Prelude.{option_and_then, is_some, Some, None}, String.{string_bytes}}}
use Rattle.{dpmi_words.specs.{Reading.{step, finished}, Seen.{names_of, reading_of}}, dpmi_words.proofs.InTurn.{word_taken, words_done}}
use Rattle.dpmi_words.proofs.check.passes.Goals as goal

pub returns-then-not-branch : goal.returns-then-not-branch
returns-then-not-branch c =
    let none = word_taken (names_of c.args.options.now) string_bytes c.args.words.now c.loop-word.word-index c.word-item.result _ None
    (reading_of c.loop-word.seen) c.loop-word-test.true c.word-item.is
    (ap (λ t. step (names_of c.args.options.now) t (reading_of c.loop-word.seen)) (sym c.as_str.ensures.value)
    ∙ rw c.if-not-branch.true at c.in_ok-take_word.ensures) c.loop-word.invariant in
    sym (ap (λ o. is_some (option_and_then finished o)) none)

pub loop-word-preserved : goal.loop-word-preserved
loop-word-preserved c =
    word_taken (names_of c.args.options.now) string_bytes c.args.words.now c.loop-word.word-index c.word-item.result _
    (Some (reading_of c.take_word.new.seen)) (reading_of c.loop-word.seen) c.loop-word-test.true c.word-item.is
    (ap (λ t. step (names_of c.args.options.now) t (reading_of c.loop-word.seen)) (sym c.as_str.ensures.value)
    ∙ rw c.if-not-branch.false at c.in_ok-take_word.ensures) c.loop-word.invariant

pub returns : goal.returns
returns c =
    let done = words_done (names_of c.args.options.now) string_bytes c.args.words.now c.loop-word.word-index _ (reading_of c.loop-word.seen)
    c.loop-word-test.false c.loop-word.invariant in
    c.is_finished.ensures ∙ sym (ap (λ o. is_some (option_and_then finished o)) done)
