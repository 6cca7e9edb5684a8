use Rattle.std.proofs.Common.{arith, ap, refl, map, string_bytes, Err}
use Rattle.dpmi_cli.proofs.Complete.{answers_of, answers_prepared, ends_without_failure, wrong_words}
use Rattle.dpmi_cli.proofs.command.dpmi.Goals as goal

pub returns-in-Ok-clause-answers : goal.returns-in-Ok-clause-answers
returns-in-Ok-clause-answers g c not_three not_five =
    answers_prepared (map string_bytes c.args.words.now) _ _ _ _ _ _ _ c.answer_prepared.ensures.answers c.in-Ok.ensures.verdict

pub returns-in-Ok-clause-answers_when_it_can : goal.returns-in-Ok-clause-answers_when_it_can
returns-in-Ok-clause-answers_when_it_can g c =
    answers_of (map string_bytes c.args.words.now) _ _ _ _ _ _ _ (λ three. absurd (c.answer_prepared.ensures.no_file_failed three))
    (λ not_three not_five.
    answers_prepared (map string_bytes c.args.words.now) _ _ _ _ _ _ _ c.answer_prepared.ensures.answers c.in-Ok.ensures.verdict)

pub returns-in-Ok-clause-ends_without_failure : goal.returns-in-Ok-clause-ends_without_failure
returns-in-Ok-clause-ends_without_failure g c =
    let gave = c.answer_prepared.ensures in
    ends_without_failure _ _ _ _ _ (λ three. absurd (gave.no_file_failed three)) gave.answers.output_failure_has_cause
    (omega (arith, gave.status))

pub returns-in-Ok-clause-wrong_words_are_refused : goal.returns-in-Ok-clause-wrong_words_are_refused
returns-in-Ok-clause-wrong_words_are_refused g c =
    wrong_words (map string_bytes c.args.words.now) (g.F.Shelf.files c.args.shelf.now) (g.F.Shelf.faults c.args.shelf.now)
    (g.F.Shelf.faults c.prepare.new.shelf) (g.F.Shelf.blamed c.prepare.new.shelf) _ _ _ _ _
    (λ three. absurd (c.answer_prepared.ensures.no_file_failed three))
    (λ not_three not_five.
    answers_prepared (map string_bytes c.args.words.now) _ _ _ _ _ _ _ c.answer_prepared.ensures.answers c.in-Ok.ensures.verdict)

pub returns-in-Err-Shelf-clause-answers_when_it_can : goal.returns-in-Err-Shelf-clause-answers_when_it_can
returns-in-Err-Shelf-clause-answers_when_it_can g c =
    answers_of (map string_bytes c.args.words.now) _ _ _ _ _ _ _ (λ three. c.in-Err-Shelf.ensures.failed (ap Err c.in-Err-Shelf.field-0-is))
    (λ not_three. absurd (not_three refl))

pub returns-in-Err-Shelf-clause-ends_without_failure : goal.returns-in-Err-Shelf-clause-ends_without_failure
returns-in-Err-Shelf-clause-ends_without_failure g c =
    ends_without_failure _ _ _ _ 3 (λ three. c.in-Err-Shelf.ensures.failed (ap Err c.in-Err-Shelf.field-0-is)) (λ four. cc) (omega arith)

pub returns-in-Err-Shelf-clause-wrong_words_are_refused : goal.returns-in-Err-Shelf-clause-wrong_words_are_refused
returns-in-Err-Shelf-clause-wrong_words_are_refused g c =
    wrong_words (map string_bytes c.args.words.now) _ _ _ _ _ _ _ _ _
    (λ three. c.in-Err-Shelf.ensures.failed (ap Err c.in-Err-Shelf.field-0-is)) (λ not_three. absurd (not_three refl))

pub returns-in-Err-Memory-clause-answers_when_it_can : goal.returns-in-Err-Memory-clause-answers_when_it_can
returns-in-Err-Memory-clause-answers_when_it_can g c =
    answers_of (map string_bytes c.args.words.now) _ _ _ _ _ _ 5 (λ three. cc) (λ not_three not_five. absurd (not_five refl))
