use Rattle.{std.proofs.{Common.{◌∙◌, ap, map}, lemmas.Result.{IfOk-weaker, IfErr-weaker}}, std.specs.String.{string_bytes}}
use Rattle.clap.specs.{Matches.{found_of}, Simple.{is_simple, matches_of}, Takes.{takes}}
use Rattle.{dpmi_words.specs.{Reading.{given_by}, Seen.{names_of, texts}}, dpmi_words.proofs.Commands.{if_given}}
use Rattle.dpmi_words.proofs.command.assign.Goals as goal

pub returns-clause-values : goal.returns-clause-values
returns-clause-values c =
    let words = map string_bytes c.args.words.now in
    let app = c.in_ok-command.ensures in
    if_given (given_by (names_of c.args.options.now) (texts c.args.operands.now) words) _ (λ given e.
    IfOk-weaker c.try_get_matches_from.result _ _ (λ matches h.
    c.requires.assigns_all words given (found_of matches) e
    ((h (ap is_simple app ∙ c.requires.simple)).0 ∙ ap (λ a. matches_of a words) app)) c.try_get_matches_from.ensures.matches)

pub returns-clause-memory : goal.returns-clause-memory
returns-clause-memory c =
    let words = map string_bytes c.args.words.now in
    let app = c.in_ok-command.ensures in
    if_given (given_by (names_of c.args.options.now) (texts c.args.operands.now) words) _ (λ given e.
    IfErr-weaker c.try_get_matches_from.result _ _ (λ error h.
    h (ap (λ a. takes a words) app ∙ c.requires.takes_all words given e)) c.try_get_matches_from.ensures.passes)
