use Rattle.std.proofs.{Common.{◌≡◌, ◌∙◌, map, string_bytes, sym, ap, refl}, lemmas.Result.{IfOk-weaker}}
use Rattle.{std.specs.Prelude.{Some, None, option_map}, dpmi_words.specs.Meaning.{Pairs, Runs, Soaks, meaning, meaning_in, pair_in, run_in}}
use Rattle.dpmi_cli.proofs.{Files.{meaning_comes, sure_comes}, Ranges.{pair_ranges, run_ranges}}
use Rattle.dpmi_cli.proofs.prepare.prepare.Goals as goal

pub prepare_run-requires : goal.prepare_run-requires
prepare_run-requires g c =
    let is : meaning (map string_bytes c.args.words.now) ≡ Some (Runs (run_in c.in-Some-Run.run')) =
    sym c.in_ok-run.ensures ∙ ap (option_map meaning_in) (c.in-Some-Run.is ∙ ap Some c.in-Some-Run.field-0-is) in
    run_ranges (map string_bytes c.args.words.now) (run_in c.in-Some-Run.run') is

pub returns-in-Some-Run-clause-verdict : goal.returns-in-Some-Run-clause-verdict
returns-in-Some-Run-clause-verdict g c =
    let is : meaning (map string_bytes c.args.words.now) ≡ Some (Runs (run_in c.in-Some-Run.run')) =
    sym c.in_ok-run.ensures ∙ ap (option_map meaning_in) (c.in-Some-Run.is ∙ ap Some c.in-Some-Run.field-0-is) in
    IfOk-weaker c.prepare_run.result _ _
    (λ p h. meaning_comes (map string_bytes c.args.words.now) (Some (Runs (run_in c.in-Some-Run.run'))) _ _ is h)
    c.prepare_run.ensures.verdict

pub returns-in_ok-prepare_soak-in-Some-Soak-clause-verdict : goal.returns-in_ok-prepare_soak-in-Some-Soak-clause-verdict
returns-in_ok-prepare_soak-in-Some-Soak-clause-verdict g c =
    let is : meaning (map string_bytes c.args.words.now) ≡ Some (Soaks c.in-Some-Soak.number) =
    sym c.in_ok-run.ensures ∙ ap (option_map meaning_in) (c.in-Some-Soak.is ∙ ap Some c.in-Some-Soak.field-0-is) in
    sure_comes (map string_bytes c.args.words.now) (Some (Soaks c.in-Some-Soak.number)) _ _ is
    (λ first second. ap Some (sym c.in_ok-prepare_soak-in-Some-Soak.ensures.verdict))

pub returns-in-None-clause-verdict : goal.returns-in-None-clause-verdict
returns-in-None-clause-verdict g c =
    let is : meaning (map string_bytes c.args.words.now) ≡ None = sym c.in_ok-run.ensures ∙ ap (option_map meaning_in) c.in-None.is in
    sure_comes (map string_bytes c.args.words.now) None _ _ is (λ first second. refl)

pub prepare_pair-requires : goal.prepare_pair-requires
prepare_pair-requires g c =
    let is : meaning (map string_bytes c.args.words.now) ≡ Some (Pairs (pair_in c.in-Some-Pair.pair)) =
    sym c.in_ok-run.ensures ∙ ap (option_map meaning_in) (c.in-Some-Pair.is ∙ ap Some c.in-Some-Pair.field-0-is) in
    pair_ranges (map string_bytes c.args.words.now) (pair_in c.in-Some-Pair.pair) is

pub returns-in-Some-Pair-clause-verdict : goal.returns-in-Some-Pair-clause-verdict
returns-in-Some-Pair-clause-verdict g c =
    let is : meaning (map string_bytes c.args.words.now) ≡ Some (Pairs (pair_in c.in-Some-Pair.pair)) =
    sym c.in_ok-run.ensures ∙ ap (option_map meaning_in) (c.in-Some-Pair.is ∙ ap Some c.in-Some-Pair.field-0-is) in
    IfOk-weaker c.prepare_pair.result _ _
    (λ p h. meaning_comes (map string_bytes c.args.words.now) (Some (Pairs (pair_in c.in-Some-Pair.pair))) _ _ is h)
    c.prepare_pair.ensures.verdict
