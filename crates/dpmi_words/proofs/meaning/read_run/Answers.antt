use Rattle.{std.proofs.{Common.{◌∙◌, codes, sym, subst, map}, lemmas.Result.{IfOk-weaker}}, std.specs.String.{string_bytes}}
use Rattle.clap.specs.Matches.{found_of}
use Rattle.dpmi_words.specs.{Command.{TakesItsWords, command_app}, Meaning.{run_of_values}, Options.{run_options}, Reading.{given_by}}
use Rattle.{dpmi_words.specs.Reading.{one_operand}, dpmi_words.proofs.Commands.{of_assigned, run_takes_words}}
use Rattle.dpmi_words.proofs.meaning.read_run.Goals as goal

pub assign-requires : goal.assign-requires
assign-requires c =
    subst (λ names. TakesItsWords (command_app (codes "run") names one_operand) names one_operand) (sym c.run_options-options.ensures.names)
    run_takes_words

pub returns-in-Ok : goal.returns-in-Ok
returns-in-Ok c =
    let words = map string_bytes c.args.words.now in
    IfOk-weaker c.run_of.result _ _ (λ r h. h ∙ of_assigned run_of_values (given_by run_options one_operand words) (found_of c.in-Ok.values)
    (sym (rw c.run_options-options.ensures.names at c.in_ok-passes.ensures) ∙ c.if-not-branch.false)
    (rw c.run_options-options.ensures.names at c.in-Ok.ensures.values)) c.run_of.ensures
