use Rattle.{std.proofs.Common.{◌∙◌, codes, sym, subst, map}, std.specs.String.{string_bytes}, clap.specs.Matches.{found_of}}
use Rattle.dpmi_words.specs.{Command.{TakesItsWords, command_app}, Meaning.{pair_of_values}, Options.{pair_options}, Reading.{given_by}}
use Rattle.{dpmi_words.specs.Reading.{pair_operands}, dpmi_words.proofs.Commands.{of_assigned, pair_takes_words}}
use Rattle.dpmi_words.proofs.meaning.read_pair.Goals as goal

pub assign-requires : goal.assign-requires
assign-requires c =
    subst (λ names. TakesItsWords (command_app (codes "pair") names pair_operands) names pair_operands)
    (sym c.pair_options-options.ensures.names)
    pair_takes_words

pub returns-in-Ok : goal.returns-in-Ok
returns-in-Ok c =
    let words = map string_bytes c.args.words.now in
    c.pair_of.ensures ∙ of_assigned pair_of_values (given_by pair_options pair_operands words) (found_of c.in-Ok.values)
    (sym (rw c.pair_options-options.ensures.names at c.in_ok-passes.ensures) ∙ c.if-not-branch.false)
    (rw c.pair_options-options.ensures.names at c.in-Ok.ensures.values)
