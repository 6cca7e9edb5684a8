use Rattle.{std.proofs.Common.{codes, sym, subst}, dpmi_words.specs.{Command.{TakesItsWords, command_app}, Reading.{one_operand}}}
use Rattle.dpmi_words.proofs.{Commands.{soak_takes_words}, meaning.read_soak.Goals.{assign-requires as goal}}

pub assign-requires : goal
assign-requires c =
    subst (λ names. TakesItsWords (command_app (codes "soak") names one_operand) names one_operand)
    (sym c.soak_options-options.ensures.names)
    soak_takes_words
