use Rattle.std.proofs.Common.{◌≡◌, drop}
use Rattle.std.specs.List.{fold}
use Rattle.clap.specs.Simple.{app_of}
use Rattle.dpmi_words.specs.{Command.{with_operand, with_option, quiet_app}, Seen.{names_of, texts}}
use Rattle.dpmi_words.proofs.command.command_of.Given as goal

abbrev pub invariant-loop-row : goal.invariant-loop-row
invariant-loop-row l =
    fold with_option (quiet_app l.name) (names_of l.options) ≡ fold with_option (app_of l.command) (names_of (drop l.row-index l.options))

abbrev pub invariant-loop-operand_name : goal.invariant-loop-operand_name
invariant-loop-operand_name l =
    fold with_operand (fold with_option (quiet_app l.name) (names_of l.options)) (texts l.operands)
    ≡ fold with_operand (app_of l.command) (texts (drop l.operand_name-index l.operands))
