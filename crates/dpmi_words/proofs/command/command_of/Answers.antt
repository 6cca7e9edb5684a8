use Rattle.{std.proofs.Common.{◌∙◌, ap}, clap.specs.Simple.{app_of, with_rule}, dpmi_words.specs.Command.{with_operand, with_option}}
use Rattle.dpmi_words.proofs.InTurn.{step_folded}
use Rattle.dpmi_words.proofs.command.command_of.Goals as goal

pub loop-row-preserved : goal.loop-row-preserved
loop-row-preserved c =
    step_folded with_option (λ o. o.name.now) c.args.options.now c.loop-row.row-index _ _ _ _ c.loop-row-test.true
    (c.in_ok-command.ensures ∙ ap (with_rule (app_of c.loop-row.command)) c.option.ensures.rule) c.loop-row.invariant

pub loop-operand_name-preserved : goal.loop-operand_name-preserved
loop-operand_name-preserved c =
    step_folded with_operand (λ s. s.now) c.args.operands.now c.loop-operand_name.operand_name-index _ _ _ _ c.loop-operand_name-test.true
    (c.in_ok-command-2.ensures ∙ ap (with_rule (app_of c.loop-operand_name.command)) c.positional.ensures.rule)
    c.loop-operand_name.invariant
