use Rattle.std.proofs.{Common.{◌∙◌, sym, arith}, lemmas.List.{get_or_past}}
use Rattle.{insn_forms.specs.{declared.rows.Form.TheVariants.{Empty}, OpcodeMap.{no_row}}, insn_forms.proofs.Tables.{picked}}
use Rattle.insn_forms.proofs.table.row_of_group.Goals as goal

pub returns-then-reg-lt8 : goal.returns-then-reg-lt8
returns-then-reg-lt8 c = picked c.args.reg c.args.rows.now

-- past the last row there is none
pub returns-else-reg-lt8 : goal.returns-else-reg-lt8
returns-else-reg-lt8 c = sym (get_or_past c.args.rows.now c.args.reg (no_row Empty Empty) (omega arith)) ∙ picked c.args.reg c.args.rows.now
