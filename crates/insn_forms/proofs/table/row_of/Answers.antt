use Rattle.{std.proofs.Common.{◌∙◌, sym, ap, arith}, insn_forms.proofs.Tables.{row_one_is, row_two_is, one_has_rows, two_has_rows}}
use Rattle.insn_forms.specs.OpcodeMap.{opcode_row}
use Rattle.insn_forms.proofs.table.row_of.Goals as goal

pub row_in_slot-requires : goal.row_in_slot-requires
row_in_slot-requires c = one_has_rows c.args.opcode _ (omega (arith, c.ranges.opcode.fits))

pub row_in_slot-requires-in-Two : goal.row_in_slot-requires-in-Two
row_in_slot-requires-in-Two c = two_has_rows c.args.opcode _ (omega (arith, c.ranges.opcode.fits))

pub returns-in-One : goal.returns-in-One
returns-in-One c =
    c.row_in_slot.ensures
    ∙ ap (λ f. f c.args.reg) (row_one_is c.args.opcode _ (omega (arith, c.ranges.opcode.fits)))
    ∙ ap (λ m. opcode_row m c.args.opcode c.args.reg) (sym c.in-One.is)

pub returns-in-Two : goal.returns-in-Two
returns-in-Two c =
    c.row_in_slot-in-Two.ensures
    ∙ ap (λ f. f c.args.reg) (row_two_is c.args.opcode _ (omega (arith, c.ranges.opcode.fits)))
    ∙ ap (λ m. opcode_row m c.args.opcode c.args.reg) (sym c.in-Two.is)
