use Rattle.std.proofs.{Common.{◌≡◌, true, refl, arith}, lemmas.Bool.{false_from_ne_true}}
use Rattle.{insn_forms.specs.{declared.insn.Op.{Op}, declared.insn.Operand.{Operand}}, exec_core.specs.Dispatch.{is_core}}
use Rattle.insn_forms.specs.declared.insn.Op.TheVariants as ops
use Rattle.exec_core.proofs.dispatch.carry_out_core.Goals as goal

-- an operation that no arm takes is none of this crate
none : (c : goal.In_default) (op : Op) (first second : Operand) → c.args.insn.now.op ≡ op → is_core op first second ≡ true → ⊥
unfolding is_core
none c ops.Add first second is e = grind (arith, is, e)
none c _ first second is e = grind (arith, is, e)

pub returns-in_default-clause-other : goal.returns-in_default-clause-other
unfolding is_core
returns-in_default-clause-other c =
    let i = c.args.insn.now in
    false_from_ne_true (is_core i.op i.first i.second) (none c i.op i.first i.second refl)
