use Rattle.std.proofs.Common.{◌≡◌, true, false}
use Rattle.insn_decode.specs.Reading.{any_below}
use Rattle.insn_forms.specs.{OpcodeMap.{opcode_row}, Operands.{is_row}}
use Rattle.insn_decode.proofs.head.is_in_group.Given as goal

abbrev pub invariant-loop-reg : goal.invariant-loop-reg
invariant-loop-reg l = any_below l.reg (λ reg. is_row l.head.prefixes.lock (opcode_row l.head.map l.head.opcode reg) true) ≡ false
