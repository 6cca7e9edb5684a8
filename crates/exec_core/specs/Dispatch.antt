-- The operations of this crate, and what each of them does.
use Rattle.std.specs.Prelude.{◌≡◌, ℕ, Bool, true}
use Rattle.client_world.specs.World.{World}
use Rattle.cpu_alu.specs.{Sums.{add_of, adc_of, sub_of, sbb_of, inc_of, dec_of, neg_of}, Logic.{and_of, or_of, xor_of, not_of}}
use Rattle.cpu_alu.specs.{Shifts.{shl_of, shr_of, sar_of, rol_of, ror_of, rcl_of, rcr_of}, DoubleShifts.{shld_of, shrd_of}}
use Rattle.cpu_alu.specs.{Products.{mul_of}, Quotients.{div_of, idiv_of}, Decimal.{daa_of, das_of, aaa_of, aas_of}}
use Rattle.insn_forms.specs.{declared.insn.Insn.{Insn}, declared.insn.Op.{Op}, declared.insn.Operand.{Operand}, Kinds.{is_of_core}}
use Rattle.insn_forms.specs.Kinds.{operation}
use Rattle.insn_plan.specs.Act.{Act, done, unchanged}
use Rattle.exec_core.specs.{Arithmetic.{binary, compare, unary}, Bits.{setcc, bit_test, bit_change, bit_set, bit_reset, bit_complement}}
use Rattle.exec_core.specs.{Bits.{bit_scan, lowest_bit, highest_bit}, Decimal.{adjust, aad, aam}, FlagRows.{clc, stc, cmc, cld, std, lahf}}
use Rattle.exec_core.specs.{FlagRows.{sahf, wait}, Moves.{mov, movzx, movsx, xchg, lea, xlat, cbw, cwd}, Products.{multiply, imul, divide}}
use Rattle.exec_core.specs.{Shifts.{shift, shift_in}, Stacks.{push, pop, pusha, popa}, Strings.{movs, cmps, stos, lods, scas}}
use Rattle.insn_forms.specs.declared.insn.Op.TheVariants as ops

-- the instruction is one of this crate, by the table of operations
unfoldable pub is_core : Op → Operand → Operand → Bool
unfolding operation
is_core op first second = is_of_core (operation op).owner first second

abbrev pub IsCore : Insn → Type 0
IsCore i = is_core i.op i.first i.second ≡ true

-- what an operation of this crate does; its length in bytes matters for strings alone. The last line is that of none
unfoldable pub core_row : Op → World → Insn → ℕ → Act
core_row ops.Add w i len = binary add_of w i
core_row ops.Or w i len = binary or_of w i
core_row ops.Adc w i len = binary adc_of w i
core_row ops.Sbb w i len = binary sbb_of w i
core_row ops.And w i len = binary and_of w i
core_row ops.Sub w i len = binary sub_of w i
core_row ops.Xor w i len = binary xor_of w i
core_row ops.Cmp w i len = compare sub_of w i
core_row ops.Test w i len = compare and_of w i
core_row ops.Inc w i len = unary inc_of w i
core_row ops.Dec w i len = unary dec_of w i
core_row ops.Not w i len = unary not_of w i
core_row ops.Neg w i len = unary neg_of w i
core_row ops.Mul w i len = multiply mul_of w i
core_row ops.Imul w i len = imul w i
core_row ops.Div w i len = divide div_of w i
core_row ops.Idiv w i len = divide idiv_of w i
core_row ops.Daa w i len = adjust daa_of w
core_row ops.Das w i len = adjust das_of w
core_row ops.Aaa w i len = adjust aaa_of w
core_row ops.Aas w i len = adjust aas_of w
core_row ops.Aam w i len = aam w i
core_row ops.Aad w i len = aad w i
core_row ops.Rol w i len = shift rol_of w i
core_row ops.Ror w i len = shift ror_of w i
core_row ops.Rcl w i len = shift rcl_of w i
core_row ops.Rcr w i len = shift rcr_of w i
core_row ops.Shl w i len = shift shl_of w i
core_row ops.Shr w i len = shift shr_of w i
core_row ops.Sar w i len = shift sar_of w i
core_row ops.Shld w i len = shift_in shld_of w i
core_row ops.Shrd w i len = shift_in shrd_of w i
core_row ops.Bt w i len = bit_test w i
core_row ops.Bts w i len = bit_change bit_set w i
core_row ops.Btr w i len = bit_change bit_reset w i
core_row ops.Btc w i len = bit_change bit_complement w i
core_row ops.Bsf w i len = bit_scan lowest_bit w i
core_row ops.Bsr w i len = bit_scan highest_bit w i
core_row (ops.Setcc n) w i len = setcc w i n
core_row ops.Mov w i len = mov w i
core_row (ops.Movzx n) w i len = movzx w i n
core_row (ops.Movsx n) w i len = movsx w i n
core_row ops.Xchg w i len = xchg w i
core_row ops.Lea w i len = lea w i
core_row ops.Xlat w i len = xlat w i
core_row ops.Cbw w i len = cbw w i
core_row ops.Cwd w i len = cwd w i
core_row ops.Lahf w i len = lahf w
core_row ops.Sahf w i len = sahf w
core_row ops.Push w i len = push w i
core_row ops.Pop w i len = pop w i
core_row ops.Pusha w i len = pusha w i
core_row ops.Popa w i len = popa w i
core_row ops.Movs w i len = movs w i len
core_row ops.Cmps w i len = cmps w i len
core_row ops.Stos w i len = stos w i len
core_row ops.Lods w i len = lods w i len
core_row ops.Scas w i len = scas w i len
core_row ops.Clc w i len = clc w
core_row ops.Stc w i len = stc w
core_row ops.Cmc w i len = cmc w
core_row ops.Cld w i len = cld w
core_row ops.Std w i len = std w
core_row ops.Wait w i len = wait w
core_row _ w i len = done (unchanged w)
