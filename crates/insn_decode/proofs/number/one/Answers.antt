use Rattle.{std.proofs.Common.{arith}, insn_decode.proofs.WholeNumbers.{too_few, one_gives}}
use Rattle.insn_decode.proofs.number.one.Goals as goal

pub returns-then-bytes-lt1-clause-gives : goal.returns-then-bytes-lt1-clause-gives
returns-then-bytes-lt1-clause-gives c = too_few 1 c.args.bytes.now (omega (arith, c.if-bytes-lt1.true))

pub returns-clause-gives : goal.returns-clause-gives
returns-clause-gives c = one_gives c.args.bytes.now c.from.result (omega (arith, c.if-bytes-lt1.false)) (omega (arith, c.from.ensures))
