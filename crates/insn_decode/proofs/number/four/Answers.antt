use Rattle.{std.proofs.Common.{arith}, insn_decode.proofs.WholeNumbers.{too_few, four_gives}}
use Rattle.insn_decode.proofs.number.four.Goals as goal

pub returns-then-bytes-lt4-clause-gives : goal.returns-then-bytes-lt4-clause-gives
returns-then-bytes-lt4-clause-gives c = too_few 4 c.args.bytes.now (omega (arith, c.if-bytes-lt4.true))

pub returns-clause-gives : goal.returns-clause-gives
returns-clause-gives c =
    four_gives c.args.bytes.now c.from.result (omega (arith, c.if-bytes-lt4.false))
    (omega (arith, c.from.ensures, c.from_le_bytes-value.ensures))
