use Rattle.{std.proofs.Common.{arith}, insn_decode.proofs.WholeNumbers.{too_few, two_gives}}
use Rattle.insn_decode.proofs.number.two.Goals as goal

pub returns-then-bytes-lt2-clause-gives : goal.returns-then-bytes-lt2-clause-gives
returns-then-bytes-lt2-clause-gives c = too_few 2 c.args.bytes.now (omega (arith, c.if-bytes-lt2.true))

pub returns-clause-gives : goal.returns-clause-gives
returns-clause-gives c =
    two_gives c.args.bytes.now c.from.result (omega (arith, c.if-bytes-lt2.false))
    (omega (arith, c.from.ensures, c.from_le_bytes-value.ensures))
