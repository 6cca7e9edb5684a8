use Rattle.{std.proofs.Common.{arith}, insn_decode.proofs.{WholeNumbers.{fits_byte}, number.byte.Goals.{overflow_cast-result as goal}}}

pub overflow_cast-result : goal
overflow_cast-result c = omega (arith, fits_byte c.args.size c.in_ok-value.value c.requires c.in_ok-value.ensures.below)
