use Rattle.{std.proofs.Common.{arith}, insn_decode.proofs.{WholeNumbers.{fits_word}, address.addressing.Goals.{overflow_cast-disp as goal}}}

pub overflow_cast-disp : goal
overflow_cast-disp c =
    omega (arith, fits_word c.size_of_disp.result c.in_ok-disp.disp c.size_of_disp.ensures.below c.in_ok-disp.ensures.below)
