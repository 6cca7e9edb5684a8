use Rattle.{std.proofs.Common.{ℕ, ◌+◌, ◌*◌, ◌^◌, ◌<◌, ◌≤◌, arith}, insn_decode.proofs.WholeNumbers.{grows}}
use Rattle.insn_decode.proofs.number.+many.Goals as goal

grown : (t : ℕ) (c : goal.After-from t)
    → (c.from.result + 256 * c.in_ok-others-in-len1-up.others < 256 ^ c.args.size) × (256 ^ c.args.size ≤ 2 ^ 48)
grown t c =
    let first : c.from.result < 256 = omega (arith, c.from.ensures, c.type_inv.bytes 0) in
    grows c.args.size c.in_ok-others-in-len1-up.others c.from.result c.if-size-eq0.false c.requires first
    c.in_ok-others-in-len1-up.ensures.below

pub overflow_mul-result : goal.overflow_mul-result
overflow_mul-result t c = omega (arith, grown t c)

pub overflow_add-result : goal.overflow_add-result
overflow_add-result t c = omega (arith, grown t c)

pub returns-in_ok-others-in-len1-up-clause-below : goal.returns-in_ok-others-in-len1-up-clause-below
returns-in_ok-others-in-len1-up-clause-below t c = (grown t c).0
