use Rattle.{std.proofs.Common.{◌<◌, ◌-◌, ◌%◌, ◌^◌, ◌∙◌, ap, refl, arith}, cpu_alu.specs.{Shifts.{bits_moved}, Packed.{turned}}}
use Rattle.cpu_alu.proofs.Rotates.{ror_bits, IsWidth-pos}
use Rattle.cpu_alu.proofs.packed.rotated_right.Goals as goal

pub returns-then-count-eq0 : goal.returns-then-count-eq0
unfolding bits_moved
returns-then-count-eq0 g c = rw c.if-count-eq0.true refl

pub returns : goal.returns
returns g c =
    let small : c.args.a < 2 ^ g.row.W = omega arith in
    let word = c.from.ensures ∙ c.get.ensures.value in
    let turn = c.turn.ensures.value ∙ ap (λ v. turned g.row.W v (g.row.W - c.args.count % g.row.W)) word in
    let bits = ror_bits g.row.W c.args.count c.args.a c.args.carry (IsWidth-pos g.row.W c.requires.width) small (omega arith) in
    rw (bits, c.is_negative.ensures, c.exact-r.ensures, turn) refl
