use Rattle.{std.proofs.Common.{◌∙◌, ap}, cpu_alu.specs.Packed.{from_below, sign_shifted}}
use Rattle.cpu_alu.proofs.{Moves.{sar_bits}, packed.shifted_signed.Goals.{returns as goal}}

pub returns : goal
returns g c =
    let word = c.pack_below.ensures.value in
    let moved = c.shift_signed.ensures.value ∙ ap (λ v. sign_shifted g.row.W v c.args.count) word in
    rw (sar_bits g.row.W c.args.count c.args.a c.args.carry c.requires.width c.pack_below.ensures.word)
    (c.unpack_below.ensures ∙ ap from_below moved)
