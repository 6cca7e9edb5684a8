use Rattle.{std.proofs.Common.{◌+◌, ◌%◌, ◌∙◌, ap}, cpu_alu.specs.Packed.{from_above, turned}}
use Rattle.cpu_alu.proofs.{Rotates.{rcl_bits}, packed.rotated_left_through_carry.Goals.{returns as goal}}

pub returns : goal
returns g c =
    let count = c.args.count % (g.row.W + 1) in
    let turned_word = c.turn.ensures.value ∙ ap (λ v. turned (g.row.W + 1) v count) c.pack_above.ensures.value in
    rw (rcl_bits g.row.W c.args.count c.args.a c.args.carry c.requires.width c.pack_above.ensures.word)
    (c.unpack_above.ensures ∙ ap (from_above g.row.W) turned_word)
