use Rattle.{std.proofs.{Common.{◌*◌, ◌^◌, ◌∙◌, ap, arith}, lemmas.Nat.{shl_whole}}, cpu_alu.specs.Packed.{from_above}}
use Rattle.cpu_alu.proofs.{Moves.{shl_bits, double_width}, packed.shifted_left.Goals.{returns as goal}}

pub returns : goal
returns g c =
    let most = double_width g.row.W c.requires.width in
    let exact = shl_whole c.pack_above.result 33 c.args.count 64 (omega arith) (omega arith) in
    rw (shl_bits g.row.W c.args.count c.args.a c.args.carry c.requires.width c.pack_above.ensures.word)
    (c.unpack_above.ensures ∙ ap (from_above g.row.W) (exact ∙ ap (λ v. v * 2 ^ c.args.count) c.pack_above.ensures.value))
