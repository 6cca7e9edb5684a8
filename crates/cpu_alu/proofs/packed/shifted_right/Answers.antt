use Rattle.{std.proofs.Common.{◌/◌, ◌^◌, ◌∙◌, ap}, cpu_alu.specs.Packed.{from_below}}
use Rattle.cpu_alu.proofs.{Moves.{shr_bits}, packed.shifted_right.Goals.{returns as goal}}

pub returns : goal
returns g c = rw shr_bits (c.unpack_below.ensures ∙ ap (λ v. from_below (v / 2 ^ c.args.count)) c.pack_below.ensures.value)
