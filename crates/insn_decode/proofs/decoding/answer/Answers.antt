use Rattle.std.proofs.Common.{arith}
use Rattle.insn_decode.proofs.{Answering.{bytes_by_place}, decoding.answer.Goals.{returns-clause-bytes as goal}}

pub returns-clause-bytes : goal
returns-clause-bytes c = bytes_by_place c.args.bytes.now (λ i. omega (arith, c.type_inv.bytes i))
