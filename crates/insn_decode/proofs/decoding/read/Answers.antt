use Rattle.insn_decode.proofs.{Answering.{shorter}, decoding.read.Goals.{overflow_sub-result as goal}}

pub overflow_sub-result : goal
overflow_sub-result c = shorter c.args.big c.args.bytes.now _ c.in-Ok.rest.now c.in-Ok.ensures
