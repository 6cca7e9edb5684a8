use Rattle.watch_run.proofs.hits.next_touches.Goals.{row_touches-requires as goal}

pub row_touches-requires : goal
row_touches-requires c =
    let encoded = c.decode.ensures.whole c.in-Whole.insn c.in-Whole.len c.in-Whole.is in
    c.every_instruction_is_well_formed.ensures c.in-Whole.insn (c.has_big_code.result, _, encoded.0)
