use Rattle.cpu_step.proofs.steps.step_raised.Goals.{execute-requires-clause-well_formed as goal}

pub execute-requires-clause-well_formed : goal
execute-requires-clause-well_formed c =
    let encoded = c.decode.ensures.whole c.in-Whole.insn c.in-Whole.len c.in-Whole.is in
    c.every_instruction_is_well_formed.ensures c.in-Whole.insn (c.has_big_code.result, _, encoded.0)
