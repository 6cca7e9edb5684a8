use Rattle.insn_plan.proofs.{WrittenState.{made}, operands.write_quickly.Goals.{returns-then-write_one_quickly-clause-made as goal}}

pub returns-then-write_one_quickly-clause-made : goal
returns-then-write_one_quickly-clause-made c =
    let done = c.write_one_quickly.ensures.made c.if-write_one_quickly.true in
    made c.args.m.now c.write_one_quickly.new.self _ done.0 done.1
