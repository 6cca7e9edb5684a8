use Rattle.insn_plan.proofs.{WrittenState.{pushes_settled}, stack.settle_pushes.Goals.{returns as goal}}

pub returns : goal
returns c =
    pushes_settled c.args.m.now c.write_all.new.self c.set_general.new.self c.args.writes.now c.args.esp c.in_ok-write_all.ensures.done.0
    c.in_ok-write_all.ensures.done.1
    c.set_general.ensures
