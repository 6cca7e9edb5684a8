use Rattle.insn_plan.proofs.{WrittenState.{pushes_settled}, stack.settle_quickly.Goals.{returns-then-made-clause-made as goal}}

pub returns-then-made-clause-made : goal
returns-then-made-clause-made c = λ yes. (
    let made = c.write_quickly-made.ensures.made yes in
    pushes_settled c.args.m.now c.write_quickly-made.new.self c.set_general.new.self c.args.writes.now c.args.esp made.0 made.1
    c.set_general.ensures)
