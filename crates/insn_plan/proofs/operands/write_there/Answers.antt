use Rattle.insn_plan.proofs.{WrittenState.{made}, operands.write_there.Goals.{returns as goal}}

pub returns : goal
returns c = made c.args.m.now c.write_run.new.self _ c.write_run.ensures.allowed c.write_run.ensures.written
