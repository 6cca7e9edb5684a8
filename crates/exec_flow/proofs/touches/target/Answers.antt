use Rattle.{std.proofs.Common.{rules}, exec_flow.specs.Transfers.{target}, insn_plan.specs.Act.{value_of}}
use Rattle.exec_flow.proofs.touches.target.Goals.{returns-in-Imm-clause-value as goal}

pub returns-in-Imm-clause-value : goal
unfolding target value_of
returns-in-Imm-clause-value c = search rules
