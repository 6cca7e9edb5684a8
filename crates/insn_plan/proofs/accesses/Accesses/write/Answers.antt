use Rattle.{std.proofs.Common.{rules}, insn_plan.proofs.accesses.Accesses.write.Goals.{returns-clause-noted as goal}}

pub returns-clause-noted : goal
returns-clause-noted c = search rules
