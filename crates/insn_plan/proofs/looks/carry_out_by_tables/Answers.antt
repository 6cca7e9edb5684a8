use Rattle.{std.proofs.Common.{rules}, insn_plan.proofs.looks.carry_out_by_tables.Goals.{returns as goal}}

pub returns : goal
returns g c = search rules
