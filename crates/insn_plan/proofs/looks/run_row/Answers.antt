use Rattle.{std.proofs.Common.{rules}, insn_plan.proofs.{WrittenState.{fault_reported}, looks.run_row.Goals.{returns-in-Ok as goal}}}

pub returns-in-Ok : goal
returns-in-Ok g c = search (rules, fault_reported)
