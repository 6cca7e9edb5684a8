use Rattle.{std.proofs.Common.{rules}, insn_plan.proofs.registers.cut_address.Goals.{returns-else-addr32 as goal}}

pub returns-else-addr32 : goal
returns-else-addr32 c = search rules
