use Rattle.{std.proofs.Common.{rules}, translation.proofs.returning.client_regs.Goals.{returns-else-is_reflection as goal}}

pub returns-else-is_reflection : goal
returns-else-is_reflection c = search rules
