use Rattle.{std.proofs.Common.{rules}, insn_plan.proofs.looks.QuickLook.put_back.Goals.{write_there-requires as goal}}

pub write_there-requires : goal
write_there-requires c = search rules
