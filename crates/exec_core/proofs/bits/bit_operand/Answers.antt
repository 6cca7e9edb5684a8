use Rattle.{std.proofs.Common.{rules}, exec_core.proofs.bits.bit_operand.Goals.{returns-in-Mem-Reg as goal}}

pub returns-in-Mem-Reg : goal
returns-in-Mem-Reg c = search rules
