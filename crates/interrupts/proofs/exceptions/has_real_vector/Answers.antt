use Rattle.{std.proofs.Common.{rules}, interrupts.proofs.exceptions.has_real_vector.Goals.{returns-else-number-eq-INVALID_OPCODE as goal}}

pub returns-else-number-eq-INVALID_OPCODE : goal
returns-else-number-eq-INVALID_OPCODE c = search rules
