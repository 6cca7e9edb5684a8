-- Instructions that only raise an exception. The client runs at privilege level 3, with I/O privilege level 0, and without a coprocessor.
-- Source: 80386 Programmer's Reference Manual, ch. 17, each under its name, and ch. 15, "Sensitive Instructions"; that SLDT, STR, SGDT,
-- SIDT and SMSW are invalid is own.
use Rattle.client_world.specs.declared.faults.TheConstants.{INVALID_OPCODE, COPROCESSOR_NOT_AVAILABLE, GENERAL_PROTECTION}
use Rattle.client_world.specs.{declared.registers.Mode.TheVariants.{Real, Protected}, Access.{fault_with}, World.{World}}
use Rattle.insn_plan.specs.Act.{Act, raise}

-- SLDT, STR, SGDT, SIDT, SMSW
unfoldable pub invalid_opcode : Act
invalid_opcode = raise (fault_with INVALID_OPCODE 0)

-- HLT, INS, OUTS, LGDT, LIDT, LMSW, CLTS, moves of control, debug and test registers
unfoldable pub privileged : Act
privileged = raise (fault_with GENERAL_PROTECTION 0)

-- the coprocessor's escape
unfoldable pub escape : Act
escape = raise (fault_with COPROCESSOR_NOT_AVAILABLE 0)

-- an instruction of protected mode; in real mode it is an invalid opcode
unfoldable pub in_protected : World → Act → Act
in_protected w act = elim w.mode [ Real ↦ invalid_opcode | Protected ↦ act ]

-- LLDT, LTR
unfoldable pub load_table : World → Act
load_table w = in_protected w privileged
