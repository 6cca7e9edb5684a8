-- Questions about descriptors: VERR, VERW, LAR, LSL, ARPL. In real mode they are invalid opcodes.
-- Source: 80386 Programmer's Reference Manual, ch. 17, each under its name; the mask of LAR, and that descriptors which aren't present
-- count as others do, are own.
use Rattle.std.specs.Prelude.{ℕ, ◌+◌, ◌-◌, ◌*◌, ◌/◌, Bool, true, false, None, Some, nat_lt, if◌then◌else◌}
use Rattle.client_world.specs.{declared.descriptors.Desc.{Desc}, declared.registers.Flags.{Flags}, Descriptor.{access_byte, flags_byte}}
use Rattle.client_world.specs.{Descriptor.{is_writable}, Registers.{low_half}, Selector.{Row, row_of_selector, privilege_of}, World.{World}}
use Rattle.insn_forms.specs.declared.insn.Insn.{Insn}
use Rattle.insn_plan.specs.{Act.{Act, ◌>>=◌, done, with_flags}, Operands.{source, put_operand}}
use Rattle.exec_flow.specs.Raising.{in_protected}

-- the flags with another ZF
abbrev pub with_zero : World → Bool → Flags
with_zero w zero_flag = record w.regs.flags { zf = zero_flag }

-- the questions of VERR and VERW; of a segment that isn't held both are false
abbrev pub is_readable : Row → Bool
is_readable None = false
is_readable (Some row) = true

abbrev pub is_writable_row : Row → Bool
is_writable_row None = false
is_writable_row (Some row) = is_writable row.0.kind

-- VERR and VERW: ZF is the answer. Every segment that is held may be read
unfoldable pub verify : (Row → Bool) → World → Insn → Act
verify test w i = in_protected w (do
  sel ← source w.regs i.addr32 16 i.first
  done (with_flags (with_zero w (test (row_of_selector w.descriptors (low_half sel)))) w))

-- the access byte in bits 15 to 8, and G, D/B, and AVL in bits 23 to 20
abbrev pub access_rights : Desc → ℕ
access_rights d = access_byte d * 0x100 + flags_byte d / 0x10 * 0x100000

-- what a descriptor says goes into the first operand, and ZF is set; where the selector isn't held ZF is cleared
abbrev pub descriptor_answer : (Desc → ℕ) → World → Insn → Row → Act
descriptor_answer number w i None = done (with_flags (with_zero w false) w)
descriptor_answer number w i (Some row) =
    done (put_operand w.regs i.addr32 i.width i.first (number row.0) (with_flags (with_zero w true) w))

-- LAR and LSL: the access rights, or the byte limit
unfoldable pub load_from_descriptor : (Desc → ℕ) → World → Insn → Act
load_from_descriptor number w i = in_protected w (do
  sel ← source w.regs i.addr32 16 i.second
  descriptor_answer number w i (row_of_selector w.descriptors (low_half sel)))

-- ARPL: where the privilege level in the first operand is below that in the second it becomes that one, and ZF is set; else ZF is cleared
unfoldable pub arpl : World → Insn → Act
arpl w i = in_protected w (do
  a ← source w.regs i.addr32 16 i.first
  b ← source w.regs i.addr32 16 i.second
  (if nat_lt (privilege_of a) (privilege_of b) then
      done (put_operand w.regs i.addr32 16 i.first (a - privilege_of a + privilege_of b) (with_flags (with_zero w true) w))
      else done (with_flags (with_zero w false) w)))
