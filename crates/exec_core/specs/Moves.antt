-- Moves: MOV, MOVZX, MOVSX, XCHG, LEA, XLAT, CBW and CWDE, CWD and CDQ.
-- Source: 80386 Programmer's Reference Manual, ch. 17, each under its name.
use Rattle.std.specs.Prelude.{ℕ, ◌+◌, ◌-◌, ◌^◌, nat_eq, nat_lt, if◌then◌else◌}
use Rattle.client_world.specs.{Registers.{low_byte}, World.{World}}
use Rattle.cpu_values.specs.Word.{cut}
use Rattle.insn_forms.specs.{declared.insn.Insn.{Insn}, declared.insn.Operand.{Operand}, declared.insn.Operand.TheVariants.{Mem}}
use Rattle.insn_plan.specs.{Act.{Act, ◌>>=◌, From, done, unchanged, with_regs}, Operands.{source, put_operand}, Registers.{register}}
use Rattle.insn_plan.specs.Registers.{with_register, cut_address, offset_of}

-- MOV: the destination becomes the source
unfoldable pub mov : World → Insn → Act
mov w i = do
  v ← source w.regs i.addr32 i.width i.second
  done (put_operand w.regs i.addr32 i.width i.first v (unchanged w))

-- MOVZX: a source of fewer bits, with zeros above it
unfoldable pub movzx : World → Insn → ℕ → Act
movzx w i from = do
  v ← source w.regs i.addr32 from i.second
  done (put_operand w.regs i.addr32 i.width i.first (cut from v) (unchanged w))

-- a number of some bits with its sign in the bits above, up to a width
abbrev pub sign_extended : ℕ → ℕ → ℕ → ℕ
sign_extended from width v = if nat_lt v (2 ^ (from - 1)) then v else v + 2 ^ width - 2 ^ from

-- MOVSX: a source of fewer bits, with its sign above it
unfoldable pub movsx : World → Insn → ℕ → Act
movsx w i from = do
  v ← source w.regs i.addr32 from i.second
  done (put_operand w.regs i.addr32 i.width i.first (sign_extended from i.width (cut from v)) (unchanged w))

-- XCHG: each becomes the other; both are read before either is written
unfoldable pub xchg : World → Insn → Act
xchg w i = do
  a ← source w.regs i.addr32 i.width i.first
  b ← source w.regs i.addr32 i.width i.second
  done (put_operand w.regs i.addr32 i.width i.second a (put_operand w.regs i.addr32 i.width i.first b (unchanged w)))

-- the offset of an operand in memory; 0 of another
abbrev pub operand_offset : World → Insn → Operand → ℕ
operand_offset w i (Mem f) = offset_of w.regs i.addr32 f
operand_offset w i _ = 0

-- LEA: the destination becomes the offset of the source, of which nothing is read
unfoldable pub lea : World → Insn → Act
lea w i = done (put_operand w.regs i.addr32 i.width i.first (cut i.width (operand_offset w i i.second)) (unchanged w))

-- XLAT: AL becomes the byte at (E)BX plus AL, by address size
unfoldable pub xlat : World → Insn → Act
xlat w i = do
  v ← From i.seg (cut_address i.addr32 (w.regs.ebx + low_byte w.regs.eax)) 1
  done (with_regs (with_register w.regs 8 0 v) (unchanged w))

-- half of a width
abbrev pub half_width : ℕ → ℕ
half_width width = if nat_eq width 16 then 8 else 16

-- CBW and CWDE: the accumulator becomes its low half with the sign above it
unfoldable pub cbw : World → Insn → Act
cbw w i = done (with_regs
    (with_register w.regs i.width 0 (sign_extended (half_width i.width) i.width (register w.regs (half_width i.width) 0)))
    (unchanged w))

-- the sign of a number as all bits of a width
abbrev pub sign_bits : ℕ → ℕ → ℕ
sign_bits width v = if nat_lt v (2 ^ (width - 1)) then 0 else 2 ^ width - 1

-- CWD and CDQ: (E)DX becomes the sign of (E)AX in each bit
unfoldable pub cwd : World → Insn → Act
cwd w i = done (with_regs (with_register w.regs i.width 2 (sign_bits i.width (register w.regs i.width 0))) (unchanged w))
