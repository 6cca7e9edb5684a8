-- What an operand reads, and how a number is put where an operand names. Both are total: an operand that can't be read is 0, and what is
-- put into an immediate is dropped. Source: 80386 Programmer's Reference Manual, ch. 17, "Operation".
use Rattle.std.specs.Prelude.{ℕ, Bool, [], ◌∷◌, ◌++◌}
use Rattle.client_world.specs.{declared.registers.Regs.{Regs}, declared.segments.SegReg.{SegReg}, Segments.{selector}}
use Rattle.guest_space.specs.Pending.{byte_count}
use Rattle.insn_forms.specs.{declared.insn.Operand.{Operand}, declared.insn.Operand.TheVariants.{Reg, Seg, Mem, Imm}}
use Rattle.insn_plan.specs.{Act.{Input, Given, From, Pending}, Registers.{register, with_register, offset_of}}

-- what an operand reads, in memory at that width
unfoldable pub source : Regs → Bool → ℕ → Operand → Input
source r addr32 width (Reg own number) = Given (register r own number)
source r addr32 width (Seg seg) = Given (selector r seg)
source r addr32 width (Mem f) = From f.seg (offset_of r addr32 f) (byte_count width)
source r addr32 width (Imm v) = Given v
source r addr32 width _ = Given 0

-- what an operand gives that isn't in memory
abbrev pub given : Regs → Operand → ℕ
given r (Reg own number) = register r own number
given r (Seg seg) = selector r seg
given r (Imm v) = v
given r _ = 0

-- one more write
abbrev pub and_write : SegReg → ℕ → ℕ → ℕ → Pending → Pending
and_write seg off width v p = record p { writes = p.writes ++ record { seg = seg; off = off; width = width; value = v } ∷ [] }

-- a number put where an operand names, in memory at that width; its address is that of the registers r
unfoldable pub put_operand : Regs → Bool → ℕ → Operand → ℕ → Pending → Pending
put_operand r addr32 width (Reg own number) v p = record p { regs = with_register p.regs own number v }
put_operand r addr32 width (Mem f) v p = and_write f.seg (offset_of r addr32 f) width v p
put_operand r addr32 width _ v p = p
