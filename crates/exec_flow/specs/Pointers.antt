-- Far pointers: an offset of the operand size, and after it a selector. One in memory is read in one access.
-- Source: 80386 Programmer's Reference Manual, ch. 2, "Pointer", and ch. 17, JMP, CALL and LES; that it is one access is own.
use Rattle.std.specs.Prelude.{ℕ, ◌+◌, ◌*◌, ◌/◌, ◌%◌, ◌^◌, nat_eq, if◌then◌else◌}
use Rattle.client_world.specs.{Registers.{low_half}, World.{World}}
use Rattle.insn_forms.specs.{declared.insn.Insn.{Insn}, declared.insn.Operand.{Operand}, declared.insn.Operand.TheVariants.{Mem, Far}}
use Rattle.insn_plan.specs.{Act.{Given, From, Input}, Registers.{offset_of}}

-- an operand in memory read as n bytes; another operand has none
unfoldable pub memory_bytes : World → Insn → ℕ → Operand → Input
memory_bytes w i n (Mem f) = From f.seg (offset_of w.regs i.addr32 f) n
memory_bytes w i n _ = Given 0

-- the numbers above an offset of the operand size count units of this
abbrev pub offset_range : Insn → ℕ
offset_range i = if nat_eq i.width 16 then 2 ^ 16 else 2 ^ 32

-- the bytes of a far pointer in memory
abbrev pub pointer_size : Insn → ℕ
pointer_size i = if nat_eq i.width 16 then 4 else 6

-- a far pointer as one number, the offset lowest: that of the instruction, or one in memory
unfoldable pub pointer : World → Insn → Operand → Input
pointer w i (Mem f) = memory_bytes w i (pointer_size i) (Mem f)
pointer w i (Far p) = Given (p.off + offset_range i * p.sel)
pointer w i _ = Given 0

-- its parts
abbrev pub pointer_offset : Insn → ℕ → ℕ
pointer_offset i p = p % offset_range i

abbrev pub pointer_selector : Insn → ℕ → ℕ
pointer_selector i p = low_half (p / offset_range i)
