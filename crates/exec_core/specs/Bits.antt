-- Bits of an operand: BT, BTS, BTR, BTC, BSF, BSR, and SETcc.
-- Source: 80386 Programmer's Reference Manual, ch. 17, each under its name; that BTS, BTR and BTC write a bit back that
-- doesn't change is own.
use Rattle.std.specs.Prelude.{ℕ, zero, suc, ◌+◌, ◌-◌, ◌*◌, ◌/◌, ◌%◌, ◌^◌, Bool, true, false, cond, nat_eq, nat_lt, if◌then◌else◌}
use Rattle.client_world.specs.{declared.registers.Flags.{Flags}, World.{World}}
use Rattle.cpu_values.specs.Word.{cut}
use Rattle.insn_forms.specs.{declared.insn.Insn.{Insn}, declared.insn.MemForm.{MemForm}, declared.insn.Operand.{Operand}}
use Rattle.insn_forms.specs.declared.insn.Operand.TheVariants.{Reg, Mem}
use Rattle.insn_plan.specs.{Act.{Act, ◌>>=◌, done, unchanged, with_flags}, Conditions.{condition}, Operands.{source, put_operand}}

-- SETcc: the operand, a byte, becomes 1 where the condition holds, else 0
unfoldable pub setcc : World → Insn → ℕ → Act
setcc w i n = done (put_operand w.regs i.addr32 8 i.first (cond (condition n w.regs.flags) 1 0) (unchanged w))

-- how far a bit's offset moves an operand in memory, in bytes: (width / 8) · floor (offset / width) of the signed offset, modulo 2^32
abbrev pub bit_distance : ℕ → ℕ → ℕ
bit_distance width offset =
    width / 8 * (offset / width) + (if nat_lt offset (2 ^ (width - 1)) then 0 else 2 ^ 32 - 2 ^ width / 8)

-- the operand in which the bit at an offset is: memory moves with an offset in a register
abbrev pub moved_place : Insn → MemForm → ℕ → Operand → Operand
moved_place i f offset (Reg own number) = Mem (record f { disp = (f.disp + bit_distance i.width offset) % 2 ^ 32 })
moved_place i f offset _ = Mem f

abbrev pub bit_operand : Insn → ℕ → Operand → Operand
bit_operand i offset (Mem f) = moved_place i f offset i.second
bit_operand i offset other = other

-- the bit of a number
abbrev pub bit_at : ℕ → ℕ → Bool
bit_at v n = nat_eq (v / 2 ^ n % 2) 1

-- CF becomes the bit
abbrev pub with_bit_in_carry : World → Bool → Flags
with_bit_in_carry w bit = record w.regs.flags { cf = bit }

-- BT: the bit of the first operand at the offset in the second goes into CF
unfoldable pub bit_test : World → Insn → Act
bit_test w i = do
  offset ← source w.regs i.addr32 i.width i.second
  a ← source w.regs i.addr32 i.width (bit_operand i (cut i.width offset) i.first)
  done (with_flags (with_bit_in_carry w (bit_at a (cut i.width offset % i.width))) w)

-- a number with a bit set, cleared, or the other way
abbrev pub bit_set : ℕ → ℕ → ℕ
bit_set v n = if bit_at v n then v else v + 2 ^ n

abbrev pub bit_reset : ℕ → ℕ → ℕ
bit_reset v n = if bit_at v n then v - 2 ^ n else v

abbrev pub bit_complement : ℕ → ℕ → ℕ
bit_complement v n = if bit_at v n then v - 2 ^ n else v + 2 ^ n

-- BTS, BTR, BTC: the same, and the operand gets the bit changed
unfoldable pub bit_change : (ℕ → ℕ → ℕ) → World → Insn → Act
bit_change change w i = do
  offset ← source w.regs i.addr32 i.width i.second
  a ← source w.regs i.addr32 i.width (bit_operand i (cut i.width offset) i.first)
  done (put_operand w.regs i.addr32 i.width (bit_operand i (cut i.width offset) i.first) (change a (cut i.width offset % i.width))
      (with_flags (with_bit_in_carry w (bit_at a (cut i.width offset % i.width))) w))

-- the place of the lowest bit that is set, among n bits
unfoldable pub lowest_bit : ℕ → ℕ → ℕ
lowest_bit v zero = 0
lowest_bit v (suc n) = if nat_eq (v % 2) 1 then 0 else 1 + lowest_bit (v / 2) n

-- the place of the highest bit that is set, among n bits
unfoldable pub highest_bit : ℕ → ℕ → ℕ
highest_bit v zero = 0
highest_bit v (suc n) = if nat_lt v 2 then 0 else 1 + highest_bit (v / 2) n

-- BSF and BSR: the place of a bit of the second operand; where that is 0, ZF alone is set
unfoldable pub bit_scan : (ℕ → ℕ → ℕ) → World → Insn → Act
bit_scan place w i = do
  v ← source w.regs i.addr32 i.width i.second
  (if nat_eq (cut i.width v) 0 then done (with_flags (record w.regs.flags { zf = true }) w) else
      done
      (put_operand w.regs i.addr32 i.width i.first (place (cut i.width v) i.width) (with_flags (record w.regs.flags { zf = false }) w)))
