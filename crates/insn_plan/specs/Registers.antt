-- General registers by their numbers, and effective addresses.
-- Source: 80386 Programmer's Reference Manual, ch. 2, "General Registers" and "Effective-Address Computation", and ch. 17, "ModR/M and SIB
-- Bytes".
use Rattle.std.specs.Prelude.{ℕ, ◌+◌, ◌-◌, ◌*◌, ◌%◌, ◌^◌, nat_eq, nat_lt, Bool, if◌then◌else◌, Option, None, Some}
use Rattle.client_world.specs.{declared.registers.Regs.{Regs}, General.{general, with_general}, Registers.{low_byte, high_byte, low_half}}
use Rattle.client_world.specs.Registers.{with_low_byte, with_high_byte, with_low_half}
use Rattle.insn_forms.specs.declared.insn.MemForm.{MemForm}

-- the register of a number at a width of 8, 16 or 32 bits. At 8 bits 0 to 3 are AL CL DL BL, and 4 to 7 AH CH DH BH
unfoldable pub register : Regs → ℕ → ℕ → ℕ
register r width n =
    if nat_eq width 8 then (if nat_lt n 4 then low_byte (general r n) else high_byte (general r (n - 4))) else
    if nat_eq width 16 then low_half (general r n) else
    general r n

-- the registers with another number there, cut to the width; the other bits of the register are kept
unfoldable pub with_register : Regs → ℕ → ℕ → ℕ → Regs
with_register r width n v =
    if nat_eq width 8 then
    (if nat_lt n 4 then with_general r n (with_low_byte (general r n) (v % 0x100))
    else with_general r (n - 4) (with_high_byte (general r (n - 4)) (v % 0x100))) else
    if nat_eq width 16 then with_general r n (with_low_half (general r n) (v % 0x10000)) else
    with_general r n (v % 2 ^ 32)

-- a number at an address size of 16 or 32 bits
abbrev pub cut_address : Bool → ℕ → ℕ
cut_address addr32 a = if addr32 then a % 2 ^ 32 else a % 2 ^ 16

-- a register with another number of the address size in it: at 16 bits the upper half is kept
abbrev pub with_address : Bool → ℕ → ℕ → ℕ
with_address addr32 old v = if addr32 then v else with_low_half old v

-- what a register adds to an address, where there is one
abbrev pub address_part : Regs → Option ℕ → ℕ
address_part r None = 0
address_part r (Some n) = general r n

-- the offset of a place in memory: base + index · scale + displacement, at the address size
unfoldable pub offset_of : Regs → Bool → MemForm → ℕ
offset_of r addr32 f = cut_address addr32 (address_part r f.base + address_part r f.index * f.scale + f.disp)
