-- The flags image, and the parts of a general register.
-- Source: 80386 Programmer's Reference Manual, ch. 2, "Registers" and "EFLAGS".
use Rattle.std.specs.Prelude.{ℕ, ◌+◌, ◌*◌, ◌/◌, ◌%◌, Bool, nat_eq, cond}
use Rattle.client_world.specs.{declared.registers.Flags.{Flags}, declared.registers.TheConstants.{FIXED_BIT, CARRY_BIT, PARITY_BIT}}
use Rattle.client_world.specs.declared.registers.TheConstants.{ADJUST_BIT, ZERO_BIT, SIGN_BIT, INTERRUPT_BIT, DIRECTION_BIT, OVERFLOW_BIT}

-- the 16-bit image of the flags, with the given interrupt flag
abbrev pub flags_image : Flags → Bool → ℕ
flags_image f interrupt =
    FIXED_BIT
    + cond f.cf CARRY_BIT 0
    + cond f.pf PARITY_BIT 0
    + cond f.af ADJUST_BIT 0
    + cond f.zf ZERO_BIT 0
    + cond f.sf SIGN_BIT 0
    + cond interrupt INTERRUPT_BIT 0
    + cond f.df DIRECTION_BIT 0
    + cond f.of OVERFLOW_BIT 0

-- whether the bit of that value, a power of two, is set
abbrev pub has_bit : ℕ → ℕ → Bool
has_bit x bit = nat_eq (x / bit % 2) 1

-- the flags of an image
abbrev pub flags_of_image : ℕ → Flags
flags_of_image x = record {
  cf = has_bit x CARRY_BIT;
  pf = has_bit x PARITY_BIT;
  af = has_bit x ADJUST_BIT;
  zf = has_bit x ZERO_BIT;
  sf = has_bit x SIGN_BIT;
  df = has_bit x DIRECTION_BIT;
  of = has_bit x OVERFLOW_BIT;
}

-- the parts of a doubleword: its low byte (AL of EAX), its second byte (AH) and its low half (AX)
abbrev pub low_byte : ℕ → ℕ
low_byte x = x % 0x100

abbrev pub high_byte : ℕ → ℕ
high_byte x = x / 0x100 % 0x100

abbrev pub low_half : ℕ → ℕ
low_half x = x % 0x10000

-- a doubleword with another low byte (AL of EAX)
abbrev pub with_low_byte : ℕ → ℕ → ℕ
with_low_byte x v = x / 0x100 * 0x100 + v

-- a doubleword with another second byte (AH of EAX)
abbrev pub with_high_byte : ℕ → ℕ → ℕ
with_high_byte x v = x / 0x10000 * 0x10000 + v * 0x100 + x % 0x100

-- a doubleword with another low half (AX of EAX)
abbrev pub with_low_half : ℕ → ℕ → ℕ
with_low_half x v = x / 0x10000 * 0x10000 + v
