-- Sums and differences: ADD, ADC, SUB, SBB (and CMP), INC, DEC, NEG.
-- Source: 80386 Programmer's Reference Manual, ch. 17, each under its name.
use Rattle.std.specs.Prelude.{ℕ, ◌+◌, ◌-◌, ◌%◌, ◌^◌, pos, ◌+ℤ◌, ◌-ℤ◌, Bool, not, nat_le, nat_lt}
use Rattle.client_world.specs.declared.registers.Flags.{Flags}
use Rattle.cpu_values.specs.Word.{cut, signed_value}
use Rattle.cpu_alu.specs.Results.{bit_of, result_flags, in_signed_range}

-- a + b + carry, modulo 2^w
abbrev pub word_sum : ℕ → ℕ → ℕ → ℕ → ℕ
word_sum w a b carry = cut w (a + b + carry)

-- w bits can't mean the signed sum
abbrev pub sum_overflows : ℕ → ℕ → ℕ → ℕ → Bool
sum_overflows w a b carry = not (in_signed_range w (signed_value w a +ℤ signed_value w b +ℤ pos carry))

-- CF: the sum takes more than w bits. AF: that of the low four bits takes more than four. OF: the signed sum is out of range.
abbrev pub sum_flags : ℕ → ℕ → ℕ → ℕ → Flags → Flags
sum_flags w a b carry f = record (result_flags w (word_sum w a b carry) f) {
  cf = nat_le (2 ^ w) (a + b + carry);
  af = nat_le 0x10 (a % 0x10 + b % 0x10 + carry);
  of = sum_overflows w a b carry;
}

-- a + b + carry
abbrev pub sum_with_flags : ℕ → ℕ → ℕ → ℕ → Flags → ℕ × Flags
sum_with_flags w a b carry f = (word_sum w a b carry, sum_flags w a b carry f)

-- a − b − borrow, modulo 2^w
abbrev pub word_difference : ℕ → ℕ → ℕ → ℕ → ℕ
word_difference w a b borrow = cut w (a + 2 ^ w - b - borrow)

-- w bits can't mean the signed difference
abbrev pub difference_overflows : ℕ → ℕ → ℕ → ℕ → Bool
difference_overflows w a b borrow = not (in_signed_range w (signed_value w a -ℤ signed_value w b -ℤ pos borrow))

-- CF: what is taken off is more than a. AF: so it is for the low four bits. OF: the signed difference is out of range.
abbrev pub difference_flags : ℕ → ℕ → ℕ → ℕ → Flags → Flags
difference_flags w a b borrow f = record (result_flags w (word_difference w a b borrow) f) {
  cf = nat_lt a (b + borrow);
  af = nat_lt (a % 0x10) (b % 0x10 + borrow);
  of = difference_overflows w a b borrow;
}

-- a − b − borrow
abbrev pub difference_with_flags : ℕ → ℕ → ℕ → ℕ → Flags → ℕ × Flags
difference_with_flags w a b borrow f = (word_difference w a b borrow, difference_flags w a b borrow f)

-- ADD
unfoldable pub add_of : ℕ → ℕ → ℕ → Flags → ℕ × Flags
add_of w a b f = sum_with_flags w a b 0 f

-- ADC: CF is added too
unfoldable pub adc_of : ℕ → ℕ → ℕ → Flags → ℕ × Flags
adc_of w a b f = sum_with_flags w a b (bit_of f.cf) f

-- SUB; CMP sets the same flags
unfoldable pub sub_of : ℕ → ℕ → ℕ → Flags → ℕ × Flags
sub_of w a b f = difference_with_flags w a b 0 f

-- SBB: CF is taken off too
unfoldable pub sbb_of : ℕ → ℕ → ℕ → Flags → ℕ × Flags
sbb_of w a b f = difference_with_flags w a b (bit_of f.cf) f

-- INC: CF is kept
unfoldable pub inc_of : ℕ → ℕ → Flags → ℕ × Flags
inc_of w a f = (word_sum w a 1 0, record (sum_flags w a 1 0 f) { cf = f.cf })

-- DEC: CF is kept
unfoldable pub dec_of : ℕ → ℕ → Flags → ℕ × Flags
dec_of w a f = (word_difference w a 1 0, record (difference_flags w a 1 0 f) { cf = f.cf })

-- NEG: what is left of 0
unfoldable pub neg_of : ℕ → ℕ → Flags → ℕ × Flags
neg_of w a f = difference_with_flags w 0 a 0 f
