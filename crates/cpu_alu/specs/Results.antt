-- What the flags say of a result of w bits.
-- Source: 80386 Programmer's Reference Manual, ch. 2, "Flags Register", and appendix C, "Status Flag Summary".
use Rattle.std.specs.Prelude.{ℕ, ◌-◌, ◌%◌, ◌^◌, ℤ, pos, neg_ℤ, int_le, int_lt, Bool, ◌&&◌, nat_eq, nat_le, count_ones, if◌then◌else◌}
use Rattle.client_world.specs.declared.registers.Flags.{Flags}

-- a flag as a number
abbrev pub bit_of : Bool → ℕ
bit_of flag = if flag then 1 else 0

-- the lowest bit is set
abbrev pub low_bit : ℕ → Bool
low_bit r = nat_eq (r % 2) 1

-- the highest of w bits is set: the sign
abbrev pub top_bit : ℕ → ℕ → Bool
top_bit w r = nat_le (2 ^ (w - 1)) r

-- the low byte has an even number of ones
abbrev pub even_parity : ℕ → Bool
even_parity r = nat_eq (count_ones (r % 0x100) % 2) 0

-- SF, ZF and PF by the result; the others are kept
abbrev pub result_flags : ℕ → ℕ → Flags → Flags
result_flags w r f = record f {
  sf = top_bit w r;
  zf = nat_eq r 0;
  pf = even_parity r;
}

-- w bits can mean the signed number: from −2^(w−1) to 2^(w−1) − 1
abbrev pub in_signed_range : ℕ → ℤ → Bool
in_signed_range w z = int_le (neg_ℤ (pos (2 ^ (w - 1)))) z && int_lt z (pos (2 ^ (w - 1)))
