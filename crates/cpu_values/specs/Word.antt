-- Numbers at a width of 8, 16 or 32 bits.
-- Source: 80386 Programmer's Reference Manual, ch. 2, "Data Types".
use Rattle.std.specs.Prelude.{◌≡◌, ℕ, ◌-◌, ◌%◌, ◌^◌, ◌⊎◌, ℤ, pos, ◌-ℤ◌, if◌then◌else◌, nat_lt}

-- the widths of an operand
abbrev pub IsWidth : ℕ → Type 0
IsWidth w = (w ≡ 8) ⊎ ((w ≡ 16) ⊎ (w ≡ 32))

-- a number cut to w bits
abbrev pub cut : ℕ → ℕ → ℕ
cut w n = n % 2 ^ w

-- the number that w bits mean in two's complement: 2^w less where the top bit is set
abbrev pub signed_value : ℕ → ℕ → ℤ
signed_value w n = if nat_lt n (2 ^ (w - 1)) then pos n else pos n -ℤ pos (2 ^ w)
