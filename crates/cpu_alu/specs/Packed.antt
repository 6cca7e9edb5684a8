-- A word and the carry flag as one number of w + 1 bits, which the bodies of the shifts move in one step.
-- Source: own. No public contract cites these words.
use Rattle.std.specs.Prelude.{ℕ, ◌+◌, ◌-◌, ◌*◌, ◌/◌, ◌%◌, ◌^◌, Bool, nat_le, if◌then◌else◌}
use Rattle.cpu_values.specs.Word.{cut}
use Rattle.cpu_alu.specs.{Results.{bit_of, low_bit}, Shifts.{Moved}}

-- the carry flag below the word
abbrev pub carry_below : ℕ → Bool → ℕ
carry_below a carry = 2 * a + bit_of carry

-- the word and the carry flag below it
abbrev pub from_below : ℕ → Moved
from_below v = (v / 2, low_bit v)

-- the carry flag above the word
abbrev pub carry_above : ℕ → ℕ → Bool → ℕ
carry_above w a carry = bit_of carry * 2 ^ w + a

-- the word and the carry flag above it
abbrev pub from_above : ℕ → ℕ → Moved
from_above w v = (cut w v, low_bit (v / 2 ^ w))

-- a number of w + 1 bits shifted n bits to the right, with its sign coming in: a negative one's complement is shifted
abbrev pub sign_shifted : ℕ → ℕ → ℕ → ℕ
sign_shifted w v n = if nat_le (2 ^ w) v then 2 * 2 ^ w - 1 - (2 * 2 ^ w - 1 - v) / 2 ^ n else v / 2 ^ n

-- a number of w bits turned n bits to the left, n at most w
unfoldable pub turned : ℕ → ℕ → ℕ → ℕ
turned w v n = v % 2 ^ (w - n) * 2 ^ n + v / 2 ^ (w - n)
