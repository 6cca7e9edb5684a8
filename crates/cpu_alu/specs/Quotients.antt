-- Quotients of a double word: DIV and IDIV. All flags are kept.
-- Source: 80386 Programmer's Reference Manual, ch. 17, DIV and IDIV. Own: the flags, which the manual leaves undefined, are kept.
use Rattle.std.specs.Prelude.{ℕ, ◌+◌, ◌*◌, ◌/◌, ◌%◌, ◌^◌, ℤ, pos, ◌+ℤ◌, ◌*ℤ◌, int_div, int_rem, nat_eq, nat_lt, if◌then◌else◌, Option, Some}
use Rattle.std.specs.Prelude.{None}
use Rattle.cpu_values.specs.Word.{signed_value}
use Rattle.cpu_alu.specs.{Results.{in_signed_range}, Products.{signed_bits}}

-- the dividend's two halves as one number
abbrev pub double_word : ℕ → ℕ → ℕ → ℕ
double_word w low high = high * 2 ^ w + low

-- quotient and remainder, where the quotient takes at most w bits
abbrev pub quotient_of : ℕ → ℕ → ℕ → Option (ℕ × ℕ)
quotient_of w dividend by = if nat_lt (dividend / by) (2 ^ w) then Some (dividend / by, dividend % by) else None

-- DIV: none for a divisor of 0, or a quotient of more than w bits
unfoldable pub div_of : ℕ → ℕ → ℕ → ℕ → Option (ℕ × ℕ)
div_of w low high by = if nat_eq by 0 then None else quotient_of w (double_word w low high) by

-- the dividend's two halves as one signed number: the high half has the sign
abbrev pub signed_double_word : ℕ → ℕ → ℕ → ℤ
signed_double_word w low high = signed_value w high *ℤ pos (2 ^ w) +ℤ pos low

-- quotient, truncated toward zero, and remainder, which has the dividend's sign, where w bits can mean the quotient
abbrev pub signed_quotient_of : ℕ → ℤ → ℤ → Option (ℕ × ℕ)
signed_quotient_of w dividend by =
    if in_signed_range w (int_div dividend by) then
    Some (signed_bits w (int_div dividend by), signed_bits w (int_rem dividend by)) else
    None

-- IDIV: none for a divisor of 0, or a quotient that w bits can't mean
unfoldable pub idiv_of : ℕ → ℕ → ℕ → ℕ → Option (ℕ × ℕ)
idiv_of w low high by =
    if nat_eq by 0 then None else signed_quotient_of w (signed_double_word w low high) (signed_value w by)
