-- Double shifts: a word takes in bits of a second one.
-- Source: 80386 Programmer's Reference Manual, ch. 17, SHLD and SHRD. Own: a count of at least the width, for which the manual
-- leaves all undefined, changes nothing, and OF and AF are kept.
use Rattle.std.specs.Prelude.{ℕ, ◌+◌, ◌-◌, ◌*◌, ◌/◌, ◌^◌, Bool, nat_eq, nat_le, ◌||◌, if◌then◌else◌}
use Rattle.client_world.specs.declared.registers.Flags.{Flags}
use Rattle.cpu_values.specs.Word.{cut}
use Rattle.cpu_alu.specs.{Results.{low_bit, result_flags}, Shifts.{shift_count}}

-- a shift by n to the word r, the last bit out being the carry; n of 0 or at least the width keeps a and all flags
abbrev pub double_shift : ℕ → ℕ → ℕ → ℕ → Bool → Flags → ℕ × Flags
double_shift w a n r carry f =
    if nat_eq n 0 || nat_le w n then (a, f) else (r, record (result_flags w r f) { cf = carry })

-- a moved to the left by n, the top bits of b coming in
abbrev pub double_left : ℕ → ℕ → ℕ → ℕ → ℕ
double_left w a b n = cut w (a * 2 ^ n + b / 2 ^ (w - n))

-- a moved to the right by n, the low bits of b coming in
abbrev pub double_right : ℕ → ℕ → ℕ → ℕ → ℕ
double_right w a b n = cut w (a / 2 ^ n + b * 2 ^ (w - n))

-- SHLD
unfoldable pub shld_of : ℕ → ℕ → ℕ → ℕ → Flags → ℕ × Flags
shld_of w a b n f =
    double_shift w a (shift_count n) (double_left w a b (shift_count n)) (low_bit (a / 2 ^ (w - shift_count n))) f

-- SHRD
unfoldable pub shrd_of : ℕ → ℕ → ℕ → ℕ → Flags → ℕ × Flags
shrd_of w a b n f =
    double_shift w a (shift_count n) (double_right w a b (shift_count n)) (low_bit (a / 2 ^ (shift_count n - 1))) f
