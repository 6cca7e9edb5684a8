-- Shifts and rotates: single bits moved, one after another. The count is taken modulo 32.
-- Source: 80386 Programmer's Reference Manual, ch. 17, "SAL/SAR/SHL/SHR" and "RCL/RCR/ROL/ROR". Own: flags that the manual
-- leaves undefined (OF of counts other than 1, AF of a shift) are kept, and CF of a shift by at least the width.
use Rattle.std.specs.Prelude.{ℕ, zero, suc, ◌+◌, ◌-◌, ◌*◌, ◌/◌, ◌%◌, ◌^◌, Bool, false, not, nat_eq, if◌then◌else◌}
use Rattle.client_world.specs.declared.registers.Flags.{Flags}
use Rattle.cpu_values.specs.Word.{cut}
use Rattle.cpu_alu.specs.Results.{bit_of, low_bit, top_bit, result_flags}

-- a word and the carry flag
abbrev pub Moved : Type 0
Moved = ℕ × Bool

-- one bit to the left: the top bit goes out into the carry flag, and a bit comes in at the bottom
abbrev pub bit_left : ℕ → ℕ → Bool → Moved
bit_left w v incoming = (cut w (2 * v) + bit_of incoming, top_bit w v)

-- one bit to the right: the low bit goes out into the carry flag, and a bit comes in at the top
abbrev pub bit_right : ℕ → ℕ → Bool → Moved
bit_right w v incoming = (v / 2 + (if incoming then 2 ^ (w - 1) else 0), low_bit v)

-- SHL by one bit: a 0 comes in
abbrev pub shl_bit : ℕ → Moved → Moved
shl_bit w s = bit_left w s.0 false

-- SHR by one bit: a 0 comes in
abbrev pub shr_bit : ℕ → Moved → Moved
shr_bit w s = bit_right w s.0 false

-- SAR by one bit: the sign comes in
abbrev pub sar_bit : ℕ → Moved → Moved
sar_bit w s = bit_right w s.0 (top_bit w s.0)

-- ROL by one bit: the bit that goes out comes in
abbrev pub rol_bit : ℕ → Moved → Moved
rol_bit w s = bit_left w s.0 (top_bit w s.0)

-- ROR by one bit: the bit that goes out comes in
abbrev pub ror_bit : ℕ → Moved → Moved
ror_bit w s = bit_right w s.0 (low_bit s.0)

-- RCL by one bit: the carry flag comes in
abbrev pub rcl_bit : ℕ → Moved → Moved
rcl_bit w s = bit_left w s.0 s.1

-- RCR by one bit: the carry flag comes in
abbrev pub rcr_bit : ℕ → Moved → Moved
rcr_bit w s = bit_right w s.0 s.1

-- n single bits, one after another
unfoldable pub bits_moved : (Moved → Moved) → ℕ → Moved → Moved
bits_moved move zero s = s
bits_moved move (suc n) s = move (bits_moved move n s)

-- the count of a shift or rotate
abbrev pub shift_count : ℕ → ℕ
shift_count n = n % 32

-- one of two flags is set, the other isn't
abbrev pub differ : Bool → Bool → Bool
differ a b = if a then not b else b

-- the two top bits differ
abbrev pub top_bits_differ : ℕ → ℕ → Bool
top_bits_differ w v = differ (top_bit w v) (top_bit w (cut w (2 * v)))

-- the flags after n bits, the last of which went into CF: n of 0 keeps all, and only n of 1 gives OF a value
abbrev pub moved_flags : ℕ → Bool → Bool → Flags → Flags → Flags
moved_flags n carry overflow others f =
    if nat_eq n 0 then f else record others { cf = carry; of = if nat_eq n 1 then overflow else f.of }

-- a shift by n: SF, ZF and PF by the result, AF kept; OF comes from the moved word and the carry
abbrev pub shift_of : (Moved → Moved) → (Moved → Bool) → ℕ → ℕ → ℕ → Flags → ℕ × Flags
shift_of move overflow w a n f =
    let s : Moved = bits_moved move (shift_count n) (a, f.cf) in
    (s.0, moved_flags (shift_count n) s.1 (overflow s) (result_flags w s.0 f) f)

-- a rotate by n: SF, ZF, AF and PF kept; OF comes from the moved word and the carry
abbrev pub rotate_of : (Moved → Moved) → (Moved → Bool) → ℕ → ℕ → Flags → ℕ × Flags
rotate_of move overflow a n f =
    let s : Moved = bits_moved move (shift_count n) (a, f.cf) in
    (s.0, moved_flags (shift_count n) s.1 (overflow s) f f)

-- SHL, also named SAL: OF says that the top bit differs from CF
unfoldable pub shl_of : ℕ → ℕ → ℕ → Flags → ℕ × Flags
shl_of w a n f = shift_of (shl_bit w) (λ s. differ (top_bit w s.0) s.1) w a n f

-- SHR: OF is the old top bit
unfoldable pub shr_of : ℕ → ℕ → ℕ → Flags → ℕ × Flags
shr_of w a n f = shift_of (shr_bit w) (λ s. top_bit w a) w a n f

-- SAR: OF is clear
unfoldable pub sar_of : ℕ → ℕ → ℕ → Flags → ℕ × Flags
sar_of w a n f = shift_of (sar_bit w) (λ s. false) w a n f

-- ROL: OF says that the top bit differs from CF
unfoldable pub rol_of : ℕ → ℕ → ℕ → Flags → ℕ × Flags
rol_of w a n f = rotate_of (rol_bit w) (λ s. differ (top_bit w s.0) s.1) a n f

-- ROR: OF says that the two top bits differ
unfoldable pub ror_of : ℕ → ℕ → ℕ → Flags → ℕ × Flags
ror_of w a n f = rotate_of (ror_bit w) (λ s. top_bits_differ w s.0) a n f

-- RCL: OF says that the top bit differs from CF
unfoldable pub rcl_of : ℕ → ℕ → ℕ → Flags → ℕ × Flags
rcl_of w a n f = rotate_of (rcl_bit w) (λ s. differ (top_bit w s.0) s.1) a n f

-- RCR: OF says that the two top bits differ
unfoldable pub rcr_of : ℕ → ℕ → ℕ → Flags → ℕ × Flags
rcr_of w a n f = rotate_of (rcr_bit w) (λ s. top_bits_differ w s.0) a n f
