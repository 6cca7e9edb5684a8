-- The parts of a general register of 32 bits.
-- Source: 80386 Programmer's Reference Manual, ch. 2, "General Registers".
use Rattle.std.specs.Prelude.{ℕ, ◌/◌, ◌%◌, Bool, if◌then◌else◌}
use Rattle.client_world.specs.Registers.{with_high_byte, with_low_byte}

-- its low byte (AL of EAX), or the byte above it (AH)
abbrev pub register_byte : ℕ → Bool → ℕ
register_byte r high = if high then r / 0x100 % 0x100 else r % 0x100

-- the register with another such byte
abbrev pub with_byte : ℕ → Bool → ℕ → ℕ
with_byte r high v = if high then with_high_byte r v else with_low_byte r v
