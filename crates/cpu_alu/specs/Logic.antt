-- The operations on bits: AND (and TEST), OR, XOR, NOT.
-- Source: 80386 Programmer's Reference Manual, ch. 17, each under its name. Own: AF, which the manual leaves undefined, is kept.
use Rattle.std.specs.Prelude.{ℕ, ◌-◌, ◌^◌, false, bit_and, bit_or, bit_xor}
use Rattle.client_world.specs.declared.registers.Flags.{Flags}
use Rattle.cpu_alu.specs.Results.{result_flags}

-- a result, with CF and OF clear; AF is kept
abbrev pub bits_with_flags : ℕ → ℕ → Flags → ℕ × Flags
bits_with_flags w r f = (r, record (result_flags w r f) { cf = false; of = false })

-- AND; TEST sets the same flags
unfoldable pub and_of : ℕ → ℕ → ℕ → Flags → ℕ × Flags
and_of w a b f = bits_with_flags w (bit_and a b) f

-- OR
unfoldable pub or_of : ℕ → ℕ → ℕ → Flags → ℕ × Flags
or_of w a b f = bits_with_flags w (bit_or a b) f

-- XOR
unfoldable pub xor_of : ℕ → ℕ → ℕ → Flags → ℕ × Flags
xor_of w a b f = bits_with_flags w (bit_xor a b) f

-- NOT: each bit the other way; all flags are kept
unfoldable pub not_of : ℕ → ℕ → Flags → ℕ × Flags
not_of w a f = (2 ^ w - 1 - a, f)
