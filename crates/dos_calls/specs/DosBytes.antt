-- Bytes of the DOS megabyte as DOS calls see them: at a segment and an offset, which wraps in its segment. Source: own.
use Rattle.std.specs.Prelude.{ℕ, ◌+◌, ◌*◌, ◌/◌, ◌%◌, Bool, zero, suc, List, [], ◌∷◌, cond, nat_eq, if◌then◌else◌, slice_index}
use Rattle.client_world.specs.{Access.{real_address}, World.{World}}
use Rattle.guest_space.specs.Dos.{with_dos_byte}

-- the byte at segment:offset
abbrev pub byte_at : List ℕ → ℕ → ℕ → ℕ
byte_at dos segment offset = slice_index dos (real_address segment offset)

-- the megabyte with other bytes from there on; those of read-only memory stay
unfoldable pub with_dos_bytes_at : List ℕ → ℕ → ℕ → List ℕ → List ℕ
with_dos_bytes_at dos segment offset [] = dos
with_dos_bytes_at dos segment offset (byte ∷ bytes) =
    with_dos_bytes_at (with_dos_byte dos (real_address segment offset) byte) segment (offset + 1) bytes

-- n bytes from there on
unfoldable pub bytes_from : List ℕ → ℕ → ℕ → ℕ → List ℕ
bytes_from dos segment offset zero = []
bytes_from dos segment offset (suc n) = byte_at dos segment offset ∷ bytes_from dos segment (offset + 1) n

-- the bytes from there on up to a `$`, and n at most
unfoldable pub text_from : List ℕ → ℕ → ℕ → ℕ → List ℕ
text_from dos segment offset zero = []
text_from dos segment offset (suc n) =
    if nat_eq (byte_at dos segment offset) 0x24 then [] else
    byte_at dos segment offset ∷ text_from dos segment (offset + 1) n

-- a byte with the bit of that value, a power of two, set or cleared
abbrev pub with_bit : ℕ → ℕ → Bool → ℕ
with_bit byte bit on = byte / (2 * bit) * (2 * bit) + cond on bit 0 + byte % bit

-- the world with a flag changed in the flags image that the interrupt pushed: CF and ZF lie in its low byte, at SS:SP+4
abbrev pub with_stacked : ℕ → Bool → World → World
with_stacked bit on w =
    let at = real_address w.regs.ss (w.regs.esp + 4) in
    record w { dos = with_dos_byte w.dos at (with_bit (slice_index w.dos at) bit on) }
