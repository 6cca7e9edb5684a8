-- The descriptor that eight bytes are. Source: 80386 Programmer's Reference Manual, ch. 5, "Descriptors", figure 5-3.
use Rattle.std.specs.Prelude.{ℕ, ◌+◌, ◌*◌, ◌/◌, ◌%◌, Bool, ◌&&◌, ◌||◌, not, nat_eq, if◌then◌else◌, Option, Some, None, List, slice_index}
use Rattle.std.specs.Prelude.{slice_set}
use Rattle.client_world.specs.{declared.descriptors.Kind.{Kind}, declared.descriptors.Kind.TheVariants.{Data, Code}}
use Rattle.client_world.specs.{declared.descriptors.Desc.{Desc}, Registers.{has_bit}}

-- a good access byte: bit 4 set, DPL 3 in bits 6 and 5, and for code (bit 3) bit 2 clear and bit 1 set
abbrev pub is_access_byte : ℕ → Bool
is_access_byte byte =
    nat_eq (byte / 0x10 % 8) 7 && (not (has_bit byte 8) || (not (has_bit byte 4) && has_bit byte 2))

-- what a segment with that access byte holds: code by bit 3, else data, writable by bit 1, expand-down by bit 2
abbrev pub kind_of : ℕ → Kind
kind_of byte = if has_bit byte 8 then Code else Data (has_bit byte 2) (has_bit byte 4)

-- the fields that the eight bytes from an address on hold
unfoldable pub described : List ℕ → ℕ → Desc
described b at = record {
  base = slice_index b (at + 2) + 0x100 * slice_index b (at + 3) + 0x10000 * slice_index b (at + 4)
      + 0x1000000 * slice_index b (at + 7);
  limit = slice_index b at + 0x100 * slice_index b (at + 1) + 0x10000 * (slice_index b (at + 6) % 0x10);
  gran = has_bit (slice_index b (at + 6)) 0x80;
  size = has_bit (slice_index b (at + 6)) 0x40;
  avl = has_bit (slice_index b (at + 6)) 0x10;
  present = has_bit (slice_index b (at + 5)) 0x80;
  kind = kind_of (slice_index b (at + 5));
}

-- they are a descriptor: byte 5 is a good access byte, and bit 5 of byte 6 is clear
abbrev pub is_packed : List ℕ → ℕ → Bool
is_packed b at = is_access_byte (slice_index b (at + 5)) && not (has_bit (slice_index b (at + 6)) 0x20)

-- the descriptor that they are
unfoldable pub unpacked : List ℕ → ℕ → Option Desc
unpacked b at = if is_packed b at then Some (described b at) else None

-- the eight bytes with the Accessed bit set, bit 0 of byte 5
abbrev pub with_accessed : List ℕ → List ℕ
with_accessed b = slice_set b 5 (slice_index b 5 / 2 * 2 + 1)
