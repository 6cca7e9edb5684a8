-- Descriptors, their eight bytes, and which offsets they allow.
-- Source: 80386 Programmer's Reference Manual, ch. 5, "Descriptors", figure 5-3, and ch. 6, "Limit Checking".
use Rattle.std.specs.Prelude.{◌≡◌, ◌≤◌, ◌<◌, ℕ, ◌+◌, ◌*◌, ◌/◌, ◌%◌, ◌^◌, Bool, true, false, List, [], ◌∷◌, if◌then◌else◌, cond, MatchBool}
use Rattle.std.specs.Prelude.{◌&&◌, nat_lt, nat_le}
use Rattle.client_world.specs.{declared.descriptors.Kind.{Kind}, declared.descriptors.Kind.TheVariants.{Data, Code}}
use Rattle.client_world.specs.declared.descriptors.Desc.{Desc}

-- the field values fit the descriptor: 32 bits of base, 20 of limit
pub record FitsDescriptor (d : Desc) : Type 0 where
  pub base : d.base < 2 ^ 32
  pub limit : d.limit < 2 ^ 20

-- a descriptor that is present, with a limit in bytes, and the client's own bit clear; its size is D of code and B of data
abbrev pub plain : Kind → ℕ → ℕ → Bool → Desc
plain kind base limit size =
    record { base = base; limit = limit; gran = false; size = size; avl = false; present = true; kind = kind }

-- the access byte: P in bit 7, DPL 3, bit 4, then 2 and 4 for writable and expand-down data, 8 and 2 for readable code,
-- and 1 for Accessed
abbrev pub kind_bits : Kind → ℕ
kind_bits (Data writable down) = cond writable 2 0 + cond down 4 0
kind_bits Code = 8 + 2

abbrev pub access_byte : Desc → ℕ
access_byte d = cond d.present 0x80 0 + 0x60 + 0x10 + kind_bits d.kind + 1

-- the byte after it: limit 19 to 16, AVL in bit 4, D/B in bit 6, G in bit 7
abbrev pub flags_byte : Desc → ℕ
flags_byte d = d.limit / 0x10000 + cond d.avl 0x10 0 + cond d.size 0x40 0 + cond d.gran 0x80 0

-- the eight bytes of a descriptor: limit 15 to 0, base 15 to 0, base 23 to 16, access byte, flags byte, base 31 to 24
unfoldable pub packed : Desc → List ℕ
packed d =
    d.limit % 0x100 ∷ d.limit / 0x100 % 0x100 ∷
    d.base % 0x100 ∷ d.base / 0x100 % 0x100 ∷ d.base / 0x10000 % 0x100 ∷
    access_byte d ∷ flags_byte d ∷ d.base / 0x1000000 ∷ []

-- these are the eight bytes of the descriptor
abbrev pub Packs : Desc → List ℕ → Type 0
Packs d bytes = bytes ≡ packed d

-- the last byte that the limit names: with G it counts units of 4096 bytes
abbrev pub byte_limit : Desc → ℕ
byte_limit d = if d.gran then d.limit * 0x1000 + 0xFFF else d.limit

-- the segment expands down
abbrev pub expands_down : Kind → Bool
expands_down (Data writable down) = down
expands_down Code = false

-- the greatest offset of an expand-down segment, by B
abbrev pub greatest_offset : Bool → ℕ
greatest_offset size = if size then 0xFFFFFFFF else 0xFFFF

-- the limit allows the offset
abbrev pub Allows : Desc → ℕ → Type 0
Allows d offset =
    MatchBool (expands_down d.kind) ((byte_limit d < offset) × (offset ≤ greatest_offset d.size)) (offset ≤ byte_limit d)

-- each of n bytes from an offset on lies inside the segment, and none past FFFFFFFFh
abbrev pub IsInside : Desc → ℕ → ℕ → Type 0
IsInside d offset n = (at : ℕ) → offset ≤ at → at < offset + n → (at < 2 ^ 32) × Allows d at

-- the same in numbers, for a run that isn't empty: by whether the segment expands down, by B, and by the last byte that the limit names
abbrev pub is_within : Bool → Bool → ℕ → ℕ → ℕ → Bool
is_within down size limit offset n =
    if down then nat_lt limit offset && nat_le (offset + n) (greatest_offset size + 1)
    else nat_le (offset + n) (limit + 1) && nat_le (offset + n) (2 ^ 32)

-- that of a descriptor
abbrev pub is_inside : Desc → ℕ → ℕ → Bool
is_inside d offset n = is_within (expands_down d.kind) d.size (byte_limit d) offset n

-- what the segment holds is code, or data that may be written
abbrev pub is_code : Kind → Bool
is_code (Data writable down) = false
is_code Code = true

abbrev pub is_writable : Kind → Bool
is_writable (Data writable down) = writable
is_writable Code = false
