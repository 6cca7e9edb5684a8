-- What the row of a selector says of its segment, whether the segment may be used or not.
-- Source: 80386 Programmer's Reference Manual, ch. 5, "Segment Descriptors", and ch. 16, "How the 80386 Implements 16-Bit and 32-Bit
-- Features", for bit D of code and bit B of a stack; own where there is no row.
use Rattle.std.specs.Prelude.{ℕ, ◌*◌, Bool, false, List, None, Some}
use Rattle.client_world.specs.{declared.memory_map.TheConstants.{PARAGRAPH_SIZE}, declared.registers.Mode.{Mode}}
use Rattle.client_world.specs.{declared.registers.Mode.TheVariants.{Real, Protected}, Selector.{Row, row_of_selector}}

-- the bit D or B of a row is 1
abbrev pub has_size_bit : Row → Bool
has_size_bit None = false
has_size_bit (Some row) = row.0.size

-- the segment of a selector has 32 bits; those of real mode have 16
abbrev pub is_big : Mode → List Row → ℕ → Bool
is_big Real rows sel = false
is_big Protected rows sel = has_size_bit (row_of_selector rows sel)

-- the base of a row's descriptor, 0 where there is none
abbrev pub base_of_row : Row → ℕ
base_of_row None = 0
base_of_row (Some row) = row.0.base

-- the linear address of the first byte of a selector's segment
abbrev pub first_byte : Mode → List Row → ℕ → ℕ
first_byte Real rows sel = sel * PARAGRAPH_SIZE
first_byte Protected rows sel = base_of_row (row_of_selector rows sel)
