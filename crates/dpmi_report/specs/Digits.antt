-- Numbers in hexadecimal digits, in lower case. Source: own.
use Rattle.std.specs.{Prelude.{ℕ, List, [], ◌∷◌, slice_index}, Int.{to_be_bytes, w16, w32}}
use Rattle.hex.specs.Hex.{encode_lower, lower_digits}

-- a number below 16, a byte, a word and a doubleword, with one, two, four and eight digits
abbrev pub hex_digit : ℕ → ℕ
hex_digit n = slice_index lower_digits n

abbrev pub hex_byte : ℕ → List ℕ
hex_byte n = encode_lower (n ∷ [])

abbrev pub hex_word : ℕ → List ℕ
hex_word n = encode_lower (to_be_bytes w16 n)

abbrev pub hex_doubleword : ℕ → List ℕ
hex_doubleword n = encode_lower (to_be_bytes w32 n)
