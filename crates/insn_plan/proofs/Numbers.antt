-- The number of a few bytes, by its bytes.
use Rattle.std.proofs.Common.{◌≡◌, ℕ, List, [], ◌∷◌, length, slice_index, arith}
use Rattle.std.specs.Int.{w16, w32, w64, from_le_bytes}
use Rattle.insn_forms.specs.Grammar.{little_endian}

pub number_of_one : (bytes : List ℕ) → length bytes ≡ 1 → little_endian bytes ≡ slice_index bytes 0
number_of_one [] e = absurd (omega (arith, e))
number_of_one (a ∷ []) e = omega arith
number_of_one (a ∷ b ∷ bytes) e = absurd (omega (arith, e))

pub number_of_two : (bytes : List ℕ) → length bytes ≡ 2 → little_endian bytes ≡ from_le_bytes w16 bytes
number_of_two [] e = absurd (omega (arith, e))
number_of_two (a ∷ []) e = absurd (omega (arith, e))
number_of_two (a ∷ b ∷ []) e = omega arith
number_of_two (a ∷ b ∷ c ∷ bytes) e = absurd (omega (arith, e))

pub number_of_four : (bytes : List ℕ) → length bytes ≡ 4 → little_endian bytes ≡ from_le_bytes w32 bytes
number_of_four [] e = absurd (omega (arith, e))
number_of_four (a ∷ []) e = absurd (omega (arith, e))
number_of_four (a ∷ b ∷ []) e = absurd (omega (arith, e))
number_of_four (a ∷ b ∷ c ∷ []) e = absurd (omega (arith, e))
number_of_four (a ∷ b ∷ c ∷ d ∷ []) e = omega arith
number_of_four (a ∷ b ∷ c ∷ d ∷ x ∷ bytes) e = absurd (omega (arith, e))

-- six bytes are eight of which the last two are 0
pub number_of_six : (bytes : List ℕ) → length bytes ≡ 6 → little_endian bytes ≡ from_le_bytes w64
    (slice_index bytes 0 ∷ slice_index bytes 1 ∷ slice_index bytes 2 ∷ slice_index bytes 3 ∷ slice_index bytes 4 ∷ slice_index bytes 5 ∷
    0 ∷ 0 ∷ [])
number_of_six [] e = absurd (omega (arith, e))
number_of_six (a ∷ []) e = absurd (omega (arith, e))
number_of_six (a ∷ b ∷ []) e = absurd (omega (arith, e))
number_of_six (a ∷ b ∷ c ∷ []) e = absurd (omega (arith, e))
number_of_six (a ∷ b ∷ c ∷ d ∷ []) e = absurd (omega (arith, e))
number_of_six (a ∷ b ∷ c ∷ d ∷ x ∷ []) e = absurd (omega (arith, e))
number_of_six (a ∷ b ∷ c ∷ d ∷ x ∷ y ∷ []) e = omega arith
number_of_six (a ∷ b ∷ c ∷ d ∷ x ∷ y ∷ z ∷ bytes) e = absurd (omega (arith, e))

pub number_of_eight : (bytes : List ℕ) → length bytes ≡ 8 → little_endian bytes ≡ from_le_bytes w64 bytes
number_of_eight [] e = absurd (omega (arith, e))
number_of_eight (a ∷ []) e = absurd (omega (arith, e))
number_of_eight (a ∷ b ∷ []) e = absurd (omega (arith, e))
number_of_eight (a ∷ b ∷ c ∷ []) e = absurd (omega (arith, e))
number_of_eight (a ∷ b ∷ c ∷ d ∷ []) e = absurd (omega (arith, e))
number_of_eight (a ∷ b ∷ c ∷ d ∷ x ∷ []) e = absurd (omega (arith, e))
number_of_eight (a ∷ b ∷ c ∷ d ∷ x ∷ y ∷ []) e = absurd (omega (arith, e))
number_of_eight (a ∷ b ∷ c ∷ d ∷ x ∷ y ∷ z ∷ []) e = absurd (omega (arith, e))
number_of_eight (a ∷ b ∷ c ∷ d ∷ x ∷ y ∷ z ∷ u ∷ []) e = omega arith
number_of_eight (a ∷ b ∷ c ∷ d ∷ x ∷ y ∷ z ∷ u ∷ v ∷ bytes) e = absurd (omega (arith, e))
