-- Words, doublewords and runs of bytes in a list of bytes, least byte first.
-- Source: 80386 Programmer's Reference Manual, ch. 2, "Data Types".
use Rattle.std.specs.Prelude.{ℕ, ◌+◌, ◌*◌, ◌/◌, ◌%◌, ◌<◌, Bool, true, ◌&&◌, nat_lt, List, [], ◌∷◌, slice_index, slice_set, take, drop}

-- the numbers are bytes
abbrev pub AreBytes : List ℕ → Type 0
AreBytes xs = (at : ℕ) → slice_index xs at < 0x100

-- whether they are
abbrev pub all_fit : List ℕ → Bool
all_fit [] = true
all_fit (x ∷ xs) = nat_lt x 0x100 && all_fit xs

-- the word at an address
abbrev pub word_of : List ℕ → ℕ → ℕ
word_of bytes at = slice_index bytes at + 0x100 * slice_index bytes (at + 1)

-- the bytes with another word at an address
abbrev pub with_word : List ℕ → ℕ → ℕ → List ℕ
with_word bytes at v = slice_set (slice_set bytes at (v % 0x100)) (at + 1) (v / 0x100)

-- the doubleword at an address. It stays closed, since its sum is long
unfoldable pub dword : List ℕ → ℕ → ℕ
dword bytes at =
    slice_index bytes at + 0x100 * slice_index bytes (at + 1)
    + 0x10000 * slice_index bytes (at + 2) + 0x1000000 * slice_index bytes (at + 3)

-- the bytes of a doubleword
abbrev pub dword_bytes : ℕ → List ℕ
dword_bytes v = v % 0x100 ∷ v / 0x100 % 0x100 ∷ v / 0x10000 % 0x100 ∷ v / 0x1000000 ∷ []

-- the bytes with a run of other bytes from an address on
abbrev pub put : List ℕ → ℕ → List ℕ → List ℕ
put bytes at [] = bytes
put bytes at (x ∷ xs) = put (slice_set bytes at x) (at + 1) xs

-- n bytes from an address on. It stays closed, since n may be large
unfoldable pub region : List ℕ → ℕ → ℕ → List ℕ
region bytes from n = take n (drop from bytes)
