-- The stack of a real-mode procedure that the host calls: where its words lie in the megabyte, and which can be written. Offsets wrap in
-- their segment, as single pushes would. Source: 80386 Programmer's Reference Manual, ch. 15; where the host's stacks lie is own.
use Rattle.std.specs.Prelude.{ℕ, zero, suc, ◌+◌, ◌-◌, ◌*◌, ◌/◌, ◌%◌, Bool, true, ◌&&◌, not, nat_eq, nat_lt, slice_index, List, [], ◌∷◌}
use Rattle.client_world.specs.declared.memory_map.TheConstants.{REAL_STACK_SEGMENT, REAL_STACK_SIZE, ROM_START, SEGMENT_SIZE}
use Rattle.client_world.specs.{declared.segments.FarPtr.{FarPtr}, Access.{real_address}, World.{World, depth}}
use Rattle.guest_space.specs.Dos.{with_dos_byte}

-- the offset of the next word, and the offset n words below
abbrev pub next_word : ℕ → ℕ
next_word offset = (offset + 2) % SEGMENT_SIZE

abbrev pub words_below : ℕ → ℕ → ℕ
words_below offset n = (offset + SEGMENT_SIZE - 2 * n) % SEGMENT_SIZE

-- a word can be written there: it doesn't pass the segment's end, and neither of its bytes is read-only
unfoldable pub is_writable_word : ℕ → ℕ → Bool
is_writable_word segment offset =
    not (nat_eq offset 0xFFFF) && nat_lt (real_address segment offset) ROM_START && nat_lt (real_address segment (offset + 1)) ROM_START

-- so can n words from there on
abbrev pub are_writable_words : ℕ → ℕ → ℕ → Bool
are_writable_words segment offset zero = true
are_writable_words segment offset (suc n) = is_writable_word segment offset && are_writable_words segment (next_word offset) n

-- the megabyte with a word there, cut to 16 bits
unfoldable pub with_word_at : List ℕ → ℕ → ℕ → ℕ → List ℕ
with_word_at dos segment offset v =
    with_dos_byte (with_dos_byte dos (real_address segment offset) (v % 0x100)) (real_address segment (offset + 1)) (v / 0x100 % 0x100)

-- and with words from there on
abbrev pub with_words_at : List ℕ → ℕ → ℕ → List ℕ → List ℕ
with_words_at dos segment offset [] = dos
with_words_at dos segment offset (v ∷ vs) = with_words_at (with_word_at dos segment offset v) segment (next_word offset) vs

-- the host's real-mode stack of the depth, which is empty
abbrev pub host_real_stack : World → FarPtr
host_real_stack w = record { sel = REAL_STACK_SEGMENT; off = (depth w + 1) * REAL_STACK_SIZE }

-- the word there, and the n words from there on
abbrev pub stack_word : List ℕ → ℕ → ℕ → ℕ
stack_word dos segment offset =
    slice_index dos (real_address segment offset) + 0x100 * slice_index dos (real_address segment (offset + 1))

abbrev pub stack_words : List ℕ → ℕ → ℕ → ℕ → List ℕ
stack_words dos segment offset zero = []
stack_words dos segment offset (suc n) = stack_word dos segment offset ∷ stack_words dos segment (next_word offset) n
