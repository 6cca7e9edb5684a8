-- Frames of real mode that can be popped: their three words lie inside the stack segment, since a word never wraps inside itself.
-- Source: own.
use Rattle.std.specs.Prelude.{ℕ, ◌+◌, ◌*◌, ◌%◌, Bool, ◌&&◌, nat_le}
use Rattle.client_world.specs.declared.memory_map.TheConstants.{SEGMENT_SIZE}

-- the word that is n words above the stack pointer lies inside the segment
abbrev pub word_fits : ℕ → ℕ → Bool
word_fits esp above = nat_le ((esp + 2 * above) % SEGMENT_SIZE + 2) SEGMENT_SIZE

-- each word of the frame does
abbrev pub frame_fits : ℕ → Bool
frame_fits esp = word_fits esp 0 && word_fits esp 1 && word_fits esp 2
