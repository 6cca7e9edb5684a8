-- What two clients in turns write: the bytes that each one's console gains, slice by slice of its own run. Source: own.
use Rattle.std.specs.Prelude.{ℕ, zero, suc, ◌+◌, ◌-◌, ◌*◌, ◌/◌, ◌++◌, List, [], ◌∷◌, Bool, true, false, length, drop, min, max, codes}
use Rattle.std.specs.Fmt.{decimal}
use Rattle.dpmi_io.specs.LineEnd.{line_end}
use Rattle.pair_run.specs.{declared.lines.Letter.{Letter}, declared.lines.Letter.TheVariants.{A, B}, Run.{turns_of}}
use Rattle.client_world.specs.WatchWorld.{WatchWorld}

-- a client's own run, as far as the slices show it: what its console holds after each number of turns, and how many turns there are
pub record OwnRun : Type 0 where
  pub console : ℕ → List ℕ
  pub turns : ℕ

-- the run from a first world, which made no turn yet; it is cut at its bound, as its turns are at its exit
abbrev pub own_run : (WatchWorld → WatchWorld) → (WatchWorld → List ℕ) → (WatchWorld → ℕ) → ℕ → WatchWorld → OwnRun
own_run turn console steps bound w = record {
  console = λ n. console (turns_of turn (min n bound) w);
  turns = steps (turns_of turn bound w);
}

-- what the console gains in slice k, which has the turns k * n + 1 to (k + 1) * n
abbrev pub gain : ℕ → OwnRun → ℕ → List ℕ
gain n r k = drop (length (r.console (k * n))) (r.console ((k + 1) * n))

-- how many slices of n turns a run has; its last one may be shorter
abbrev pub slices : ℕ → OwnRun → ℕ
slices n r = (r.turns + (n - 1)) / n

-- a slice that a client wrote in: its number, the client's letter, and the bytes
pub record SliceLine : Type 0 where
  pub slice : ℕ
  pub client : Letter
  pub bytes : List ℕ

-- the line of these bytes; no line where there are none
abbrev pub line_if_any : ℕ → Letter → List ℕ → List SliceLine
line_if_any k client [] = []
line_if_any k client (byte ∷ bytes) = record { slice = k; client = client; bytes = byte ∷ bytes } ∷ []

-- the line of slice k of a client's own run, if it has one
abbrev pub slice_line : ℕ → Letter → OwnRun → ℕ → List SliceLine
slice_line n client r k = line_if_any k client (gain n r k)

-- the lines that f gives for 0, 1 and so on, c of them. It stays closed, since c may be large
unfoldable pub lines_up_to : (ℕ → List SliceLine) → ℕ → List SliceLine
lines_up_to f zero = []
lines_up_to f (suc c) = lines_up_to f c ++ f c

-- a client's own lines
abbrev pub own_lines : ℕ → Letter → OwnRun → List SliceLine
own_lines n client r = lines_up_to (slice_line n client r) (slices n r)

-- in a slice A's line and then B's
abbrev pub both_lines : ℕ → OwnRun → OwnRun → ℕ → List SliceLine
both_lines n a b k = slice_line n A a k ++ slice_line n B b k

-- slice by slice, to the last slice of either
abbrev pub pair_lines : ℕ → OwnRun → OwnRun → List SliceLine
pair_lines n a b = lines_up_to (both_lines n a b) (max (slices n a) (slices n b))

abbrev pub letter_text : Letter → List ℕ
letter_text A = codes "a"
letter_text B = codes "b"

-- the line before a slice's bytes: its number, the client and how many bytes there are
abbrev pub slice_head : ℕ → Letter → ℕ → List ℕ
slice_head k client count = codes "slice " ++ decimal k ++ codes " " ++ letter_text client ++ codes " " ++ decimal count ++ line_end

-- a slice's bytes, between that line and the end of their own
abbrev pub line_text : SliceLine → List ℕ
line_text l = (slice_head l.slice l.client (length l.bytes) ++ l.bytes) ++ line_end

abbrev pub lines_text : List SliceLine → List ℕ
lines_text [] = []
lines_text (l ∷ ls) = line_text l ++ lines_text ls

-- the first line: how many turns a slice has
abbrev pub pair_head : ℕ → List ℕ
pair_head n = codes "pair slice " ++ decimal n ++ line_end

-- what two clients write in slices of n turns
abbrev pub slices_text : ℕ → OwnRun → OwnRun → List ℕ
slices_text n a b = pair_head n ++ lines_text (pair_lines n a b)

abbrev pub is_letter : Letter → Letter → Bool
is_letter A A = true
is_letter A B = false
is_letter B A = false
is_letter B B = true

-- the bytes of some lines, one after another
abbrev pub all_bytes : List SliceLine → List ℕ
all_bytes [] = []
all_bytes (l ∷ ls) = l.bytes ++ all_bytes ls

-- the line is that of the client of a letter
abbrev pub is_of : Letter → SliceLine → Bool
is_of client l = is_letter client l.client
