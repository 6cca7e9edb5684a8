-- The frames of the list of DOS memory. Source: own.
use Rattle.std.specs.Prelude.{◌≡◌, ℕ, zero, suc, ◌+◌, ◌*◌, ◌/◌, ◌<◌, ◌≤◌, nat_eq, if◌then◌else◌, List, [], ◌∷◌, ◌++◌, slice_index}
use Rattle.client_world.specs.{declared.dos_memory.DosEntry.{DosEntry}, declared.dos_memory.DosState.{DosState}}
use Rattle.client_world.specs.{declared.dos_memory.DosState.TheVariants.{Free, Used, Dpmi}, declared.host_frames.TheConstants.{PAGE_SIZE}}
use Rattle.client_world.specs.declared.host_frames.TheConstants.{DOS_ENTRY_SIZE, DOS_LIST_FRAMES}
use Rattle.guest_ram.specs.{Bytes.{word_of}, Listed.{listed}}
use Rattle.host_memory.specs.Vectors.{word_bytes}

-- the bytes of the frames, of an entry, and the entries for which there is room
abbrev pub list_size : ℕ
list_size = PAGE_SIZE * DOS_LIST_FRAMES

abbrev pub entry_size : ℕ
entry_size = DOS_ENTRY_SIZE

abbrev pub entry_room : ℕ
entry_room = list_size / entry_size

-- the state of a code: 1 free, 2 used, 3 made by INT 31h function 0100h; 0 is no entry's
abbrev pub state_of : ℕ → DosState
state_of code = if nat_eq code 1 then Free else if nat_eq code 2 then Used else Dpmi

abbrev pub state_code : DosState → ℕ
state_code Free = 1
state_code Used = 2
state_code Dpmi = 3

-- the entry at an address: its header's paragraph, its paragraphs, and its state
unfoldable pub entry_at : List ℕ → ℕ → DosEntry
entry_at part at = record {
  at = word_of part at;
  paras = word_of part (at + 2);
  state = state_of (slice_index part (at + 4));
}

-- its eight bytes
abbrev pub entry_bytes : DosEntry → List ℕ
entry_bytes entry = word_bytes entry.at ++ word_bytes entry.paras ++ state_code entry.state ∷ 0 ∷ 0 ∷ 0 ∷ []

-- how many entries lie one after another from a place on, of n at most: up to the first state that is 0
unfoldable pub entries_from : List ℕ → ℕ → ℕ → ℕ
entries_from part place zero = 0
entries_from part place (suc n) =
    if nat_eq (slice_index part (entry_size * place + 4)) 0 then 0 else 1 + entries_from part (place + 1) n

abbrev pub entry_count : List ℕ → ℕ
entry_count part = entries_from part 0 entry_room

-- the entries that the frames hold
unfoldable pub arena_in : List ℕ → List DosEntry
arena_in part = listed (entry_count part) (λ place. entry_at part (entry_size * place))

-- the bytes of the frames are exactly those of the entries, and zeros after them
pub record KeepsArena (part : List ℕ) : Type 0 where
  pub each : (place at : ℕ) → place < entry_count part → at < entry_size →
      slice_index part (entry_size * place + at) ≡ slice_index (entry_bytes (entry_at part (entry_size * place))) at
  pub rest : (at : ℕ) → entry_size * entry_count part ≤ at → at < list_size → slice_index part at ≡ 0
