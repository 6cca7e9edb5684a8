-- The arena of DOS memory changed: entries in place of others, and the header paragraph of every entry written.
-- Source: MS-DOS memory control blocks; that all of them are written at each change is own.
use Rattle.std.specs.Prelude.{◌≡◌, ℕ, ◌+◌, ◌-◌, ◌*◌, false, List, [], ◌∷◌, ◌++◌, length, take, drop}
use Rattle.client_world.specs.{declared.dos_memory.DosEntry.{DosEntry}, DosMemory.{is_dpmi}, World.{World}}
use Rattle.guest_ram.specs.Listed.{zeros}
use Rattle.host_memory.specs.{DosList.{entry_bytes, entry_size, list_size}, Headers.{with_headers}}

-- other entries in place of some, from a place on
abbrev pub with_replaced_entries : List DosEntry → ℕ → ℕ → List DosEntry → List DosEntry
with_replaced_entries entries place old new = take place entries ++ (new ++ drop (place + old) entries)

-- INT 31h function 0100h made none of them
abbrev pub NoneMade : List DosEntry → Type 0
NoneMade [] = Unit {0}
NoneMade (entry ∷ entries) = (is_dpmi entry.state ≡ false) × NoneMade entries

-- the world with other entries in place of some
unfoldable pub with_entries : World → ℕ → ℕ → List DosEntry → World
with_entries w place old new = record w {
  arena = with_replaced_entries w.arena place old new;
  dos = with_headers w.dos (with_replaced_entries w.arena place old new);
}

-- the bytes of the list's frames that hold some entries
abbrev pub list_bytes : List DosEntry → List ℕ
list_bytes [] = []
list_bytes (entry ∷ entries) = entry_bytes entry ++ list_bytes entries

unfoldable pub arena_bytes : List DosEntry → List ℕ
arena_bytes entries = list_bytes entries ++ zeros (list_size - entry_size * length entries)
