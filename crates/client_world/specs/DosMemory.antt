-- The arena of DOS memory: which lists of entries are one. Source: own.
use Rattle.std.specs.Prelude.{◌≡◌, ℕ, ◌+◌, Bool, true, false, List, [], ◌∷◌}
use Rattle.client_world.specs.{declared.dos_memory.DosState.{DosState}, declared.dos_memory.DosState.TheVariants.{Free, Used, Dpmi}}
use Rattle.client_world.specs.{declared.dos_memory.DosEntry.{DosEntry}, declared.memory_map.TheConstants.{ARENA_START, ARENA_END}}

abbrev pub is_free : DosState → Bool
is_free Free = true
is_free Used = false
is_free Dpmi = false

-- the block was made by INT 31h function 0100h
abbrev pub is_dpmi : DosState → Bool
is_dpmi Free = false
is_dpmi Used = false
is_dpmi Dpmi = true

-- the segment of an entry's block: it begins after the header's paragraph
abbrev pub block_segment : DosEntry → ℕ
block_segment entry = entry.at + 1

-- the entries, each a header's paragraph and its block, lie from a paragraph to another without a gap
abbrev pub Fills : ℕ → List DosEntry → ℕ → Type 0
Fills from [] to = from ≡ to
Fills from (entry ∷ entries) to = (entry.at ≡ from) × Fills (from + 1 + entry.paras) entries to

-- the first of the entries is free
abbrev pub starts_free : List DosEntry → Bool
starts_free [] = false
starts_free (entry ∷ entries) = is_free entry.state

-- no two neighbours are both free
abbrev pub IsJoined : List DosEntry → Type 0
IsJoined [] = Unit {0}
IsJoined (entry ∷ entries) = (is_free entry.state ≡ true → starts_free entries ≡ false) × IsJoined entries

-- the entries are an arena
pub record IsArena (entries : List DosEntry) : Type 0 where
  pub fills : Fills ARENA_START entries ARENA_END
  pub joined : IsJoined entries
