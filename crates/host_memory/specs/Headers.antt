-- The header paragraphs of DOS memory. Source: MS-DOS memory control blocks; which bytes of them are used is own.
use Rattle.std.specs.Prelude.{ℕ, ◌*◌, List, [], ◌∷◌, ◌++◌}
use Rattle.client_world.specs.{declared.dos_memory.DosEntry.{DosEntry}, declared.dos_memory.DosState.{DosState}}
use Rattle.client_world.specs.declared.dos_memory.DosState.TheVariants.{Free, Used, Dpmi}
use Rattle.client_world.specs.declared.memory_map.TheConstants.{PARAGRAPH_SIZE, PSP_SEGMENT}
use Rattle.guest_ram.specs.Bytes.{put}
use Rattle.host_memory.specs.Vectors.{word_bytes}

-- the letter of a header: 'Z' of the last entry, 'M' of the others
abbrev pub header_letter : List DosEntry → ℕ
header_letter [] = 0x5A
header_letter (entry ∷ behind) = 0x4D

-- the owner: the program segment prefix, or 0 where the entry is free
abbrev pub owner_of : DosState → ℕ
owner_of Free = 0
owner_of Used = PSP_SEGMENT
owner_of Dpmi = PSP_SEGMENT

-- a header paragraph: the letter, the owner's word at 1, the paragraphs' word at 3, and zeros
unfoldable pub dos_header : ℕ → DosEntry → List ℕ
dos_header letter entry =
    letter ∷ word_bytes (owner_of entry.state) ++ word_bytes entry.paras
    ++ 0 ∷ 0 ∷ 0 ∷ 0 ∷ 0 ∷ 0 ∷ 0 ∷ 0 ∷ 0 ∷ 0 ∷ 0 ∷ []

-- the megabyte with the header of each entry, the first one first
abbrev pub with_headers : List ℕ → List DosEntry → List ℕ
with_headers dos [] = dos
with_headers dos (entry ∷ behind) =
    with_headers (put dos (PARAGRAPH_SIZE * entry.at) (dos_header (header_letter behind) entry)) behind
