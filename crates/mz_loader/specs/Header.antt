-- The header of an MZ file, and what it says of the program.
-- Source: MS-DOS executable files; that a file without minimum and maximum gets all memory is MS-DOS's "load high", own here.
use Rattle.std.specs.Prelude.{ℕ, ◌+◌, ◌-◌, ◌*◌, ◌/◌, ◌||◌, ◌&&◌, nat_eq, min, max, if◌then◌else◌, List}
use Rattle.client_world.specs.declared.memory_map.TheConstants.{PARAGRAPH_SIZE, PSP_SEGMENT, ARENA_END}
use Rattle.guest_ram.specs.Bytes.{word_of}

-- the words of the header
abbrev pub last_page : List ℕ → ℕ
last_page file = word_of file 0x02

abbrev pub pages : List ℕ → ℕ
pages file = word_of file 0x04

abbrev pub relocations : List ℕ → ℕ
relocations file = word_of file 0x06

abbrev pub minimum : List ℕ → ℕ
minimum file = word_of file 0x0A

abbrev pub maximum : List ℕ → ℕ
maximum file = word_of file 0x0C

abbrev pub relocation_table : List ℕ → ℕ
relocation_table file = word_of file 0x18

-- the bytes of the header, and of header and image together: whole pages of 512 bytes but for the last
abbrev pub header_length : List ℕ → ℕ
header_length file = PARAGRAPH_SIZE * word_of file 0x08

abbrev pub page_bytes : ℕ
page_bytes = 512

abbrev pub declared_length : List ℕ → ℕ
declared_length file =
    if nat_eq (last_page file) 0 || nat_eq (last_page file) page_bytes then page_bytes * pages file
    else page_bytes * (pages file - 1) + last_page file

-- the image, in bytes and in paragraphs
abbrev pub image_length : List ℕ → ℕ
image_length file = declared_length file - header_length file

abbrev pub image_paras : List ℕ → ℕ
image_paras file = (image_length file + 15) / PARAGRAPH_SIZE

-- the paragraphs of a program segment prefix, and the most of a program block: all from the prefix on
abbrev pub psp_paras : ℕ
psp_paras = 16

abbrev pub most_paras : ℕ
most_paras = ARENA_END - PSP_SEGMENT

-- the paragraphs that the program needs, and those that its block gets: as many as it may use, or all where the header names neither number
abbrev pub needed_paras : List ℕ → ℕ
needed_paras file = psp_paras + image_paras file + minimum file

abbrev pub block_paras : List ℕ → ℕ
block_paras file =
    if nat_eq (minimum file) 0 && nat_eq (maximum file) 0 then most_paras
    else min most_paras (psp_paras + image_paras file + max (minimum file) (maximum file))
