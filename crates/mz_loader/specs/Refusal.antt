-- Why a file isn't loaded: the first of these reasons. Source: own.
use Rattle.std.specs.Prelude.{ℕ, zero, suc, ◌+◌, ◌-◌, ◌*◌, ◌%◌, Bool, false, not, ◌&&◌, ◌||◌, nat_eq, nat_lt, nat_le, if◌then◌else◌, List}
use Rattle.std.specs.{Prelude.{length, slice_index, Some, None}, declared.option.Option.{Option}}
use Rattle.client_world.specs.declared.memory_map.TheConstants.{PARAGRAPH_SIZE, PSP_SEGMENT, IMAGE_SEGMENT}
use Rattle.client_world.specs.{declared.outcome.LoadFault.{LoadFault}, declared.outcome.LoadFault.TheVariants.{ShortHeader, Signature}}
use Rattle.client_world.specs.declared.outcome.LoadFault.TheVariants.{LastPage, RelocTable, NoRoom, RelocTarget, EntryOutside}
use Rattle.guest_ram.specs.Bytes.{word_of}
use Rattle.mz_loader.specs.Header.{last_page, pages, relocations, relocation_table, header_length, page_bytes, declared_length}
use Rattle.mz_loader.specs.Header.{needed_paras, most_paras, block_paras, psp_paras}

-- the bytes of a header
abbrev pub header_bytes : ℕ
header_bytes = 28

-- the file is shorter than a header
abbrev pub is_short : List ℕ → Bool
is_short file = nat_lt (length file) header_bytes

-- it doesn't begin with `MZ`
abbrev pub lacks_signature : List ℕ → Bool
lacks_signature file = not (nat_eq (slice_index file 0) 0x4D && nat_eq (slice_index file 1) 0x5A)

-- the last page has more bytes than a page, or there are no pages, or the header is longer than they are
abbrev pub has_bad_pages : List ℕ → Bool
has_bad_pages file =
    nat_lt page_bytes (last_page file) || (nat_eq (pages file) 0 || nat_lt (declared_length file) (header_length file))

-- the relocation table passes the file's end
abbrev pub has_bad_table : List ℕ → Bool
has_bad_table file =
    not (nat_eq (relocations file) 0) && nat_lt (length file) (relocation_table file + 4 * relocations file)

-- the program needs more than there is
abbrev pub has_no_room : List ℕ → Bool
has_no_room file = nat_lt most_paras (needed_paras file)

-- the place in the image which the relocation at an address of the file names: an offset, and a segment after it
abbrev pub relocation_target : List ℕ → ℕ → ℕ
relocation_target file at = PARAGRAPH_SIZE * word_of file (at + 2) + word_of file at

-- one of n relocations from an address on names a word beyond a limit
unfoldable pub some_beyond : List ℕ → ℕ → ℕ → ℕ → Bool
some_beyond file limit at zero = false
some_beyond file limit at (suc n) =
    nat_lt limit (relocation_target file at + 2) || some_beyond file limit (at + 4) n

-- a relocation lies outside the program block
abbrev pub has_bad_target : List ℕ → Bool
has_bad_target file =
    some_beyond file (PARAGRAPH_SIZE * (block_paras file - psp_paras)) (relocation_table file) (relocations file)

-- where the first instruction is: CS, and its linear address
abbrev pub first_segment : List ℕ → ℕ
first_segment file = (IMAGE_SEGMENT + word_of file 0x16) % 0x10000

abbrev pub entry_address : List ℕ → ℕ
entry_address file = PARAGRAPH_SIZE * first_segment file + word_of file 0x14

-- it lies outside the program block
abbrev pub has_bad_entry : List ℕ → Bool
has_bad_entry file =
    nat_lt (entry_address file) (PARAGRAPH_SIZE * PSP_SEGMENT)
    || nat_le (PARAGRAPH_SIZE * (PSP_SEGMENT + block_paras file)) (entry_address file)

-- the first reason
unfoldable pub refusal : List ℕ → Option LoadFault
refusal file =
    if is_short file then Some ShortHeader else
    if lacks_signature file then Some Signature else
    if has_bad_pages file then Some LastPage else
    if has_bad_table file then Some RelocTable else
    if has_no_room file then Some NoRoom else
    if has_bad_target file then Some RelocTarget else
    if has_bad_entry file then Some EntryOutside else
    None
