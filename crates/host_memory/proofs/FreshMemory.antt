-- The writes of a new memory, one after the other, and what they leave: its tables, its megabyte, the list of free frames, and zeros
-- elsewhere.
use Rattle.std.proofs.Common.{◌≡◌, ℕ, ◌+◌, ◌*◌, ◌<◌, ◌≤◌, inl, inr, List, length, slice_index, refl, ap, ◌∙◌, sym, arith, below_more}
use Rattle.std.proofs.{Common.{add_assoc, zero-add, ◌-◌, ◌/◌, ◌%◌, ◌⊎◌, zero, suc, nat_eq, if◌then◌else◌}, lemmas.Bool.{cases_lt, lt-ltb}}
use Rattle.std.proofs.{lemmas.Bool.{le-ltb}, lemmas.Grind.{same_number_lists}}
use Rattle.guest_ram.specs.{Bytes.{dword, dword_bytes, put, region}, Listed.{listed, copies}, declared.ram.TheConstants.{FRAME_SIZE}}
use Rattle.guest_ram.proofs.PutLaws.{dword_back, length-put, put_away, put_within, same_dword, put_below, put_above, length-region}
use Rattle.guest_ram.proofs.{PutLaws.{at_region, same_region, region-put}, ListedLaws.{length-listed, at_listed, length-copies, at_copies}}
use Rattle.host_memory.specs.{Filling.{Written, real_vector_at, vector_half_at}, declared.blank.TheConstants.{VECTOR_HALVES}}
use Rattle.host_memory.specs.{Blank.{plain_byte, vector_byte, blank_megabyte}, DosList.{entry_bytes, entry_size}, Headers.{dos_header}}
use Rattle.host_memory.specs.{Layout.{dos_part}, Tables.{directory_entry_at, low_entry_at, window_entry_at}}
use Rattle.client_world.specs.{declared.dos_memory.DosEntry.{DosEntry}, declared.dos_memory.DosState.TheVariants.{Free}}
use Rattle.client_world.specs.declared.host_frames.TheConstants.{PAGE_SIZE, PAGE_DIRECTORY, LOW_TABLE, WINDOW_TABLE, BLOCK_TABLES, VECTORS}
use Rattle.client_world.specs.declared.host_frames.TheConstants.{DOS_LIST, BUDGET_FRAMES, PAGE_ENTRY_SIZE, TABLE_ENTRIES}
use Rattle.client_world.specs.declared.limits.TheConstants.{INTERRUPT_VECTORS, MAX_PAGES}
use Rattle.client_world.specs.declared.memory_map.TheConstants.{PARAGRAPH_SIZE, DOS_SIZE, VECTOR_TABLE_SIZE, ROM_START, ROM_BYTE}
use Rattle.client_world.specs.declared.memory_map.TheConstants.{ARENA_START, ARENA_END}
use Rattle.page_tables.specs.{FreeList.{HasFreeList}, declared.budget.TheConstants.{FREE_LIST_HEAD}}
use Rattle.page_tables.proofs.FreeFrames.{same_free_list}

pub none_written : (f : ℕ → ℕ) (from : ℕ) (b : List ℕ) → Written f from 0 b b
none_written f from b = record { size = refl; each = λ k at none small. absurd (omega arith); others = λ at away. refl }

pub one_written : (f : ℕ → ℕ) (from k v place : ℕ) (b c : List ℕ) → Written f from k b c → place ≡ from + 4 * k →
    place + 4 ≤ length c → v ≡ f k → Written f from (k + 1) b (put c place (dword_bytes v))
one_written f from k v place b c w at_place room e = record {
  size = length-put c place (dword_bytes v) ∙ w.size;
  each = each;
  others = λ at away. elim away [
    | inl below ↦ put_away c place (dword_bytes v) at (inr (omega arith)) ∙ w.others at (inl below)
    | inr above ↦ put_away c place (dword_bytes v) at (inl (omega arith)) ∙ w.others at (inr (omega arith))
  ];
}
  where
    here : (at : ℕ) → at < 4 → slice_index (put c place (dword_bytes v)) (from + (4 * k + at)) ≡ slice_index (dword_bytes (f k)) at
    here at small =
        put_within c place (dword_bytes v) at (from + (4 * k + at)) room small (omega arith)
        ∙ ap (λ (x : ℕ). slice_index (dword_bytes x) at) e

    each : (j at : ℕ) → j < k + 1 → at < 4 → slice_index (put c place (dword_bytes v)) (from + (4 * j + at))
        ≡ slice_index (dword_bytes (f j)) at
    each j at within small =
        below_more (λ (i : ℕ). slice_index (put c place (dword_bytes v)) (from + (4 * i + at)) ≡ slice_index (dword_bytes (f i)) at) k
        (λ i below. put_away c place (dword_bytes v) (from + (4 * i + at)) (inr (omega arith)) ∙ w.each i at below small)
        (here at small) j within

-- four bytes that are a doubleword's are that doubleword
pub dword_is : (b : List ℕ) (p v : ℕ) → ((at : ℕ) → at < 4 → slice_index b (p + at) ≡ slice_index (dword_bytes v) at) → dword b p ≡ v
dword_is b p v h =
    same_dword b (dword_bytes v) p 0 (λ at small. h at small ∙ ap (λ (k : ℕ). slice_index (dword_bytes v) k) (sym (zero-add at)))
    ∙ dword_back v

-- a table that was written holds each doubleword
pub written_dword : (f : ℕ → ℕ) (from count k : ℕ) (b c : List ℕ) → Written f from count b c → k < count → dword c (from + 4 * k) ≡ f k
written_dword f from count k b c w small = dword_is c (from + 4 * k) (f k) (λ at within.
    ap (λ (p : ℕ). slice_index c p) (add_assoc from (4 * k) at) ∙ w.each k at small within)

-- the one entry of DOS memory
abbrev pub whole_arena : DosEntry
whole_arena = record { at = ARENA_START; paras = ARENA_END - ARENA_START - 1; state = Free }

-- the writes into zeros in which the free frames are linked; of the two runs of bytes that are put, what they are
pub record Fresh (budget : ℕ) (header row b0 b1 b2 b3 b4 b5 b6 b7 b8 : List ℕ) : Type 0 where
  pub header_is : header ≡ dos_header 0x5A whole_arena
  pub row_is : row ≡ entry_bytes whole_arena
  pub size : length b0 ≡ (BUDGET_FRAMES + budget) * FRAME_SIZE
  pub zero : (at : ℕ) → at < PAGE_SIZE * BUDGET_FRAMES → (at < FREE_LIST_HEAD) ⊎ (FREE_LIST_HEAD + 4 ≤ at) → slice_index b0 at ≡ 0
  pub free : HasFreeList b0
  pub few : budget ≤ MAX_PAGES
  pub rom : b1 ≡ put b0 ROM_START (copies (DOS_SIZE - ROM_START) ROM_BYTE)
  pub reals : Written real_vector_at 0 INTERRUPT_VECTORS b1 b2
  pub head : b3 ≡ put b2 (PARAGRAPH_SIZE * ARENA_START) header
  pub directory : Written directory_entry_at (PAGE_SIZE * PAGE_DIRECTORY) TABLE_ENTRIES b3 b4
  pub low : Written low_entry_at (PAGE_SIZE * LOW_TABLE) TABLE_ENTRIES b4 b5
  pub window : Written window_entry_at (PAGE_SIZE * WINDOW_TABLE) TABLE_ENTRIES b5 b6
  pub list : b7 ≡ put b6 (PAGE_SIZE * DOS_LIST) row
  pub vectors : Written vector_half_at (PAGE_SIZE * VECTORS) VECTOR_HALVES b7 b8

-- the bytes of a new memory
pub record IsBlank (b : List ℕ) (budget : ℕ) : Type 0 where
  pub size : length b ≡ PAGE_SIZE * (BUDGET_FRAMES + budget)
  pub megabyte : dos_part b ≡ blank_megabyte
  pub directory : (k : ℕ) → k < TABLE_ENTRIES → dword b (PAGE_SIZE * PAGE_DIRECTORY + PAGE_ENTRY_SIZE * k) ≡ directory_entry_at k
  pub low : (k : ℕ) → k < TABLE_ENTRIES → dword b (PAGE_SIZE * LOW_TABLE + PAGE_ENTRY_SIZE * k) ≡ low_entry_at k
  pub window : (k : ℕ) → k < TABLE_ENTRIES → dword b (PAGE_SIZE * WINDOW_TABLE + PAGE_ENTRY_SIZE * k) ≡ window_entry_at k
  pub list : (at : ℕ) → at < entry_size → slice_index b (PAGE_SIZE * DOS_LIST + at) ≡ slice_index (entry_bytes whole_arena) at
  pub vectors : (k at : ℕ) → k < VECTOR_HALVES → at < 4 →
      slice_index b (PAGE_SIZE * VECTORS + (4 * k + at)) ≡ slice_index (dword_bytes (vector_half_at k)) at
  pub zeros : (at : ℕ) → PAGE_SIZE * BLOCK_TABLES ≤ at → at < PAGE_SIZE * BUDGET_FRAMES →
      (at < PAGE_SIZE * VECTORS) ⊎ (PAGE_SIZE * VECTORS + 4 * VECTOR_HALVES ≤ at) →
      (at < PAGE_SIZE * DOS_LIST) ⊎ (PAGE_SIZE * DOS_LIST + entry_size ≤ at) → (at < FREE_LIST_HEAD) ⊎ (FREE_LIST_HEAD + 4 ≤ at) →
      slice_index b at ≡ 0
  pub free : HasFreeList b

length-header : (header : List ℕ) → header ≡ dos_header 0x5A whole_arena → length header ≡ 16
unfolding dos_header
length-header header e = ap length e

-- the real vectors, byte by byte
real_byte : (n r : ℕ) → n < INTERRUPT_VECTORS → r < 4 →
    slice_index (dword_bytes (real_vector_at n)) r ≡ (if nat_eq r 0 then n else if nat_eq r 3 then 0xF0 else 0)
real_byte n zero small within = omega arith
real_byte n (suc zero) small within = omega arith
real_byte n (suc (suc zero)) small within = omega arith
real_byte n (suc (suc (suc zero))) small within = omega arith
real_byte n (suc (suc (suc (suc r)))) small within = absurd (omega arith)

-- the three ranges of a plain byte
pub plain_vector : (k : ℕ) → k < VECTOR_TABLE_SIZE → plain_byte k ≡ vector_byte k
plain_vector k small = rw (lt-ltb k VECTOR_TABLE_SIZE small)

pub plain_zero : (k : ℕ) → VECTOR_TABLE_SIZE ≤ k → k < ROM_START → plain_byte k ≡ 0
plain_zero k from to = rw (le-ltb k VECTOR_TABLE_SIZE from, lt-ltb k ROM_START to)

pub plain_rom : (k : ℕ) → ROM_START ≤ k → plain_byte k ≡ ROM_BYTE
plain_rom k from = let past : VECTOR_TABLE_SIZE ≤ k = omega arith in rw (le-ltb k VECTOR_TABLE_SIZE past, le-ltb k ROM_START from)

-- a memory of zeros with read-only memory and the real vectors
vectors_and_rom : (b0 b1 b2 : List ℕ) → DOS_SIZE ≤ length b0 → ((at : ℕ) → at < DOS_SIZE → slice_index b0 at ≡ 0) →
    b1 ≡ put b0 ROM_START (copies (DOS_SIZE - ROM_START) ROM_BYTE) → Written real_vector_at 0 INTERRUPT_VECTORS b1 b2 →
    (k : ℕ) → k < DOS_SIZE → slice_index b2 k ≡ plain_byte k
vectors_and_rom b0 b1 b2 room blank rom reals k small = elim (cases_lt k VECTOR_TABLE_SIZE) [
  | inl vector ↦
      ap (λ (p : ℕ). slice_index b2 p) (let e : k ≡ 0 + (4 * (k / 4) + k % 4) = omega arith in e)
      ∙ reals.each (k / 4) (k % 4) (omega arith) (omega arith)
      ∙ real_byte (k / 4) (k % 4) (omega arith) (omega arith)
      ∙ sym (plain_vector k vector)
  | inr past ↦ reals.others k (inr (omega arith)) ∙ ap (λ (b : List ℕ). slice_index b k) rom ∙ elim (cases_lt k ROM_START) [
    | inl below ↦ put_below b0 ROM_START (copies (DOS_SIZE - ROM_START) ROM_BYTE) k below ∙ blank k small ∙ sym (plain_zero k past below)
    | inr inside ↦
        put_within b0 ROM_START (copies (DOS_SIZE - ROM_START) ROM_BYTE) (k - ROM_START) k
        (let long = length-copies (DOS_SIZE - ROM_START) ROM_BYTE in omega arith)
        (let long = length-copies (DOS_SIZE - ROM_START) ROM_BYTE in omega arith) (omega arith)
        ∙ at_copies (DOS_SIZE - ROM_START) ROM_BYTE (k - ROM_START) (omega arith) ∙ sym (plain_rom k inside)
  ]
]

-- with the header of DOS memory it is the megabyte of a new memory
with_header : (header b2 b3 : List ℕ) → header ≡ dos_header 0x5A whole_arena → DOS_SIZE ≤ length b2 →
    ((k : ℕ) → k < DOS_SIZE → slice_index b2 k ≡ plain_byte k) → b3 ≡ put b2 (PARAGRAPH_SIZE * ARENA_START) header →
    dos_part b3 ≡ blank_megabyte
unfolding blank_megabyte
with_header header b2 b3 header_is room each e = grind (arith, length-header, plain, region-put)
  where
    plain : region b2 0 DOS_SIZE ≡ listed DOS_SIZE plain_byte
    plain = grind (arith, at_listed, at_region, length-listed, length-region, same_number_lists, zero-add)

-- the writes leave the bytes of a new memory
pub is_blank : (budget : ℕ) (header row b0 b1 b2 b3 b4 b5 b6 b7 b8 : List ℕ) → Fresh budget header row b0 b1 b2 b3 b4 b5 b6 b7 b8 →
    IsBlank b8 budget
is_blank budget header row b0 b1 b2 b3 b4 b5 b6 b7 b8 w = record {
  size = at_end ∙ at_tables ∙ at_head ∙ before ∙ w.size ∙ omega arith;
  megabyte =
      same_region b8 b3 0 DOS_SIZE (at_end ∙ at_tables)
      (let e = at_end ∙ at_tables ∙ at_head ∙ before in let size = w.size in omega arith)
      (λ at from to. in_megabyte at (omega arith))
      ∙ with_header header b2 b3 w.header_is (let e = before in let size = w.size in omega arith)
      (vectors_and_rom b0 b1 b2 (let room = w.size in omega arith) (λ at low. w.zero at (omega arith) (inl (omega arith))) w.rom w.reals)
      w.head;
  directory = λ k small.
      same_dword b8 b4 (PAGE_SIZE * PAGE_DIRECTORY + 4 * k) (PAGE_SIZE * PAGE_DIRECTORY + 4 * k) (grind (arith, late))
      ∙ written_dword directory_entry_at (PAGE_SIZE * PAGE_DIRECTORY) TABLE_ENTRIES k b3 b4 w.directory small;
  low = λ k small.
      same_dword b8 b5 (PAGE_SIZE * LOW_TABLE + 4 * k) (PAGE_SIZE * LOW_TABLE + 4 * k) (grind (arith, late))
      ∙ written_dword low_entry_at (PAGE_SIZE * LOW_TABLE) TABLE_ENTRIES k b4 b5 w.low small;
  window = λ k small.
      same_dword b8 b6 (PAGE_SIZE * WINDOW_TABLE + 4 * k) (PAGE_SIZE * WINDOW_TABLE + 4 * k) (λ at within.
      late (PAGE_SIZE * WINDOW_TABLE + 4 * k + at) (inl (omega arith)) (inl (omega arith)))
      ∙ written_dword window_entry_at (PAGE_SIZE * WINDOW_TABLE) TABLE_ENTRIES k b5 b6 w.window small;
  list = λ at small.
      w.vectors.others (PAGE_SIZE * DOS_LIST + at) (inr (omega arith))
      ∙ ap (λ (b : List ℕ). slice_index b (PAGE_SIZE * DOS_LIST + at)) w.list
      ∙ put_within b6 (PAGE_SIZE * DOS_LIST) row at (PAGE_SIZE * DOS_LIST + at)
      (let e = at_tables ∙ at_head ∙ before in let size = w.size in let long = long_row in omega arith)
      (let long = long_row in omega arith) refl
      ∙ ap (λ (run : List ℕ). slice_index run at) w.row_is;
  vectors = w.vectors.each;
  zeros = λ at from to no_vector no_list no_head. kept at from no_vector no_list ∙ w.zero at to no_head;
  free = (grind (arith, at_end, at_head, at_tables, before, kept, same_dword, same_free_list));
}
  where
    long_row : length row ≡ 8
    long_row = ap length w.row_is

    long_header : length header ≡ 16
    long_header = length-header header w.header_is

    before : length b2 ≡ length b0
    before = w.reals.size ∙ ap length w.rom ∙ length-put b0 ROM_START (copies (DOS_SIZE - ROM_START) ROM_BYTE)

    at_head : length b3 ≡ length b2
    at_head = ap length w.head ∙ length-put b2 (PARAGRAPH_SIZE * ARENA_START) header

    at_tables : length b6 ≡ length b3
    at_tables = w.window.size ∙ w.low.size ∙ w.directory.size

    at_end : length b8 ≡ length b6
    at_end = w.vectors.size ∙ ap length w.list ∙ length-put b6 (PAGE_SIZE * DOS_LIST) row

    -- what the last two writes leave
    late : (at : ℕ) → (at < PAGE_SIZE * VECTORS) ⊎ (PAGE_SIZE * VECTORS + 4 * VECTOR_HALVES ≤ at) →
        (at < PAGE_SIZE * DOS_LIST) ⊎ (PAGE_SIZE * DOS_LIST + entry_size ≤ at) → slice_index b8 at ≡ slice_index b6 at
    late at no_vector no_list = grind (arith, long_row, put_away)

    -- and what all writes leave
    kept : (at : ℕ) → PAGE_SIZE * BLOCK_TABLES ≤ at → (at < PAGE_SIZE * VECTORS) ⊎ (PAGE_SIZE * VECTORS + 4 * VECTOR_HALVES ≤ at) →
        (at < PAGE_SIZE * DOS_LIST) ⊎ (PAGE_SIZE * DOS_LIST + entry_size ≤ at) → slice_index b8 at ≡ slice_index b0 at
    kept at from no_vector no_list = grind (arith, late, length-copies, long_header, put_above)

    in_megabyte : (at : ℕ) → at < DOS_SIZE → slice_index b8 at ≡ slice_index b3 at
    in_megabyte at small = grind (arith, late)
