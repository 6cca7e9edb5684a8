-- The parts of a new memory: most are zeros, the vectors lead to the host, and the list of DOS memory has one entry.
use Rattle.std.proofs.Common.{◌≡◌, ℕ, ◌+◌, ◌-◌, ◌*◌, ◌%◌, ◌<◌, ◌≤◌, ◌⊎◌, inl, inr, zero, suc, List, length, slice_index, None, refl, ap}
use Rattle.std.proofs.{Common.{◌∙◌, sym, arith, zero-add}, lemmas.Bool.{cases_lt}, lemmas.List.{get_or_past}}
use Rattle.client_world.specs.{declared.limits.TheConstants.{EXCEPTION_VECTORS, INTERRUPT_VECTORS}, declared.segments.FarPtr.{FarPtr}}
use Rattle.client_world.specs.declared.host_frames.TheConstants.{PAGE_SIZE, BLOCK_TABLES, DESCRIPTOR_ROWS, VECTORS, RECORDS, BLOCK_ROWS}
use Rattle.client_world.specs.declared.host_frames.TheConstants.{LOCK_COUNTS, DOS_LIST, TAKEN_FRAMES, BLOCK_ROW_FRAMES, BLOCK_ROW_SIZE}
use Rattle.client_world.specs.declared.host_frames.TheConstants.{BLOCK_TABLE_FRAMES, DESCRIPTOR_ROW_FRAMES, DOS_LIST_FRAMES}
use Rattle.client_world.specs.declared.host_frames.TheConstants.{LOCK_COUNT_FRAMES, LOCK_COUNT_SIZE, PAGE_ENTRY_SIZE, RECORD_FRAMES}
use Rattle.client_world.specs.declared.host_frames.TheConstants.{TAKEN_BYTE_FRAMES, VECTOR_FRAMES, VECTOR_SIZE, CALLBACK_SIZE}
use Rattle.client_world.specs.{declared.host_frames.TheConstants.{DESCRIPTOR_ROW_SIZE}, declared.selectors.TheConstants.{HOST_CODE}}
use Rattle.client_world.specs.Selector.{selector_of}
use Rattle.guest_ram.specs.{Bytes.{dword, dword_bytes, region, word_of}, Listed.{zeros}}
use Rattle.guest_ram.proofs.{PutLaws.{length-region, at_region}, ListedLaws.{at_zeros}}
use Rattle.page_tables.proofs.HostDirectory.{dword_zero}
use Rattle.desc_table.specs.Rows.{row_at, row_bytes}
use Rattle.desc_table.proofs.RowLaws.{same_row, row_at-row_bytes}
use Rattle.host_memory.specs.{declared.blank.TheConstants.{VECTOR_HALVES}, DosList.{entry_bytes, entry_size}, Filling.{vector_half_at}}
use Rattle.host_memory.specs.Layout.{tables_part, rows_part, vectors_part, records_part, handles_part, locks_part, arena_part, taken_part}
use Rattle.host_memory.specs.{Layout.{entry_of, pages_of, lock_of}, Vectors.{pointer_at, vector_bytes, callback_at, callback_bytes}}
use Rattle.host_memory.specs.Vectors.{callbacks_start, head_start, head_end}
use Rattle.host_memory.proofs.FreshMemory.{dword_is, IsBlank, whole_arena}

-- a part in which all bytes are zero reads as zero everywhere
zero_part : (b : List ℕ) (from n : ℕ) → from + n ≤ length b → ((at : ℕ) → from ≤ at → at < from + n → slice_index b at ≡ 0) →
    (at : ℕ) → slice_index (region b from n) at ≡ 0
zero_part b from n room h at = grind (arith, at_region, get_or_past, length-region)

pub tables_zero : (b : List ℕ) (budget : ℕ) → IsBlank b budget → (at : ℕ) → slice_index (tables_part b) at ≡ 0
tables_zero b budget h = zero_part b (PAGE_SIZE * BLOCK_TABLES) (PAGE_SIZE * BLOCK_TABLE_FRAMES) (let size = h.size in omega arith)
    (λ at from to. h.zeros at (omega arith) (omega arith) (inl (omega arith)) (inl (omega arith)) (inl (omega arith)))

pub rows_zero : (b : List ℕ) (budget : ℕ) → IsBlank b budget → (at : ℕ) → slice_index (rows_part b) at ≡ 0
rows_zero b budget h = zero_part b (PAGE_SIZE * DESCRIPTOR_ROWS) (PAGE_SIZE * DESCRIPTOR_ROW_FRAMES) (let size = h.size in omega arith)
    (λ at from to. h.zeros at (omega arith) (omega arith) (inl (omega arith)) (inl (omega arith)) (inl (omega arith)))

pub records_zero : (b : List ℕ) (budget : ℕ) → IsBlank b budget → (at : ℕ) → slice_index (records_part b) at ≡ 0
records_zero b budget h = zero_part b (PAGE_SIZE * RECORDS) (PAGE_SIZE * RECORD_FRAMES) (let size = h.size in omega arith)
    (λ at from to. h.zeros at (omega arith) (omega arith) (inr (omega arith)) (inl (omega arith)) (inr (omega arith)))

pub handles_zero : (b : List ℕ) (budget : ℕ) → IsBlank b budget → (at : ℕ) → slice_index (handles_part b) at ≡ 0
handles_zero b budget h = zero_part b (PAGE_SIZE * BLOCK_ROWS) (PAGE_SIZE * BLOCK_ROW_FRAMES) (let size = h.size in omega arith)
    (λ at from to. h.zeros at (omega arith) (omega arith) (inr (omega arith)) (inl (omega arith)) (inr (omega arith)))

pub locks_zero : (b : List ℕ) (budget : ℕ) → IsBlank b budget → (at : ℕ) → slice_index (locks_part b) at ≡ 0
locks_zero b budget h = zero_part b (PAGE_SIZE * LOCK_COUNTS) (PAGE_SIZE * LOCK_COUNT_FRAMES) (let size = h.size in omega arith)
    (λ at from to. h.zeros at (omega arith) (omega arith) (inr (omega arith)) (inl (omega arith)) (inr (omega arith)))

pub taken_zero : (b : List ℕ) (budget : ℕ) → IsBlank b budget → (at : ℕ) → slice_index (taken_part b) at ≡ 0
taken_zero b budget h = zero_part b (PAGE_SIZE * TAKEN_FRAMES) (PAGE_SIZE * TAKEN_BYTE_FRAMES) (let size = h.size in omega arith)
    (λ at from to. h.zeros at (omega arith) (omega arith) (inr (omega arith)) (inr (omega arith)) (inr (omega arith)))

pub no_entry : (b : List ℕ) (budget : ℕ) → IsBlank b budget → (page : ℕ) → entry_of (tables_part b) page ≡ 0
no_entry b budget h page =
    dword_zero (tables_part b) (PAGE_ENTRY_SIZE * page) (λ at small. tables_zero b budget h (PAGE_ENTRY_SIZE * page + at))

pub no_pages : (b : List ℕ) (budget : ℕ) → IsBlank b budget → (place : ℕ) → pages_of (handles_part b) place ≡ 0
no_pages b budget h place =
    dword_zero (handles_part b) (BLOCK_ROW_SIZE * place + 4) (λ at small. handles_zero b budget h (BLOCK_ROW_SIZE * place + 4 + at))

pub no_lock : (b : List ℕ) (budget : ℕ) → IsBlank b budget → (page : ℕ) → lock_of (locks_part b) page ≡ 0
no_lock b budget h page =
    let low = locks_zero b budget h (LOCK_COUNT_SIZE * page) in
    let high = locks_zero b budget h (LOCK_COUNT_SIZE * page + 1) in
    omega arith

-- the bytes of a free row
none_is_zeros : row_bytes None ≡ zeros DESCRIPTOR_ROW_SIZE
unfolding row_bytes zeros
none_is_zeros = refl

pub free_row_byte : (at : ℕ) → at < DESCRIPTOR_ROW_SIZE → slice_index (row_bytes None) at ≡ 0
free_row_byte at small = ap (λ (run : List ℕ). slice_index run at) none_is_zeros ∙ at_zeros DESCRIPTOR_ROW_SIZE at small

pub no_row : (b : List ℕ) (budget : ℕ) → IsBlank b budget → (at : ℕ) → row_at (rows_part b) at ≡ None
no_row b budget h at =
    same_row (rows_part b) (row_bytes None) at 0 (λ i small.
    rows_zero b budget h (at + i) ∙ sym (ap (λ (k : ℕ). slice_index (row_bytes None) k) (zero-add i) ∙ free_row_byte i small))
    ∙ row_at-row_bytes None tt

-- the vectors: each is an offset after 200h in the segment of the host's code
abbrev pub vector_of : ℕ → FarPtr
vector_of offset = record { sel = selector_of HOST_CODE; off = offset }

even_half : (n : ℕ) → vector_half_at (2 * n) ≡ 0x200 + n
even_half n = grind arith

odd_half : (n : ℕ) → vector_half_at (2 * n + 1) ≡ selector_of HOST_CODE
odd_half n = let odd : (2 * n + 1) % 2 ≡ 1 = omega arith in rw odd refl

half_byte : (b : List ℕ) (budget : ℕ) → IsBlank b budget → (k at : ℕ) → k < VECTOR_HALVES → at < 4 →
    slice_index (vectors_part b) (4 * k + at) ≡ slice_index (dword_bytes (vector_half_at k)) at
half_byte b budget h k at small within =
    at_region b (PAGE_SIZE * VECTORS) (PAGE_SIZE * VECTOR_FRAMES) (4 * k + at) (omega arith) ∙ h.vectors k at small within

offset_byte : (b : List ℕ) (budget : ℕ) → IsBlank b budget → (n at : ℕ) → n < INTERRUPT_VECTORS + EXCEPTION_VECTORS → at < 4 →
    slice_index (vectors_part b) (VECTOR_SIZE * n + at) ≡ slice_index (dword_bytes (0x200 + n)) at
offset_byte b budget h n at small within =
    ap (λ (p : ℕ). slice_index (vectors_part b) p) (let e : VECTOR_SIZE * n + at ≡ 4 * (2 * n) + at = omega arith in e)
    ∙ half_byte b budget h (2 * n) at (omega arith) within
    ∙ ap (λ (v : ℕ). slice_index (dword_bytes v) at) (even_half n)

selector_byte : (b : List ℕ) (budget : ℕ) → IsBlank b budget → (n at p : ℕ) → n < INTERRUPT_VECTORS + EXCEPTION_VECTORS → at < 4 →
    p ≡ VECTOR_SIZE * n + 4 + at → slice_index (vectors_part b) p ≡ slice_index (dword_bytes (selector_of HOST_CODE)) at
selector_byte b budget h n at p small within e =
    ap (λ (q : ℕ). slice_index (vectors_part b) q) (let f : p ≡ 4 * (2 * n + 1) + at = omega arith in f)
    ∙ half_byte b budget h (2 * n + 1) at (omega arith) within
    ∙ ap (λ (v : ℕ). slice_index (dword_bytes v) at) (odd_half n)

same_pointer : (part : List ℕ) (at offset : ℕ) → dword part at ≡ offset → word_of part (at + 4) ≡ selector_of HOST_CODE →
    pointer_at part at ≡ vector_of offset
same_pointer part at offset e f = rw (e, f) refl

pub vector_is : (b : List ℕ) (budget : ℕ) → IsBlank b budget → (n : ℕ) → n < INTERRUPT_VECTORS + EXCEPTION_VECTORS →
    pointer_at (vectors_part b) (VECTOR_SIZE * n) ≡ vector_of (0x200 + n)
vector_is b budget h n small =
    same_pointer (vectors_part b) (VECTOR_SIZE * n) (0x200 + n)
    (dword_is (vectors_part b) (VECTOR_SIZE * n) (0x200 + n) (λ at within. offset_byte b budget h n at small within))
    (let low = selector_byte b budget h n 0 (VECTOR_SIZE * n + 4) small (omega arith) (omega arith) in
    let high = selector_byte b budget h n 1 (VECTOR_SIZE * n + 4 + 1) small (omega arith) (omega arith) in omega arith)

-- the first four bytes of a vector are its offset's, the others the selector's
front_bytes : (offset at : ℕ) → at < 4 → slice_index (dword_bytes offset) at ≡ slice_index (vector_bytes (vector_of offset)) at
front_bytes offset zero small = refl
front_bytes offset (suc zero) small = refl
front_bytes offset (suc (suc zero)) small = refl
front_bytes offset (suc (suc (suc zero))) small = refl
front_bytes offset (suc (suc (suc (suc at)))) small = absurd (omega arith)

back_bytes : (offset at : ℕ) → at < 4 → slice_index (dword_bytes (selector_of HOST_CODE)) at
    ≡ slice_index (vector_bytes (vector_of offset)) (4 + at)
back_bytes offset zero small = refl
back_bytes offset (suc zero) small = refl
back_bytes offset (suc (suc zero)) small = refl
back_bytes offset (suc (suc (suc zero))) small = refl
back_bytes offset (suc (suc (suc (suc at)))) small = absurd (omega arith)

pub vector_byte_is : (b : List ℕ) (budget : ℕ) → IsBlank b budget → (n at : ℕ) → n < INTERRUPT_VECTORS + EXCEPTION_VECTORS →
    at < VECTOR_SIZE →
    slice_index (vectors_part b) (VECTOR_SIZE * n + at) ≡ slice_index (vector_bytes (pointer_at (vectors_part b) (VECTOR_SIZE * n))) at
vector_byte_is b budget h n at small within =
    elim (cases_lt at 4) [
      | inl low ↦ offset_byte b budget h n at small low ∙ front_bytes (0x200 + n) at low
      | inr high ↦
          selector_byte b budget h n (at - 4) (VECTOR_SIZE * n + at) small (omega arith) (omega arith)
          ∙ back_bytes (0x200 + n) (at - 4) (omega arith)
          ∙ ap (λ (k : ℕ). slice_index (vector_bytes (vector_of (0x200 + n))) k) (let e : 4 + (at - 4) ≡ at = omega arith in e)
    ]
    ∙ ap (λ (p : FarPtr). slice_index (vector_bytes p) at) (sym (vector_is b budget h n small))

-- after the vectors their frame is zero, but for the head of the list of free frames
pub rest_zero : (b : List ℕ) (budget : ℕ) → IsBlank b budget → (at : ℕ) → callbacks_start ≤ at → at < PAGE_SIZE * VECTOR_FRAMES →
    (at < head_start) ⊎ (head_end ≤ at) → slice_index (vectors_part b) at ≡ 0
rest_zero b budget h at from within away = grind (arith, at_region)

free_callback : (part : List ℕ) (at : ℕ) → slice_index part (at + 12) ≡ 0 → callback_at part at ≡ None
unfolding callback_at
free_callback part at e = rw e refl

pub no_callback : (b : List ℕ) (budget : ℕ) → IsBlank b budget → (at : ℕ) → callbacks_start ≤ at → at + CALLBACK_SIZE ≤ head_start →
    callback_at (vectors_part b) at ≡ None
no_callback b budget h at from room =
    free_callback (vectors_part b) at (rest_zero b budget h (at + 12) (omega arith) (omega arith) (inl (omega arith)))

no_callback_is_zeros : callback_bytes None ≡ zeros CALLBACK_SIZE
unfolding callback_bytes zeros
no_callback_is_zeros = refl

pub free_callback_byte : (at : ℕ) → at < CALLBACK_SIZE → slice_index (callback_bytes None) at ≡ 0
free_callback_byte at small = ap (λ (run : List ℕ). slice_index run at) no_callback_is_zeros ∙ at_zeros CALLBACK_SIZE at small

-- the list of DOS memory
pub arena_byte : (b : List ℕ) (budget : ℕ) → IsBlank b budget → (at : ℕ) → at < entry_size →
    slice_index (arena_part b) at ≡ slice_index (entry_bytes whole_arena) at
arena_byte b budget h at small = at_region b (PAGE_SIZE * DOS_LIST) (PAGE_SIZE * DOS_LIST_FRAMES) at (omega arith) ∙ h.list at small

pub arena_zero : (b : List ℕ) (budget : ℕ) → IsBlank b budget → (at : ℕ) → entry_size ≤ at → slice_index (arena_part b) at ≡ 0
arena_zero b budget h at from = grind (arith, at_region, get_or_past, length-region)
