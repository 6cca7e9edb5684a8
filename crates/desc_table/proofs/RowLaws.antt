-- Rows of the descriptor table, read back from their bytes.
use Rattle.std.proofs.Common.{◌≡◌, ℕ, ◌+◌, ◌*◌, List, drop, slice_index, arith, ◌≢◌, ◌≤◌, ◌<◌, ◌/◌, ◌%◌, ◌^◌, ◌⊎◌, inl, inr, [], ◌∷◌, ◌++◌}
use Rattle.std.proofs.Common.{length, get_or, set, Some, None, refl, ap, ◌∙◌, sym, zero-add, add-zero, add_assoc}
use Rattle.std.proofs.{lemmas.List.{get_or-drop, get_or_append_left}, lemmas.Bool.{cases_lt}}
use Rattle.byteorder.specs.Endian.{little_number}
use Rattle.client_world.specs.{declared.descriptors.Desc.{Desc}, declared.descriptors.Origin.{Origin}}
use Rattle.client_world.specs.{declared.descriptors.Origin.TheVariants.{Own, Low, Entry, Psp, Segment, Dos, Host}, Descriptor.{packed}}
use Rattle.client_world.specs.{declared.host_frames.TheConstants.{DESCRIPTORS, DESCRIPTOR_ROW_SIZE}, Selector.{Row, FitsRow}}
use Rattle.guest_ram.specs.Bytes.{put, word_of, region}
use Rattle.guest_ram.proofs.{ByteLists.{word_back}, PutLaws.{put_within, put_away, at_region}, ListedLaws.{length-listed, at_listed}}
use Rattle.guest_ram.proofs.ListedLaws.{same_listed, listed-set}
use Rattle.desc_table.specs.{Unpacked.{unpacked, described}, Rows.{row_at, row_bytes, rows_from, row_address, origin_of, origin_code}}
use Rattle.desc_table.specs.Rows.{origin_segment}
use Rattle.desc_table.proofs.PackedLaws.{unpacked-packed}

-- the number in the two bytes from the third on
pub third_word : (bytes : List ℕ) → little_number 2 (drop 2 bytes) ≡ slice_index bytes 2 + 0x100 * slice_index bytes 3
third_word bytes = omega (arith, get_or-drop 2 bytes 0 0, get_or-drop 2 bytes 1 0)

-- eight bytes that are the same are the same descriptor
pub same_unpacked : (b c : List ℕ) (p q : ℕ) → ((i : ℕ) → i < 8 → slice_index b (p + i) ≡ slice_index c (q + i)) →
    unpacked b p ≡ unpacked c q
unfolding unpacked described
same_unpacked b c p q same =
    let e0 : slice_index b p ≡ slice_index c q = rw (← add-zero p, ← add-zero q) (same 0 (omega arith)) in
    let e1 = same 1 (omega arith) in
    let e2 = same 2 (omega arith) in
    let e3 = same 3 (omega arith) in
    let e4 = same 4 (omega arith) in
    let e5 = same 5 (omega arith) in
    let e6 = same 6 (omega arith) in
    let e7 = same 7 (omega arith) in
    rw (e0, e1, e2, e3, e4, e5, e6, e7)

-- sixteen bytes that are the same are the same row
pub same_row : (b c : List ℕ) (p q : ℕ) → ((i : ℕ) → i < DESCRIPTOR_ROW_SIZE → slice_index b (p + i) ≡ slice_index c (q + i)) →
    row_at b p ≡ row_at c q
unfolding row_at
same_row b c p q same =
    let d : unpacked b p ≡ unpacked c q = same_unpacked b c p q (λ i small. same i (omega arith)) in
    let e8 : slice_index b (p + 8) ≡ slice_index c (q + 8) = same 8 (omega arith) in
    let e10 : slice_index b (p + 10) ≡ slice_index c (q + 10) = same 10 (omega arith) in
    let e11 : slice_index b (p + 10 + 1) ≡ slice_index c (q + 10 + 1) =
    rw (add_assoc p 10 1, add_assoc q 10 1) (same 11 (omega arith)) in
    rw (d, e8, e10, e11)

origin_back : (origin : Origin) → origin_of (origin_code origin) (origin_segment origin) ≡ Some origin
origin_back Own = refl
origin_back Low = refl
origin_back Entry = refl
origin_back Psp = refl
origin_back (Segment s) = refl
origin_back (Dos s) = refl
origin_back Host = refl

length-packed : (d : Desc) → length (packed d) ≡ 8
unfolding packed
length-packed d = refl

unpacked-front : (d : Desc) (rest : List ℕ) → unpacked (packed d ++ rest) 0 ≡ unpacked (packed d) 0
unpacked-front d rest = same_unpacked (packed d ++ rest) (packed d) 0 0 (λ i small.
    let within : 0 + i < length (packed d) = omega (arith, length-packed d) in
    get_or_append_left (packed d) rest 0 (0 + i) within)

-- the second half of a row
abbrev rest_of : Origin → List ℕ
rest_of origin = origin_code origin ∷ 0 ∷ origin_segment origin % 0x100 ∷ origin_segment origin / 0x100 ∷ 0 ∷ 0 ∷ 0 ∷ 0 ∷ []

origin-front : (d : Desc) (origin : Origin) →
    origin_of (slice_index (packed d ++ rest_of origin) 8) (word_of (packed d ++ rest_of origin) 10) ≡ Some origin
unfolding packed
origin-front d origin = rw word_back (origin_back origin)

none_back : row_at (row_bytes None) 0 ≡ None
unfolding row_at row_bytes unpacked
none_back = refl

some_back : (d : Desc) (origin : Origin) → d.limit < 2 ^ 20 → row_at (packed d ++ rest_of origin) 0 ≡ Some (d, origin)
unfolding row_at
some_back d origin small = rw (unpacked-front d (rest_of origin), unpacked-packed d small, origin-front d origin)

-- the bytes of a row are that row
pub row_at-row_bytes : (row : Row) → FitsRow row → row_at (row_bytes row) 0 ≡ row
unfolding row_bytes
row_at-row_bytes None fits = none_back
row_at-row_bytes (Some r) fits = some_back r.0 r.1 fits.limit

pub length-row_bytes : (row : Row) → length (row_bytes row) ≡ DESCRIPTOR_ROW_SIZE
unfolding row_bytes packed
length-row_bytes None = refl
length-row_bytes (Some r) = refl

-- a row that was put is there
pub row_at-put : (b : List ℕ) (at : ℕ) (row : Row) → FitsRow row → at + DESCRIPTOR_ROW_SIZE ≤ length b →
    row_at (put b at (row_bytes row)) at ≡ row
row_at-put b at row fits room =
    let long = length-row_bytes row in
    same_row (put b at (row_bytes row)) (row_bytes row) at 0 (λ i small.
    put_within b at (row_bytes row) i (at + i) (omega arith) (omega arith) refl
    ∙ ap (λ (k : ℕ). get_or (row_bytes row) k 0) (sym (zero-add i)))
    ∙ row_at-row_bytes row fits

-- a row beside it is as it was
pub row_at-put_away : (b : List ℕ) (at other : ℕ) (row : Row) → (at + DESCRIPTOR_ROW_SIZE ≤ other) ⊎ (other + DESCRIPTOR_ROW_SIZE ≤ at) →
    row_at (put b at (row_bytes row)) other ≡ row_at b other
row_at-put_away b at other row away =
    let long = length-row_bytes row in
    same_row (put b at (row_bytes row)) b other other (λ i small. put_away b at (row_bytes row) (other + i) (elim away [
      | inl above ↦ inl (omega arith)
      | inr below ↦ inr (omega arith)
    ]))

-- and so is the row at any other index
pub row_at-put_other : (b : List ℕ) (index other : ℕ) (row : Row) → other ≢ index →
    row_at (put b (row_address index) (row_bytes row)) (row_address other) ≡ row_at b (row_address other)
row_at-put_other b index other row ne = row_at-put_away b (row_address index) (row_address other) row (elim (cases_lt index other) [
  | inl below ↦ inl (omega arith)
  | inr above ↦ inr (omega arith)
])

-- a row of a region
pub row_at-region : (b : List ℕ) (from n at : ℕ) → at + DESCRIPTOR_ROW_SIZE ≤ n → row_at (region b from n) at ≡ row_at b (from + at)
row_at-region b from n at small = same_row (region b from n) b at (from + at) (λ i within.
    at_region b from n (at + i) (omega arith) ∙ ap (λ (k : ℕ). get_or b k 0) (sym (add_assoc from at i)))

-- the rows of a table

pub length-rows_from : (b : List ℕ) (at : ℕ) → length (rows_from b at) ≡ DESCRIPTORS
unfolding rows_from
length-rows_from b at = length-listed DESCRIPTORS (λ index. row_at b (at + DESCRIPTOR_ROW_SIZE * index))

pub at_rows_from : (b : List ℕ) (at index : ℕ) (or : Row) → index < DESCRIPTORS →
    get_or (rows_from b at) index or ≡ row_at b (at + DESCRIPTOR_ROW_SIZE * index)
unfolding rows_from
at_rows_from b at index or small = at_listed DESCRIPTORS (λ i. row_at b (at + DESCRIPTOR_ROW_SIZE * i)) index or small

-- a row that was put is the one that changes
pub rows_from-put : (b : List ℕ) (at index : ℕ) (row : Row) → FitsRow row → index < DESCRIPTORS →
    at + DESCRIPTOR_ROW_SIZE * DESCRIPTORS ≤ length b →
    rows_from (put b (at + DESCRIPTOR_ROW_SIZE * index) (row_bytes row)) at ≡ set (rows_from b at) index row
unfolding rows_from
rows_from-put b at index row fits small room =
    let place = at + DESCRIPTOR_ROW_SIZE * index in
    listed-set DESCRIPTORS (λ i. row_at b (at + DESCRIPTOR_ROW_SIZE * i))
    (λ i. row_at (put b place (row_bytes row)) (at + DESCRIPTOR_ROW_SIZE * i)) index row small
    (row_at-put b place row fits (omega arith))
    (λ other _ ne. row_at-put_away b place (at + DESCRIPTOR_ROW_SIZE * other) row (elim (cases_lt index other) [
      | inl below ↦ inl (omega arith)
      | inr above ↦ inr (omega arith)
    ]))

-- the rows of a region
pub rows_from-region : (b : List ℕ) (from n at : ℕ) → at + DESCRIPTOR_ROW_SIZE * DESCRIPTORS ≤ n →
    rows_from (region b from n) at ≡ rows_from b (from + at)
unfolding rows_from
rows_from-region b from n at room =
    same_listed DESCRIPTORS (λ i. row_at (region b from n) (at + DESCRIPTOR_ROW_SIZE * i))
    (λ i. row_at b (from + at + DESCRIPTOR_ROW_SIZE * i))
    (λ i small. row_at-region b from n (at + DESCRIPTOR_ROW_SIZE * i) (omega arith)
    ∙ ap (λ (k : ℕ). row_at b k) (sym (add_assoc from at (DESCRIPTOR_ROW_SIZE * i))))
