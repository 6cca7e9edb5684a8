-- A frame that holds some records: what is read from it, and the frame with one record more or one less; bytes that are the same hold the
-- same record.
use Rattle.std.proofs.Common.{◌≡◌, ℕ, ◌+◌, ◌<◌, ◌≤◌, List, get_or, refl, ap, ◌∙◌, sym, arith, add-zero, add_assoc, ◌≢◌, zero, suc, ◌-◌, ◌*◌}
use Rattle.std.proofs.{Common.{◌⊎◌, inl, inr, [], ◌∷◌, ◌++◌, length, take, zero-add, length-append}, lemmas.Bool.{cases_lt, eq-eqb, ne_eqb}}
use Rattle.std.proofs.lemmas.List.{length-take-le, get_or_append_left, get_or_at, get_or-take}
use Rattle.guest_ram.specs.{Bytes.{word_of, dword, put}, Listed.{zeros}}
use Rattle.guest_ram.proofs.{PutLaws.{same_dword, put_below, put_above, put_within}, ListedLaws.{at_listed, is_listed, length-zeros}}
use Rattle.guest_ram.proofs.ListedLaws.{at_zeros}
use Rattle.host_memory.specs.Records.{regs_at, record_at, record_size, record_bytes, record_count, records_from, calls_in, call_kind}
use Rattle.host_memory.specs.Records.{KeepsRecords}
use Rattle.client_world.specs.{declared.calls.Call.{Call}, declared.calls.Call.TheVariants.{Int, Far, Iret, Reflect}}
use Rattle.client_world.specs.{declared.calls.Record.{Record}, declared.calls.Record.TheVariants.{Sim, Back, Exc}}
use Rattle.client_world.specs.{declared.host_frames.TheConstants.{PAGE_SIZE, RECORD_FRAMES}, declared.limits.TheConstants.{GREATEST_DEPTH}}
use Rattle.host_memory.proofs.ListsClaim.{records_few, length-calls_in}

-- n bytes of one list are those of another
abbrev pub SameRun : List ℕ → List ℕ → ℕ → ℕ → ℕ → Type 0
SameRun a b p q n = (i : ℕ) → i < n → get_or a (p + i) 0 ≡ get_or b (q + i) 0

run_part : (a b : List ℕ) (p q n k m : ℕ) → SameRun a b p q n → k + m ≤ n → SameRun a b (p + k) (q + k) m
run_part a b p q n k m same within i small =
    ap (λ (j : ℕ). get_or a j 0) (add_assoc p k i) ∙ same (k + i) (omega arith) ∙ sym (ap (λ (j : ℕ). get_or b j 0) (add_assoc q k i))

run_byte : (a b : List ℕ) (p q n : ℕ) → SameRun a b p q n → 1 ≤ n → get_or a p 0 ≡ get_or b q 0
run_byte a b p q n same some = grind (arith, add-zero)

run_word : (a b : List ℕ) (p q n : ℕ) → SameRun a b p q n → 2 ≤ n → word_of a p ≡ word_of b q
run_word a b p q n same some = grind (arith, run_byte)

run_dword : (a b : List ℕ) (p q n : ℕ) → SameRun a b p q n → 4 ≤ n → dword a p ≡ dword b q
run_dword a b p q n same some = same_dword a b p q (λ i small. same i (omega arith))

byte_in : (a b : List ℕ) (p q n k : ℕ) → SameRun a b p q n → k + 1 ≤ n → get_or a (p + k) 0 ≡ get_or b (q + k) 0
byte_in a b p q n k same within = same k (omega arith)

word_in : (a b : List ℕ) (p q n k : ℕ) → SameRun a b p q n → k + 2 ≤ n → word_of a (p + k) ≡ word_of b (q + k)
word_in a b p q n k same within = run_word a b (p + k) (q + k) 2 (run_part a b p q n k 2 same within) (omega arith)

dword_in : (a b : List ℕ) (p q n k : ℕ) → SameRun a b p q n → k + 4 ≤ n → dword a (p + k) ≡ dword b (q + k)
dword_in a b p q n k same within = run_dword a b (p + k) (q + k) 4 (run_part a b p q n k 4 same within) (omega arith)

same_regs : (a b : List ℕ) (p q : ℕ) → SameRun a b p q 50 → regs_at a p ≡ regs_at b q
unfolding regs_at
same_regs a b p q same =
    rw (
      run_dword a b p q 50 same (omega arith),
      dword_in a b p q 50 4 same (omega arith),
      dword_in a b p q 50 8 same (omega arith),
      dword_in a b p q 50 12 same (omega arith),
      dword_in a b p q 50 16 same (omega arith),
      dword_in a b p q 50 20 same (omega arith),
      dword_in a b p q 50 24 same (omega arith),
      dword_in a b p q 50 28 same (omega arith),
      dword_in a b p q 50 32 same (omega arith),
      word_in a b p q 50 36 same (omega arith),
      word_in a b p q 50 38 same (omega arith),
      word_in a b p q 50 40 same (omega arith),
      word_in a b p q 50 42 same (omega arith),
      word_in a b p q 50 44 same (omega arith),
      word_in a b p q 50 46 same (omega arith),
      word_in a b p q 50 48 same (omega arith),
    ) refl

pub same_record : (a b : List ℕ) (p q : ℕ) → SameRun a b p q record_size → record_at a p ≡ record_at b q
unfolding record_at
same_record a b p q same =
    let at_pointer : SameRun a b (p + 8) (q + 8) 6 = run_part a b p q record_size 8 6 same (omega arith) in
    rw (
      run_byte a b p q record_size same (omega arith),
      byte_in a b p q record_size 1 same (omega arith),
      byte_in a b p q record_size 2 same (omega arith),
      dword_in a b p q record_size 4 same (omega arith),
      dword_in a b p q record_size 8 same (omega arith),
      word_in a b (p + 8) (q + 8) 6 4 at_pointer (omega arith),
      same_regs a b (p + 16) (q + 16) (run_part a b p q record_size 16 50 same (omega arith)),
    ) refl

-- ---- a frame of records

-- the frame holds exactly these records
pub record IsRecordPart (part : List ℕ) (rs : List Record) : Type 0 where
  pub few : length rs ≤ GREATEST_DEPTH
  pub read : (place : ℕ) (d : Record) → place < length rs → record_at part (record_size * place) ≡ get_or rs place d
  pub bytes : (place at : ℕ) (d : Record) → place < length rs → at < record_size →
      get_or part (record_size * place + at) 0 ≡ get_or (record_bytes (get_or rs place d)) at 0
  pub rest : (at : ℕ) → record_size * length rs ≤ at → at < PAGE_SIZE * RECORD_FRAMES → get_or part at 0 ≡ 0

-- no record has the kind 0
kind_of_call : (call : Call) → call_kind call ≢ 0
kind_of_call (Int n) = λ h. omega (arith, h)
kind_of_call Far = λ h. omega (arith, h)
kind_of_call Iret = λ h. omega (arith, h)
kind_of_call (Reflect n) = λ h. omega (arith, h)

pub kind_some : (r : Record) → get_or (record_bytes r) 0 0 ≢ 0
unfolding record_bytes
kind_some (Sim call saved vif at) = kind_of_call call
kind_some (Back slot at) = λ h. omega (arith, h)
kind_some (Exc number code) = λ h. omega (arith, h)

-- where n kinds aren't 0, and the next one is or the room ends, there are n records
records_are : (part : List ℕ) (place room n : ℕ) → n ≤ room → ((j : ℕ) → j < n → get_or part (record_size * (place + j)) 0 ≢ 0) →
    (room ≡ n) ⊎ (get_or part (record_size * (place + n)) 0 ≡ 0) → records_from part place room ≡ n
unfolding records_from
records_are part place zero n few some ends = omega arith
records_are part place (suc room) zero few some ends = grind (arith, add-zero, eq-eqb)
records_are part place (suc room) (suc n) few some ends =
    let here : get_or part (record_size * place) 0 ≢ 0 =
    λ e. some 0 (omega arith) (ap (λ (j : ℕ). get_or part (record_size * j) 0) (add-zero place) ∙ e) in
    let next : (j : ℕ) → place + 1 + j ≡ place + suc j = λ j. omega arith in
    let rest = records_are part (place + 1) room n (omega arith)
    (λ j small e. some (suc j) (omega arith) (ap (λ (x : ℕ). get_or part (record_size * x) 0) (sym (next j)) ∙ e))
    (grind arith) in
    rw (ne_eqb (get_or part (record_size * place) 0) 0 here) (omega (arith, rest))

-- so the frame is read as these records, and keeps them
pub count_of_part : (part : List ℕ) (rs : List Record) → IsRecordPart part rs → record_count part ≡ length rs
count_of_part part rs h = records_are part 0 GREATEST_DEPTH (length rs) h.few some ends
  where
    some : (j : ℕ) → j < length rs → get_or part (record_size * (0 + j)) 0 ≢ 0
    some j small e =
        let d = record_at part 0 in
        kind_some (get_or rs j d) (sym (h.bytes j 0 d small (omega arith))
        ∙ ap (λ (x : ℕ). get_or part x 0) (let same : record_size * j + 0 ≡ record_size * (0 + j) = omega arith in same) ∙ e)

    ends : (GREATEST_DEPTH ≡ length rs) ⊎ (get_or part (record_size * (0 + length rs)) 0 ≡ 0)
    ends = grind (arith, cases_lt)

pub calls_of_part : (part : List ℕ) (rs : List Record) → IsRecordPart part rs → calls_in part ≡ rs
unfolding calls_in
calls_of_part part rs h = grind (arith, count_of_part, is_listed)

pub keeps_of_part : (part : List ℕ) (rs : List Record) → IsRecordPart part rs → KeepsRecords part
keeps_of_part part rs h =
    let count = count_of_part part rs h in
    record {
      each = λ place at within small. (let d = record_at part 0 in
          h.bytes place at d (omega arith) small
          ∙ ap (λ (x : Record). get_or (record_bytes x) at 0) (sym (h.read place d (omega arith))));
      rest = λ at from to. h.rest at (omega arith) to;
    }

at_calls_in : (part : List ℕ) (place : ℕ) (d : Record) → place < record_count part →
    get_or (calls_in part) place d ≡ record_at part (record_size * place)
unfolding calls_in
at_calls_in part place d small = at_listed (record_count part) (λ n. record_at part (record_size * n)) place d small

-- and a frame that keeps its records holds them
pub part_of_keeps : (part : List ℕ) → KeepsRecords part → IsRecordPart part (calls_in part)
part_of_keeps part keeps = grind (arith, at_calls_in, length-calls_in, records_few)

-- one record more: its bytes follow the others
abbrev pub with_row : List ℕ → ℕ → List ℕ → List ℕ
with_row part place xs = put part (record_size * place) xs

row_inside : (part : List ℕ) (place : ℕ) (xs : List ℕ) → length part ≡ PAGE_SIZE * RECORD_FRAMES → place < GREATEST_DEPTH →
    length xs ≡ record_size → (i : ℕ) → i < record_size → get_or (with_row part place xs) (record_size * place + i) 0 ≡ get_or xs i 0
row_inside part place xs size small long i within = grind (arith, put_within)

row_below : (part : List ℕ) (place : ℕ) (xs : List ℕ) (k i : ℕ) → k < place → i < record_size →
    get_or (with_row part place xs) (record_size * k + i) 0 ≡ get_or part (record_size * k + i) 0
row_below part place xs k i below within = put_below part (record_size * place) xs (record_size * k + i) (omega arith)

below_read : (part : List ℕ) (place : ℕ) (xs : List ℕ) (k : ℕ) → k < place →
    record_at (with_row part place xs) (record_size * k) ≡ record_at part (record_size * k)
below_read part place xs k below = grind (arith, row_below, same_record)

row_read : (part : List ℕ) (place : ℕ) (xs : List ℕ) → length part ≡ PAGE_SIZE * RECORD_FRAMES → place < GREATEST_DEPTH →
    length xs ≡ record_size → record_at (with_row part place xs) (record_size * place) ≡ record_at xs 0
row_read part place xs size small long = grind (arith, row_inside, same_record, zero-add)

abbrev with_last : List Record → Record → List Record
with_last rs r = rs ++ r ∷ []

length-with_last : (rs : List Record) (r : Record) → length (with_last rs r) ≡ length rs + 1
length-with_last rs r = length-append rs (r ∷ [])

-- the last one, or one before it
last_or_before : (place n : ℕ) → place < n + 1 → (place < n) ⊎ (place ≡ n)
last_or_before place n small = grind (arith, cases_lt)

pub one_more : (part : List ℕ) (rs : List Record) (xs : List ℕ) → length part ≡ PAGE_SIZE * RECORD_FRAMES → IsRecordPart part rs →
    length rs < GREATEST_DEPTH → length xs ≡ record_size → record_bytes (record_at xs 0) ≡ xs →
    IsRecordPart (with_row part (length rs) xs) (rs ++ record_at xs 0 ∷ [])
one_more part rs xs size h room long exact =
    grind (arith, below_read, get_or_append_left, get_or_at, last_or_before, length-with_last, put_above, row_below, row_inside, row_read)

-- one record less: zeros take its place
pub one_less : (part : List ℕ) (rs : List Record) → length part ≡ PAGE_SIZE * RECORD_FRAMES → IsRecordPart part rs → 0 < length rs →
    IsRecordPart (with_row part (length rs - 1) (zeros record_size)) (take (length rs - 1) rs)
one_less part rs size h some =
    let left = length rs - 1 in
    let few = h.few in
    let total : length (take left rs) ≡ left = length-take-le left rs (omega arith) in
    record {
      few = omega arith;
      read = grind (arith, below_read, get_or-take);
      bytes = grind (arith, get_or-take, row_below);
      rest = λ at from to. elim (cases_lt at (record_size * left + record_size)) [
        | inl inside ↦ (let split : at ≡ record_size * left + (at - record_size * left) = omega arith in
            ap (λ (k : ℕ). get_or (with_row part left (zeros record_size)) k 0) split
            ∙ row_inside part left (zeros record_size) size (omega arith) (length-zeros record_size) (at - record_size * left) (omega arith)
            ∙ at_zeros record_size (at - record_size * left) (omega arith))
        | inr past ↦ grind (arith, length-zeros, put_above)
      ];
    }

-- the number of records is counted in the memory itself
pub counted : (part : List ℕ) (n : ℕ) → n ≤ GREATEST_DEPTH → ((k : ℕ) → k < n → get_or part (record_size * k) 0 ≢ 0) →
    (GREATEST_DEPTH ≡ n) ⊎ (get_or part (record_size * n) 0 ≡ 0) → record_count part ≡ n
counted part n few some ends = records_are part 0 GREATEST_DEPTH n few
    (λ k small none. some k small (ap (λ (j : ℕ). get_or part (record_size * j) 0) (sym (zero-add k)) ∙ none))
    (grind (arith, zero-add))
