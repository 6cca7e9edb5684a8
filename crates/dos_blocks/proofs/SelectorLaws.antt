-- What a selector that names the first descriptor of a block says of the block, and free runs of descriptors.
use Rattle.std.proofs.Common.{◌≡◌, ℕ, suc, ◌+◌, ◌-◌, ◌<◌, ◌≤◌, Bool, true, false, ◌&&◌, List, length, refl, ap, ◌∙◌, sym, subst, arith}
use Rattle.std.proofs.{Common.{Option, Some, None}, lemmas.Bool.{eq-eqb, false≢true, le-leb}, lemmas.Option.{none-some, slice_get-get_or}}
use Rattle.std.proofs.Math.Bool.{and-false}
use Rattle.std.specs.Option.{is_none, is_some}
use Rattle.client_world.specs.{declared.descriptors.Origin.{Origin}, declared.descriptors.Origin.TheVariants.{Own, Low, Entry, Psp}}
use Rattle.client_world.specs.declared.descriptors.Origin.TheVariants.{Segment, Dos, Host}
use Rattle.client_world.specs.{declared.host_frames.TheConstants.{DESCRIPTORS, FIRST_FREE_DESCRIPTOR}, DosMemory.{is_dpmi, block_segment}}
use Rattle.client_world.specs.{Selector.{Row, index_of, is_local, row_at_index}, Soundness.{IsSound, HasOrigin, HasRun, IsRunOf}}
use Rattle.client_world.specs.{Soundness.{descriptors_for}, World.{World}}
use Rattle.service_rows.specs.FreeRun.{are_free, is_free_run}
use Rattle.dos_blocks.specs.Blocks.{missing_entry, entry_of_place, is_of_segment, segment_of_origin, segment_of_row}
use Rattle.dos_blocks.specs.Services.{first_of_segment, place_of_segment, place_of_selector, segment_of_selector}
use Rattle.dos_blocks.proofs.Searches.{HasBlock, found_block, number}

-- ---- the origin of a row

of_origin : (o : Origin) (segment : ℕ) → segment_of_origin o ≡ Some segment → o ≡ Dos segment
of_origin Own segment e = absurd (none-some segment e)
of_origin Low segment e = absurd (none-some segment e)
of_origin Entry segment e = absurd (none-some segment e)
of_origin Psp segment e = absurd (none-some segment e)
of_origin (Segment own) segment e = absurd (none-some segment e)
of_origin (Dos own) segment e = ap (λ (s : ℕ). Dos s) (ap number e)
of_origin Host segment e = absurd (none-some segment e)

pub row_tells : (row : Row) (segment : ℕ) → segment_of_row row ≡ Some segment → HasOrigin row (Dos segment)
row_tells None segment e = absurd (none-some segment e)
row_tells (Some row) segment e = of_origin row.1 segment e

pub row_is : (row : Row) (segment : ℕ) → HasOrigin row (Dos segment) → segment_of_row row ≡ Some segment
row_is None segment has = absurd has
row_is (Some row) segment has = ap segment_of_origin has

-- ---- the first of a run

first_tells : (own before : Option ℕ) (segment : ℕ) → first_of_segment own before ≡ Some segment →
    (own ≡ Some segment) × (is_of_segment before segment ≡ false)
first_tells None before segment e = absurd (none-some segment e)
first_tells (Some own) before segment e = grind (arith, none-some, number)

record IsFirst (rows : List Row) (index segment : ℕ) : Type 0 where
  pub here : HasOrigin (row_at_index rows index) (Dos segment)
  pub before : ¬ HasOrigin (row_at_index rows (index - 1)) (Dos segment)

is_first : (rows : List Row) (sel segment : ℕ) (local : Bool) → is_local sel ≡ local → segment_of_selector rows sel ≡ Some segment →
    IsFirst rows (index_of sel) segment
unfolding segment_of_selector
is_first rows sel segment true local e = grind (arith, eq-eqb, false≢true, first_tells, row_is, row_tells)
is_first rows sel segment false local e = absurd (none-some segment (let none : None ≡ Some segment = rw local at e in none))

run_begins : (rows : List Row) (segment index first n : ℕ) → IsFirst rows index segment → IsRunOf rows (Dos segment) first n → first ≡ index
run_begins rows segment index first n is run = grind arith

-- ---- the block of a selector

-- the descriptors of the block at a place begin at an index
pub record HasBlockRun (w : World) (first place : ℕ) : Type 0 where
  pub small : place < length w.arena
  pub made : is_dpmi (entry_of_place w.arena place).state ≡ true
  pub from : FIRST_FREE_DESCRIPTOR ≤ first
  pub run : IsRunOf w.descriptors (Dos (block_segment (entry_of_place w.arena place))) first
      (descriptors_for (entry_of_place w.arena place).paras)
  pub some : 0 < (entry_of_place w.arena place).paras

pub block_of_segment : (w : World) (sel place segment : ℕ) → IsSound w → segment_of_selector w.descriptors sel ≡ Some segment →
    HasBlock true w.arena segment place → HasBlockRun w (index_of sel) place
block_of_segment w sel place segment s found block =
    let entry = entry_of_place w.arena place in
    let h : HasRun w.descriptors entry = s.runs.runs place entry (slice_get-get_or w.arena place missing_entry block.small) block.kind in
    let is : IsFirst w.descriptors (index_of sel) (block_segment entry) =
    subst (λ (n : ℕ). IsFirst w.descriptors (index_of sel) n) (sym block.starts)
    (is_first w.descriptors sel segment (is_local sel) refl found) in
    let same = run_begins w.descriptors (block_segment entry) (index_of sel) h.first (descriptors_for entry.paras) is h.run in
    grind arith

selector_block_of : (w : World) (sel place : ℕ) (o : Option ℕ) → IsSound w → segment_of_selector w.descriptors sel ≡ o →
    place_of_segment w.arena o ≡ Some place → HasBlockRun w (index_of sel) place
selector_block_of w sel place None s found e = absurd (none-some place e)
selector_block_of w sel place (Some segment) s found e =
    block_of_segment w sel place segment s found (found_block true w.arena segment place (sym e))

pub selector_block : (w : World) (sel place : ℕ) → IsSound w → Some place ≡ place_of_selector w sel → HasBlockRun w (index_of sel) place
unfolding place_of_selector
selector_block w sel place s e = selector_block_of w sel place (segment_of_selector w.descriptors sel) s refl (sym e)

-- ---- free runs

are_free_suc : (rows : List Row) (first n : ℕ) →
    are_free rows first (suc n) ≡ (is_none (row_at_index rows first) && are_free rows (first + 1) n)
unfolding are_free
are_free_suc rows first n = refl

are_free_none : (rows : List Row) (first : ℕ) → are_free rows first 0 ≡ true
unfolding are_free
are_free_none rows first = refl

free_step : (rows : List Row) (first i n : ℕ) → i < n →
    are_free rows (first + i) (n - i) ≡ (is_none (row_at_index rows (first + i)) && are_free rows (first + (i + 1)) (n - (i + 1)))
free_step rows first i n below =
    ap (are_free rows (first + i)) (let k : n - i ≡ suc (n - (i + 1)) = omega arith in k) ∙ are_free_suc rows (first + i) (n - (i + 1))
    ∙ ap (λ (j : ℕ). is_none (row_at_index rows (first + i)) && are_free rows j (n - (i + 1)))
    (let next : first + i + 1 ≡ first + (i + 1) = omega arith in next)

taken_row : (row : Row) → is_some row ≡ true → is_none row ≡ false
taken_row None e = cc
taken_row (Some row) e = refl

free_row : (row : Row) → is_some row ≡ false → is_none row ≡ true
free_row None e = refl
free_row (Some row) e = cc

pub free_next : (rows : List Row) (first i n : ℕ) (row : Row) → i < n → row ≡ row_at_index rows (first + i) → is_some row ≡ false →
    are_free rows (first + i) (n - i) ≡ are_free rows first n → are_free rows (first + (i + 1)) (n - (i + 1)) ≡ are_free rows first n
free_next rows first i n row below is free before =
    sym (free_step rows first i n below
    ∙ ap (λ (b : Bool). b && are_free rows (first + (i + 1)) (n - (i + 1))) (ap is_none (sym is) ∙ free_row row free)) ∙ before

pub taken_run : (rows : List Row) (first i n : ℕ) (row : Row) → i < n → row ≡ row_at_index rows (first + i) → is_some row ≡ true →
    are_free rows (first + i) (n - i) ≡ are_free rows first n → false ≡ is_free_run rows first n
taken_run rows first i n row below is taken before = grind (arith, free_step, and-false, taken_row)

free_end : (rows : List Row) (first i n : ℕ) → n ≤ i → are_free rows (first + i) (n - i) ≡ are_free rows first n →
    are_free rows first n ≡ true
free_end rows first i n past before =
    sym before ∙ ap (are_free rows (first + i)) (let none : n - i ≡ 0 = omega arith in none) ∙ are_free_none rows (first + i)

pub whole_run : (rows : List Row) (first i n : ℕ) → n ≤ i → first + n ≤ DESCRIPTORS →
    are_free rows (first + i) (n - i) ≡ are_free rows first n → true ≡ is_free_run rows first n
whole_run rows first i n past within before = rw (le-leb (first + n) DESCRIPTORS within, free_end rows first i n past before) refl
