-- A selector finds the block that it names. A block that is made is named by its first selector, and one that is freed loses its
-- descriptors.
use Rattle.std.proofs.Common.{◌≡◌, ◌≢◌, ◌↔◌, ℕ, zero, suc, ◌+◌, ◌-◌, ◌%◌, ◌/◌, ◌<◌, ◌≤◌, ◌⊎◌, inl, inr, Bool, true, false, List, [], ◌∷◌}
use Rattle.std.proofs.Common.{◌++◌, length, take, drop, max, refl, ap, ◌∙◌, sym, subst, arith, Option, Some, None, Result, Ok, Err}
use Rattle.std.proofs.lemmas.Bool.{cases_eq, cases_lt, cond-true, cond-false, eq-eqb, ne_eqb, eqb-true, le-ltb, and_from, and_parts}
use Rattle.std.proofs.{lemmas.Bool.{false_from_ne_true}, lemmas.Option.{none-some, slice_get-get_or}}
use Rattle.client_world.specs.{declared.descriptors.Origin.TheVariants.{Dos}, declared.dos_memory.DosEntry.{DosEntry}}
use Rattle.client_world.specs.{declared.dos_memory.DosRefusal.{DosRefusal}, declared.dos_memory.DosState.TheVariants.{Dpmi}}
use Rattle.client_world.specs.{declared.memory_map.TheConstants.{ARENA_START, ARENA_END}, DosMemory.{block_segment, is_dpmi}}
use Rattle.client_world.specs.{FreeRuns.{IsFreeRunOf}, Registers.{low_half, with_low_half}, Selector.{Row, index_of, is_local}}
use Rattle.client_world.specs.{Selector.{row_at_index, selector_of}, Services.{ax, bx, dx}, Soundness.{IsSound, HasOrigin, HasRun, IsRunOf}}
use Rattle.client_world.specs.{Soundness.{descriptors_for}, World.{World}}
use Rattle.guest_space.specs.{Arena.{with_replaced_entries, with_entries}, DosRuns.{dos_row, with_dos_rows}}
use Rattle.guest_space.proofs.DosRows.{dos_row_has, row_inside, row_outside}
use Rattle.service_rows.specs.FreeRun.{first_free_run}
use Rattle.service_rows.proofs.RunLaws.{free_run_of}
use Rattle.dos_blocks.specs.Blocks.{Done, missing_entry, entry_of_place, first_fit, is_of_segment, place_of_block, run_of_block}
use Rattle.dos_blocks.specs.{Blocks.{segment_of_row, split, starts_at}, Named.{HasNewBlock, LosesDescriptors, NamesBlock}}
use Rattle.dos_blocks.specs.Services.{allocate_dos_block, first_of_segment, free_dos_block, place_of_segment, place_of_selector}
use Rattle.dos_blocks.specs.Services.{segment_of_selector}
use Rattle.dos_blocks.proofs.{Searches.{HasFit, found_fit, number}, Splicing.{entry_within}, OneStep.{freed_is, given_at, given_is}}
use Rattle.dos_blocks.proofs.{RunPuts.{has_within, later_after, no_descriptor}, SelectorLaws.{row_is, row_tells, selector_block}}

-- ---- the place of a block

-- the search finds the first block at a segment
block_here : (es : List DosEntry) (segment start place : ℕ) → place < length es → starts_at true (entry_of_place es place) segment ≡ true →
    ((j : ℕ) → j < place → starts_at true (entry_of_place es j) segment ≡ false) →
    place_of_block true es segment start ≡ Some (start + place)
unfolding place_of_block
block_here [] segment start place small here none = absurd (omega arith)
block_here (e ∷ es) segment start zero small here none =
    cond-true _ _ _ here ∙ ap (λ (n : ℕ). Some n) (let same : start ≡ start + 0 = omega arith in same)
block_here (e ∷ es) segment start (suc place) small here none =
    cond-false _ _ _ (none 0 (omega arith))
    ∙ block_here es segment (start + 1) place (omega arith) here (λ j below. none (suc j) (omega arith))
    ∙ ap (λ (n : ℕ). Some n) (let same : start + 1 + place ≡ start + suc place = omega arith in same)

-- no block before it starts at the same segment
block_at_place : (w : World) (place : ℕ) → IsSound w → place < length w.arena → is_dpmi (entry_of_place w.arena place).state ≡ true →
    place_of_block true w.arena (block_segment (entry_of_place w.arena place)) 0 ≡ Some place
block_at_place w place s small made =
    let segment = block_segment (entry_of_place w.arena place) in
    block_here w.arena segment 0 place small (and_from _ _ made (eq-eqb segment segment refl)) (λ j below.
    false_from_ne_true _
    (λ starts. (let later = later_after w.arena ARENA_START ARENA_END j place missing_entry s.arena.fills below small in
    let same = eqb-true (block_segment (entry_of_place w.arena j)) segment
    (and_parts (is_dpmi (entry_of_place w.arena j).state) _ starts).1 in omega arith)))
    ∙ ap (λ (n : ℕ). Some n) (let same : 0 + place ≡ place = omega arith in same)

-- ---- the segment of a selector

not_of : (o : Option ℕ) (segment : ℕ) → o ≢ Some segment → is_of_segment o segment ≡ false
not_of None segment other = refl
not_of (Some own) segment other = ne_eqb own segment (λ e. other (ap (λ (n : ℕ). Some n) e))

first_here : (own before : Option ℕ) (segment : ℕ) → own ≡ Some segment → is_of_segment before segment ≡ false →
    first_of_segment own before ≡ Some segment
first_here None before segment e first = absurd (none-some segment e)
first_here (Some own) before segment e first = grind (arith, cond-false, number)

run_of_entry : (w : World) (place : ℕ) → IsSound w → place < length w.arena → is_dpmi (entry_of_place w.arena place).state ≡ true →
    HasRun w.descriptors (entry_of_place w.arena place)
run_of_entry w place s small made =
    s.runs.runs place (entry_of_place w.arena place) (slice_get-get_or w.arena place missing_entry small) made

segment_named : (w : World) (sel place : ℕ) → IsSound w → NamesBlock w sel place →
    segment_of_selector w.descriptors sel ≡ Some (block_segment (entry_of_place w.arena place))
unfolding segment_of_selector
segment_named w sel place s named =
    let segment = block_segment (entry_of_place w.arena place) in
    let h = run_of_entry w place s named.within named.made in
    let some = h.some in
    let from = h.free in
    let here : HasOrigin (row_at_index w.descriptors (index_of sel)) (Dos segment) =
    named.run.have (index_of sel) (omega arith) (omega arith) in
    let high = h.run.from (index_of sel) here in
    cond-true _ _ _ named.local
    ∙ first_here (segment_of_row (row_at_index w.descriptors (index_of sel)))
    (segment_of_row (row_at_index w.descriptors (index_of sel - 1))) segment
    (row_is (row_at_index w.descriptors (index_of sel)) segment here)
    (not_of (segment_of_row (row_at_index w.descriptors (index_of sel - 1))) segment (λ e.
    (let low = named.run.from (index_of sel - 1) (row_tells (row_at_index w.descriptors (index_of sel - 1)) segment e) in omega arith)))

-- ---- what is found is what is named

named_found : (w : World) (sel place : ℕ) → IsSound w → NamesBlock w sel place → place_of_selector w sel ≡ Some place
unfolding place_of_selector
named_found w sel place s named =
    ap (place_of_segment w.arena) (segment_named w sel place s named) ∙ block_at_place w place s named.within named.made

local_of : (w : World) (sel place : ℕ) (local : Bool) → is_local sel ≡ local → place_of_selector w sel ≡ Some place → is_local sel ≡ true
unfolding place_of_selector segment_of_selector
local_of w sel place true is e = is
local_of w sel place false is e = absurd (none-some place (sym (ap (place_of_segment w.arena) (cond-false _ _ _ is)) ∙ e))

found_named : (w : World) (sel place : ℕ) → IsSound w → place_of_selector w sel ≡ Some place → NamesBlock w sel place
found_named w sel place s e =
    let block = selector_block w sel place s (sym e) in
    record { local = local_of w sel place (is_local sel) refl e; within = block.small; made = block.made; run = block.run }

pub finds_named : (w : World) (sel place : ℕ) → IsSound w → ((place_of_selector w sel ≡ Some place) ↔ NamesBlock w sel place)
finds_named w sel place s = (found_named w sel place s, named_found w sel place s)

-- ---- the selector of an index

index_back : (index : ℕ) → index_of (selector_of index) ≡ index
index_back index = omega arith

local_selector : (index : ℕ) → is_local (selector_of index) ≡ true
local_selector index = eq-eqb (selector_of index / 4 % 2) 1 (omega arith)

named_by : (w : World) (place first : ℕ) → place < length w.arena → is_dpmi (entry_of_place w.arena place).state ≡ true →
    IsRunOf w.descriptors (Dos (block_segment (entry_of_place w.arena place))) first
    (descriptors_for (entry_of_place w.arena place).paras) → NamesBlock w (selector_of first) place
named_by w place first small made run = grind (arith, index_back, local_selector)

pub each_named : (w : World) (place : ℕ) → IsSound w → place < length w.arena → is_dpmi (entry_of_place w.arena place).state ≡ true →
    (sel : ℕ) × NamesBlock w sel place
each_named w place s small made =
    let h = run_of_entry w place s small made in
    (selector_of h.first, named_by w place h.first small made h.run)

-- ---- a block that is made

seam : (es tail : List DosEntry) (place : ℕ) (e : DosEntry) → place ≤ length es → entry_of_place (take place es ++ (e ∷ tail)) place ≡ e
seam es tail zero e within = refl
seam [] tail (suc place) e within = absurd (omega arith)
seam (x ∷ xs) tail (suc place) e within = seam xs tail place e (omega arith)

seam_within : (es tail : List DosEntry) (place : ℕ) (e : DosEntry) → place ≤ length es → place < length (take place es ++ (e ∷ tail))
seam_within es tail zero e within = omega arith
seam_within [] tail (suc place) e within = absurd (omega arith)
seam_within (x ∷ xs) tail (suc place) e within = let rest = seam_within xs tail place e (omega arith) in omega arith

abbrev made_entry : ℕ → ℕ → DosEntry
made_entry at n = record { at = at; paras = n; state = Dpmi }

record BeginsWith (es : List DosEntry) (e : DosEntry) : Type 0 where
  pub tail : List DosEntry
  pub is : es ≡ e ∷ tail

split_begins : (at n paras : ℕ) (rest : List DosEntry) → BeginsWith (split Dpmi at n paras ++ rest) (made_entry at n)
split_begins at n paras rest = grind (arith, eq-eqb, ne_eqb)

-- the descriptors that are put for a new block are all that it has
new_run : (w : World) (place first n : ℕ) → IsSound w → HasFit w.arena n place → IsFreeRunOf w.descriptors first (descriptors_for n) →
    IsRunOf (with_dos_rows w.descriptors (run_of_block (entry_of_place w.arena place) first 0 n) (descriptors_for n))
    (Dos (block_segment (entry_of_place w.arena place))) first (descriptors_for n)
new_run w place first n s fit free =
    let rows = w.descriptors in
    let segment = block_segment (entry_of_place w.arena place) in
    let run = run_of_block (entry_of_place w.arena place) first 0 n in
    let count = descriptors_for n in
    let size = s.descriptors.indices in
    let within = free.within in
    let away : (index : ℕ) → (index < first) ⊎ (first + count ≤ index) →
    ¬ HasOrigin (row_at_index (with_dos_rows rows run count) index) (Dos segment) =
    λ index out has. no_descriptor w place index s fit.small fit.free
    (subst (λ (r : Row). HasOrigin r (Dos segment)) (row_outside rows run count index out) has) in
    record {
      have = λ index from to.
          (let at : first + (index - first) ≡ index = omega arith in
          subst (λ (i : ℕ). HasOrigin (row_at_index (with_dos_rows rows run count) i) (Dos segment)) at
          (subst (λ (r : Row). HasOrigin r (Dos segment)) (sym (row_inside rows run count (index - first) (omega arith) (omega arith)))
          (dos_row_has segment n (index - first) (omega arith))));
      from = λ index has. elim (cases_lt index first) [ inl below ↦ absurd (away index (inl below) has) | inr from ↦ from ];
      to = λ index has. elim (cases_lt index (first + count)) [ inl below ↦ below | inr past ↦ absurd (away index (inr past) has) ];
    }

low_back : (x v : ℕ) → v < 0x10000 → low_half (with_low_half x v) ≡ v
low_back x v small = omega arith

put_named : (w v : World) (place first n : ℕ) (x : DosEntry) → place < length v.arena → entry_of_place v.arena place ≡ x →
    is_dpmi x.state ≡ true → IsRunOf v.descriptors (Dos (block_segment x)) first (descriptors_for x.paras) → dx v ≡ selector_of first →
    ax v ≡ block_segment x → x.paras ≡ n → HasNewBlock v n
put_named w v place first n x within is made run in_dx in_ax size = grind (arith, named_by)

new_count : (n : ℕ) → max (descriptors_for 0) (descriptors_for n) ≡ descriptors_for n
new_count n = omega arith

refused_done : (answer : Result (Unit {0}) DosRefusal) (r : DosRefusal) → answer ≡ Err r → answer ≢ Ok tt
refused_done answer r refused done = cc

new_given : (w : World) (n : ℕ) (fit first : Option ℕ) → IsSound w → n ≢ 0 → n < 0x10000 → first_fit w.arena n 0 ≡ fit →
    first_free_run w.descriptors (descriptors_for n) ≡ first → (given_at n fit first w).answer ≡ Ok tt →
    HasNewBlock (given_at n fit first w).world n
unfolding with_entries
new_given w n None first s some small fits free e = absurd (refused_done _ _ refl e)
new_given w n (Some place) None s some small fits free e = absurd (refused_done _ _ refl e)
new_given w n (Some place) (Some first) s some small fits free e =
    let es = w.arena in
    let entry = entry_of_place es place in
    let run = run_of_block entry first 0 n in
    let fit = found_fit es n place (sym fits) in
    let within = entry_within es place s.arena fit.small in
    let freed = free_run_of w.descriptors (descriptors_for n) first free in
    let last = freed.1.within in
    let begins = split_begins entry.at n entry.paras (drop (place + 1) es) in
    let arena : with_replaced_entries es place 1 (split Dpmi entry.at n entry.paras)
    ≡ take place es ++ (made_entry entry.at n ∷ begins.tail) =
    ap (λ (xs : List DosEntry). take place es ++ xs) begins.is in
    put_named w (given_at n (Some place) (Some first) w).world place first n (made_entry entry.at n)
    (subst (λ (xs : List DosEntry). place < length xs) (sym arena)
    (seam_within es begins.tail place (made_entry entry.at n) (omega (arith, fit.small))))
    (ap (λ (xs : List DosEntry). entry_of_place xs place) arena
    ∙ seam es begins.tail place (made_entry entry.at n) (omega (arith, fit.small)))
    refl
    (subst (λ (k : ℕ). IsRunOf (with_dos_rows w.descriptors run k) (Dos (block_segment entry)) first (descriptors_for n))
    (sym (new_count n))
    (new_run w place first n s fit freed.1))
    (low_back w.regs.edx (selector_of first) (omega arith))
    (low_back w.regs.eax (block_segment entry) (omega (arith, within.ends)))
    refl

pub new_block : (w : World) → IsSound w → (allocate_dos_block w).answer ≡ Ok tt → HasNewBlock (allocate_dos_block w).world (bx w)
unfolding allocate_dos_block
new_block w s e = elim (cases_eq (bx w) 0) [
  | inl none ↦ absurd (refused_done _ _ (ap (λ (d : Done (Unit {0})). d.answer) (cond-true _ _ _ (eq-eqb (bx w) 0 none))) e)
  | inr some ↦ (let given = cond-false _ _ _ (ne_eqb (bx w) 0 some)
      ∙ given_is w (bx w) (first_fit w.arena (bx w) 0) (first_free_run w.descriptors (descriptors_for (bx w))) refl refl in
      subst (λ (d : Done (Unit {0})). HasNewBlock d.world (bx w)) (sym given)
      (new_given w (bx w) (first_fit w.arena (bx w) 0) (first_free_run w.descriptors (descriptors_for (bx w))) s some
      (omega arith) refl refl
      (ap (λ (d : Done (Unit {0})). d.answer) (sym given) ∙ e)))
]

-- ---- a block that is freed

pub freed_answer : (w : World) (place : ℕ) → IsSound w → NamesBlock w (dx w) place → (free_dos_block w).answer ≡ Ok tt
unfolding free_dos_block
freed_answer w place s named = grind (arith, freed_is, named_found)

no_row : (segment j : ℕ) → dos_row segment 0 j ≡ None
unfolding dos_row
no_row segment j = cond-false _ _ _ (le-ltb j (descriptors_for 0) (omega arith))

freed_count : (n : ℕ) → max (descriptors_for n) (descriptors_for 0) ≡ descriptors_for n
freed_count n = omega arith

freed_rows : (w : World) (place : ℕ) → IsSound w → NamesBlock w (dx w) place →
    (free_dos_block w).world.descriptors ≡ with_dos_rows w.descriptors
    (run_of_block (entry_of_place w.arena place) (index_of (dx w)) (entry_of_place w.arena place).paras 0)
    (descriptors_for (entry_of_place w.arena place).paras)
unfolding free_dos_block with_entries
freed_rows w place s named = grind (arith, freed_count, freed_is, named_found)

loses : (w v : World) (place : ℕ) → IsSound w → NamesBlock w (dx w) place → v.descriptors
    ≡ with_dos_rows w.descriptors (run_of_block (entry_of_place w.arena place) (index_of (dx w)) (entry_of_place w.arena place).paras 0)
    (descriptors_for (entry_of_place w.arena place).paras) → LosesDescriptors w v (block_segment (entry_of_place w.arena place))
loses w v place s named is =
    let rows = w.descriptors in
    let entry = entry_of_place w.arena place in
    let first = index_of (dx w) in
    let run = run_of_block entry first entry.paras 0 in
    let count = descriptors_for entry.paras in
    let some = (run_of_entry w place s named.within named.made).some in
    let last =
    has_within rows (first + count - 1) (Dos (block_segment entry)) (named.run.have (first + count - 1) (omega arith) (omega arith)) in
    record {
      gone = λ index has.
          (let from = named.run.from index has in
          let to = named.run.to index has in
          let at : first + (index - first) ≡ index = omega arith in
          ap (λ (r : List Row). row_at_index r index) is ∙ ap (row_at_index (with_dos_rows rows run count)) (sym at)
          ∙ row_inside rows run count (index - first) (omega arith) (omega arith) ∙ no_row (block_segment entry) (index - first));
      rest = λ index other.
          ap (λ (r : List Row). row_at_index r index) is ∙ row_outside rows run count index (grind arith);
    }

pub freed_block : (w : World) (place : ℕ) → IsSound w → NamesBlock w (dx w) place →
    LosesDescriptors w (free_dos_block w).world (block_segment (entry_of_place w.arena place))
freed_block w place s named = loses w (free_dos_block w).world place s named (freed_rows w place s named)
