-- The run of descriptors of the block at a segment, and what the calls put for a block of either kind.
use Rattle.std.proofs.Common.{◌≡◌, ◌≢◌, ℕ, ◌+◌, ◌-◌, ◌<◌, ◌≤◌, Bool, true, false, List, [], ◌∷◌, length, refl, ap, ◌∙◌, sym, subst, arith}
use Rattle.std.proofs.{Common.{Option, Some, None}, lemmas.Bool.{eqb-true, eq-eqb, false_from_ne_true}, lemmas.Option.{none-some}}
use Rattle.std.proofs.lemmas.Option.{slice_get-get_or}
use Rattle.client_world.specs.{declared.descriptors.Origin.TheVariants.{Dos}, declared.dos_memory.DosEntry.{DosEntry}}
use Rattle.client_world.specs.{declared.dos_memory.DosRun.{DosRun}, declared.dos_memory.DosState.TheVariants.{Dpmi}}
use Rattle.client_world.specs.{declared.host_frames.TheConstants.{DESCRIPTORS}, Selector.{Row, index_of, row_at_index}, Soundness.{IsSound}}
use Rattle.client_world.specs.{Soundness.{HasRun, IsRunOf, descriptors_for}, World.{World}}
use Rattle.guest_space.specs.{Arena.{with_entries}, DosRuns.{CanPutRun, with_entries_and_run}}
use Rattle.service_rows.specs.FreeRun.{first_free_run}
use Rattle.service_rows.proofs.RunLaws.{is_first, free_run_of, run_of_test}
use Rattle.dos_blocks.specs.Blocks.{CanAllocate, CanResize, missing_entry, block_state, descriptor_of_block, entry_of_place}
use Rattle.dos_blocks.specs.Blocks.{first_descriptor, first_fit, free_before, free_entries_after, has_room_to_grow, index_or_zero}
use Rattle.dos_blocks.specs.Blocks.{is_of_segment, joined_entry, new_descriptor, place_of_block, greatest_size, run_of_block}
use Rattle.dos_blocks.specs.{Blocks.{segment_of_row, split, with_block}, Puts.{CanPut, CanPutBlock}, Services.{segment_of_selector}}
use Rattle.dos_blocks.proofs.RunPuts.{can_free, can_give, can_resize, can_free_run, can_give_run, can_resize_run, has_within}
use Rattle.dos_blocks.proofs.{Searches.{HasBlock, HasFit, found_block, found_fit, number}, SelectorLaws.{HasBlockRun, block_of_segment}}
use Rattle.dos_blocks.proofs.SelectorLaws.{row_is, row_tells}

-- ---- the first descriptor of a block

abbrev pub is_of_block : List Row → ℕ → ℕ → Bool
is_of_block rows segment index = is_of_segment (segment_of_row (row_at_index rows index)) segment

segment_is : (o : Option ℕ) (segment : ℕ) → is_of_segment o segment ≡ true → o ≡ Some segment
segment_is None segment e = absurd cc
segment_is (Some own) segment e = ap (λ (n : ℕ). Some n) (eqb-true own segment e)

pub first_of_run : (rows : List Row) (segment first n : ℕ) → IsRunOf rows (Dos segment) first n → 0 < n → length rows ≤ DESCRIPTORS →
    descriptor_of_block rows segment ≡ Some first
unfolding descriptor_of_block
first_of_run rows segment first n run some size =
    let here = run.have first (omega arith) (omega arith) in
    let inside = has_within rows first (Dos segment) here in
    is_first (is_of_block rows segment) 0 DESCRIPTORS first (omega arith) (omega arith)
    (ap (λ (o : Option ℕ). is_of_segment o segment) (row_is (row_at_index rows first) segment here) ∙ eq-eqb segment segment refl)
    (λ below low high. false_from_ne_true (is_of_block rows segment below) (grind (arith, row_tells, segment_is)))

-- the block at a segment has its run from there on
pub block_run : (w : World) (segment place : ℕ) → IsSound w → HasBlock true w.arena segment place →
    HasBlockRun w (first_descriptor true w.descriptors segment) place
block_run w segment place s block =
    let entry = entry_of_place w.arena place in
    let h : HasRun w.descriptors entry = s.runs.runs place entry (slice_get-get_or w.arena place missing_entry block.small) block.kind in
    let paras = h.some in
    let size = s.descriptors.indices in
    let run : IsRunOf w.descriptors (Dos segment) h.first (descriptors_for entry.paras) =
    subst (λ (n : ℕ). IsRunOf w.descriptors (Dos n) h.first (descriptors_for entry.paras)) block.starts h.run in
    subst (λ (n : ℕ). HasBlockRun w n place)
    (sym (ap index_or_zero (first_of_run w.descriptors segment h.first (descriptors_for entry.paras) run (omega arith) (omega arith))))
    (record { small = block.small; made = block.kind; from = h.free; run = h.run; some = h.some })

-- and a selector that names the block has the index of the first
pub first_is_named : (w : World) (sel segment place : ℕ) → IsSound w → segment_of_selector w.descriptors sel ≡ Some segment →
    HasBlock true w.arena segment place → first_descriptor true w.descriptors segment ≡ index_of sel
first_is_named w sel segment place s found block = grind (arith, block_of_segment, first_of_run)

-- ---- what is put

given_run : (w : World) (n place : ℕ) (o : Option ℕ) → IsSound w → CanAllocate w n → HasFit w.arena n place →
    first_free_run w.descriptors (descriptors_for n) ≡ o → o ≢ None →
    CanPutRun w place 1 (split Dpmi (entry_of_place w.arena place).at n (entry_of_place w.arena place).paras)
    (run_of_block (entry_of_place w.arena place) (index_or_zero o) 0 n)
given_run w n place None s can fit e some = absurd (some refl)
given_run w n place (Some first) s can fit e some =
    let run = free_run_of w.descriptors (descriptors_for n) first e in can_give_run w n place first s can.width can.some fit run.0 run.1

found_none : (o : Option ℕ) (place : ℕ) → o ≡ Some place → o ≢ None
found_none o place e none = none-some place (sym none ∙ e)

pub can_give_block : (w : World) (for_dpmi : Bool) (n place : ℕ) → IsSound w → (for_dpmi ≡ true → CanAllocate w n) →
    Some place ≡ first_fit w.arena n 0 →
    CanPutBlock for_dpmi w place 1 (split (block_state for_dpmi) (entry_of_place w.arena place).at n (entry_of_place w.arena place).paras)
    (run_of_block (entry_of_place w.arena place) (new_descriptor for_dpmi w.descriptors n) 0 n)
can_give_block w false n place s can e = can_give w.arena false n place refl s.arena (found_fit w.arena n place e)
can_give_block w true n place s can e =
    let asked = can refl in
    given_run w n place (first_free_run w.descriptors (descriptors_for n)) s asked (found_fit w.arena n place e) refl
    (asked.free (found_none (first_fit w.arena n 0) place (sym e)))

pub can_free_block : (w : World) (for_dpmi : Bool) (segment place : ℕ) → IsSound w → (for_dpmi ≡ true → w.width ≢ None) →
    Some place ≡ place_of_block for_dpmi w.arena segment 0 →
    CanPutBlock for_dpmi w (place - free_before w.arena place) (free_before w.arena place + (1 + free_entries_after w.arena place))
    (joined_entry w.arena place ∷ [])
    (run_of_block (entry_of_place w.arena place) (first_descriptor for_dpmi w.descriptors segment) (entry_of_place w.arena place).paras 0)
can_free_block w false segment place s can e = can_free w.arena false segment place refl s.arena (found_block false w.arena segment place e)
can_free_block w true segment place s can e =
    can_free_run w (first_descriptor true w.descriptors segment) place s (can refl)
    (block_run w segment place s (found_block true w.arena segment place e))

pub can_resize_block : (w : World) (for_dpmi : Bool) (n segment place : ℕ) → IsSound w → (for_dpmi ≡ true → CanResize w segment n) →
    Some place ≡ place_of_block for_dpmi w.arena segment 0 → n ≤ greatest_size w.arena place →
    CanPutBlock for_dpmi w place (1 + free_entries_after w.arena place)
    (split (block_state for_dpmi) (entry_of_place w.arena place).at n (greatest_size w.arena place))
    (run_of_block (entry_of_place w.arena place) (first_descriptor for_dpmi w.descriptors segment) (entry_of_place w.arena place).paras n)
can_resize_block w false n segment place s can e room =
    can_resize w.arena false n segment place refl s.arena (found_block false w.arena segment place e) room
can_resize_block w true n segment place s can e room =
    let asked = can refl in
    can_resize_run w n (first_descriptor true w.descriptors segment) place s asked.width
    (block_run w segment place s (found_block true w.arena segment place e))
    asked.some room (run_of_test w.descriptors _ _ (asked.free place (sym e) room))

-- what the service that resizes has asked
pub can_resize_named : (w : World) (n sel segment place : ℕ) → IsSound w → w.width ≢ None → n ≢ 0 →
    segment_of_selector w.descriptors sel ≡ Some segment → place_of_block true w.arena segment 0 ≡ Some place →
    has_room_to_grow w.descriptors
    (run_of_block (entry_of_place w.arena place) (index_of sel) (entry_of_place w.arena place).paras n) ≡ true → CanResize w segment n
can_resize_named w n sel segment place s width some found at grows =
    let first = first_is_named w sel segment place s found (found_block true w.arena segment place (sym at)) in
    let here : has_room_to_grow w.descriptors
    (run_of_block (entry_of_place w.arena place) (first_descriptor true w.descriptors segment) (entry_of_place w.arena place).paras n)
    ≡ true =
    subst (λ (k : ℕ).
    has_room_to_grow w.descriptors (run_of_block (entry_of_place w.arena place) k (entry_of_place w.arena place).paras n) ≡ true)
    (sym first) grows in
    grind (arith, number)

-- the same of what a call has read
pub can_put : (for_dpmi : Bool) (w : World) (place at old n : ℕ) (new put : List DosEntry) (run given : DosRun) →
    CanPutBlock for_dpmi w place old new run → at ≡ place → n ≡ old → put ≡ new → given ≡ run → CanPutBlock for_dpmi w at n put given
can_put for_dpmi w place at old n new put run given can at_is n_is put_is run_is = rw (at_is, n_is, put_is, run_is) can

-- ---- by the kind of the block

pub put_made : (for_dpmi : Bool) (w : World) (place old : ℕ) (new : List DosEntry) (run : DosRun) →
    CanPutBlock for_dpmi w place old new run → for_dpmi ≡ true → CanPutRun w place old new run
put_made true w place old new run can e = can
put_made false w place old new run can e = absurd cc

pub put_plain : (for_dpmi : Bool) (w : World) (place old : ℕ) (new : List DosEntry) (run : DosRun) →
    CanPutBlock for_dpmi w place old new run → for_dpmi ≡ false → CanPut w.arena place old new
put_plain true w place old new run can e = absurd cc
put_plain false w place old new run can e = can

pub made_is : (for_dpmi : Bool) (w : World) (place old : ℕ) (new : List DosEntry) (run : DosRun) → for_dpmi ≡ true →
    with_entries_and_run w place old new run ≡ with_block for_dpmi w place old new run
made_is true w place old new run e = refl
made_is false w place old new run e = absurd cc

pub plain_is : (for_dpmi : Bool) (w : World) (place old : ℕ) (new : List DosEntry) (run : DosRun) → for_dpmi ≡ false →
    with_entries w place old new ≡ with_block for_dpmi w place old new run
plain_is true w place old new run e = absurd cc
plain_is false w place old new run e = refl
