-- Every service on DOS memory leads from a sound world to a sound one, as a block given, resized or freed does, and changes registers, the
-- megabyte, the arena and descriptors alone.
use Rattle.std.proofs.Common.{◌≡◌, ℕ, ◌+◌, List, Bool, true, false, nat_le, if◌then◌else◌, refl, sym, Option, Some, None, Ok, Err, ◌≢◌, ◌<◌}
use Rattle.std.proofs.{Common.{nat_eq, nat_lt, inl, inr, length, ap, subst, arith, Result}, lemmas.Bool.{leb-true, cases_eq, and_parts}}
use Rattle.std.proofs.lemmas.Bool.{eq-eqb, ne_eqb, ltb-true}
use Rattle.client_world.specs.{declared.dos_memory.DosEntry.{DosEntry}, declared.dos_memory.DosRefusal.TheVariants.{NoMemory, WrongBlock}}
use Rattle.client_world.specs.{Soundness.{IsSound, descriptors_for}, World.{World}, declared.dos_memory.DosRefusal.{DosRefusal}}
use Rattle.client_world.specs.{declared.dos_memory.DosRun.{DosRun}, declared.registers.Mode.TheVariants.{Protected}, Selector.{index_of}}
use Rattle.client_world.specs.Services.{bx, dx}
use Rattle.guest_space.specs.{Arena.{with_entries}, DosRuns.{CanPutRun, with_entries_and_run}}
use Rattle.guest_space.proofs.{ArenaWrites.{IsSound-entries}, DosRunsSound.{IsSound-run}}
use Rattle.dos_blocks.specs.Blocks.{Done, first_fit, place_of_block, entry_of_place, block_state, split, free_entries_after, greatest_size}
use Rattle.dos_blocks.specs.Blocks.{allocation_result_at, allocation_result, resize_result_at, resize_result, free_result_at, free_result}
use Rattle.dos_blocks.specs.{Blocks.{run_of_block}, Puts.{CanPut}, Services.{allocate_dos_block, served_result, can_have, dos_service}}
use Rattle.dos_blocks.specs.Services.{free_dos_block, free_result_of_segment, place_of_selector, resize_dos_block, resize_result_of_segment}
use Rattle.dos_blocks.specs.Services.{resize_result_of_place, segment_of_selector, with_refusal}
use Rattle.dos_blocks.proofs.{RunPuts.{can_give, can_resize, can_free, can_free_run, can_give_run, can_resize_run}, Searches.{found_fit}}
use Rattle.dos_blocks.proofs.{Searches.{found_block}, Splicing.{entry_within}, OneStep.{freed_is, freed_with_run, given_at, given_is}}
use Rattle.dos_blocks.proofs.{OneStep.{resized_is, resized_with_run}, SelectorLaws.{selector_block}}
use Rattle.client_world.proofs.SoundWrites.{IsSound-regs}
use Rattle.service_rows.specs.FreeRun.{first_free_run}
use Rattle.service_rows.proofs.{RunLaws.{free_run_of, run_of_test}, WidthLaws.{protected_width}}

sound_put : (w : World) (place old : ℕ) (new : List DosEntry) → IsSound w → CanPut w.arena place old new →
    IsSound (with_entries w place old new)
sound_put w place old new s can = IsSound-entries w place old new s can.old_plain can.new_plain can.sound

-- a block is given

sound_given : (w : World) (n : ℕ) (o : Option ℕ) → first_fit w.arena n 0 ≡ o → IsSound w → IsSound (allocation_result_at w false n o).world
sound_given w n None e s = s
sound_given w n (Some place) e s = sound_put w place 1 _ s (can_give w.arena false n place refl s.arena (found_fit w.arena n place (sym e)))

pub sound_allocated : (w : World) (n : ℕ) → IsSound w → IsSound (allocation_result w false n).world
unfolding allocation_result
sound_allocated w n s = sound_given w n (first_fit w.arena n 0) refl s

-- resized

sound_if : (c : Bool) (one other : Done (Unit {0})) → (c ≡ true → IsSound one.world) → IsSound other.world →
    IsSound (if c then one else other).world
sound_if true one other s t = s refl
sound_if false one other s t = t

sound_where_found : (w : World) (segment n : ℕ) (o : Option ℕ) → place_of_block false w.arena segment 0 ≡ o → IsSound w →
    IsSound (resize_result_at w false segment n o).world
sound_where_found w segment n None e s = s
sound_where_found w segment n (Some place) e s =
    let es = w.arena in
    sound_if (nat_le n (greatest_size es place))
    (record {
      answer = Ok tt;
      world = with_entries w place (1 + free_entries_after es place)
          (split (block_state false) (entry_of_place es place).at n (greatest_size es place));
    })
    (record { answer = Err (NoMemory (greatest_size es place)); world = w })
    (λ room. sound_put w place (1 + free_entries_after es place) _ s
    (can_resize es false n segment place refl s.arena (found_block false es segment place (sym e))
    (leb-true n (greatest_size es place) room))) s

pub sound_resized : (w : World) (segment n : ℕ) → IsSound w → IsSound (resize_result w false segment n).world
unfolding resize_result
sound_resized w segment n s = sound_where_found w segment n (place_of_block false w.arena segment 0) refl s

-- freed

sound_where_freed : (w : World) (segment : ℕ) (o : Option ℕ) → place_of_block false w.arena segment 0 ≡ o → IsSound w →
    IsSound (free_result_at w false segment o).world
sound_where_freed w segment None e s = s
sound_where_freed w segment (Some place) e s =
    sound_put w _ _ _ s (can_free w.arena false segment place refl s.arena (found_block false w.arena segment place (sym e)))

pub sound_freed : (w : World) (segment : ℕ) → IsSound w → IsSound (free_result w false segment).world
unfolding free_result
sound_freed w segment s = sound_where_freed w segment (place_of_block false w.arena segment 0) refl s

-- ---- services, with descriptors

-- ---- choices

of_choice : {A : Type 0} (P : A → Type 0) (c : Bool) (one other : A) → (c ≡ true → P one) → (c ≡ false → P other) →
    P (if c then one else other)
of_choice P true one other chosen left = chosen refl
of_choice P false one other chosen left = left refl

of_reported : (P : World → Type 0) (answer : Result (Unit {0}) DosRefusal) (w : World) → P w →
    ((refusal : DosRefusal) → P (with_refusal refusal w)) → P (served_result (record { answer = answer; world = w })).world
unfolding served_result
of_reported P (Ok v) w here refused = here
of_reported P (Err refusal) w here refused = refused refusal

of_each_service : (P : World → Type 0) (ax : ℕ) (w : World) → P w → P (served_result (allocate_dos_block w)).world →
    P (served_result (free_dos_block w)).world → P (served_result (resize_dos_block w)).world → P (dos_service ax w).world
unfolding dos_service
of_each_service P ax w same given freed resized = grind (arith, of_choice)

-- ---- sound

sound_registers : (w : World) (a b d : ℕ) → IsSound w → IsSound (record w { regs = record w.regs { eax = a; ebx = b; edx = d } })
sound_registers w a b d s = IsSound-regs w (record w.regs { eax = a; ebx = b; edx = d }) s (assumption)

sound_refusal : (w : World) (refusal : DosRefusal) → IsSound w → IsSound (with_refusal refusal w)
sound_refusal w (NoMemory most) s = sound_registers w _ _ w.regs.edx s
sound_refusal w WrongBlock s = sound_registers w _ w.regs.ebx w.regs.edx s

sound_reported : (done : Done (Unit {0})) → IsSound done.world → IsSound (served_result done).world
sound_reported done s = of_reported IsSound done.answer done.world s (λ refusal. sound_refusal done.world refusal s)

sound_put_run : (w : World) (place at old first before after : ℕ) (new : List DosEntry) → IsSound w → place < length w.arena →
    after < 0x10000 → CanPutRun w at old new (run_of_block (entry_of_place w.arena place) first before after) →
    IsSound (with_entries_and_run w at old new (run_of_block (entry_of_place w.arena place) first before after))
sound_put_run w place at old first before after new s small fits can =
    let within = entry_within w.arena place s.arena small in
    let ends = within.ends in
    IsSound-run w at old new (run_of_block (entry_of_place w.arena place) first before after) (omega arith) fits s can

sound_given_run : (w : World) (n : ℕ) (fit first : Option ℕ) → IsSound w → w.width ≢ None → n ≢ 0 → n < 0x10000 →
    first_fit w.arena n 0 ≡ fit → first_free_run w.descriptors (descriptors_for n) ≡ first → IsSound (given_at n fit first w).world
unfolding with_entries
sound_given_run w n None first s width some small e f = s
sound_given_run w n (Some place) None s width some small e f = s
sound_given_run w n (Some place) (Some first) s width some small e f =
    let fit = found_fit w.arena n place (sym e) in
    let run = free_run_of w.descriptors (descriptors_for n) first f in
    sound_registers (with_entries_and_run w place 1 _ (run_of_block (entry_of_place w.arena place) first 0 n)) _ w.regs.ebx _
    (sound_put_run w place place 1 first 0 n _ s fit.small small (can_give_run w n place first s width some fit run.0 run.1))

sound_allocate : (w : World) → IsSound w → w.width ≢ None → IsSound (allocate_dos_block w).world
unfolding allocate_dos_block
sound_allocate w s width = elim (cases_eq (bx w) 0) [
  | inl none ↦ rw (eq-eqb (bx w) 0 none) s
  | inr some ↦ rw (ne_eqb (bx w) 0 some)
      (subst (λ (d : Done (Unit {0})). IsSound d.world)
      (sym (given_is w (bx w) (first_fit w.arena (bx w) 0) (first_free_run w.descriptors (descriptors_for (bx w))) refl refl))
      (sound_given_run w (bx w) (first_fit w.arena (bx w) 0) (first_free_run w.descriptors (descriptors_for (bx w))) s width some
      (omega arith)
      refl refl))
]

sound_freed_run : (w : World) (sel : ℕ) (o : Option ℕ) → IsSound w → w.width ≢ None → place_of_selector w sel ≡ o →
    IsSound (freed_with_run (index_of sel) o w).world
sound_freed_run w sel None s width e = s
sound_freed_run w sel (Some place) s width e =
    let block = selector_block w sel place s (sym e) in
    sound_put_run w place _ _ (index_of sel) _ 0 _ s block.small (omega arith) (can_free_run w (index_of sel) place s width block)

sound_free : (w : World) → IsSound w → w.width ≢ None → IsSound (free_dos_block w).world
unfolding free_dos_block
sound_free w s width = subst (λ (d : Done (Unit {0})). IsSound d.world) (sym (freed_is w (dx w) s))
    (sound_freed_run w (dx w) (place_of_selector w (dx w)) s width refl)

sound_resized_run : (w : World) (n sel : ℕ) (o : Option ℕ) → IsSound w → w.width ≢ None → n < 0x10000 → place_of_selector w sel ≡ o →
    IsSound (resized_with_run n (index_of sel) o w).world
sound_resized_run w n sel None s width small e = s
sound_resized_run w n sel (Some place) s width small e =
    of_choice (λ (d : Done (Unit {0})). IsSound d.world) (can_have w n (index_of sel) place) _ _
    (λ can. (let block = selector_block w sel place s (sym e) in
    let parts = and_parts (nat_lt 0 n) _ can in
    let rest = and_parts (nat_le n (greatest_size w.arena place)) _ parts.1 in
    let some = ltb-true 0 n parts.0 in
    sound_put_run w place place _ (index_of sel) _ n _ s block.small small
    (can_resize_run w n (index_of sel) place s width block (λ none. omega arith) (leb-true n (greatest_size w.arena place) rest.0)
    (run_of_test w.descriptors _ _ rest.1))))
    (λ left. s)

sound_resize : (w : World) → IsSound w → w.width ≢ None → IsSound (resize_dos_block w).world
unfolding resize_dos_block
sound_resize w s width = grind (arith, resized_is, sound_resized_run)

pub sound_service : (ax : ℕ) (w : World) → IsSound w → w.mode ≡ Protected → IsSound (dos_service ax w).world
sound_service ax w s protected =
    let width = protected_width w s protected in
    of_each_service IsSound ax w s (sound_reported (allocate_dos_block w) (sound_allocate w s width))
    (sound_reported (free_dos_block w) (sound_free w s width))
    (sound_reported (resize_dos_block w) (sound_resize w s width))

-- ---- the rest is kept

abbrev Kept : World → World → Type 0
Kept w v = v ≡ record w { regs = v.regs; dos = v.dos; arena = v.arena; descriptors = v.descriptors }

kept_refusal : (w v : World) (refusal : DosRefusal) → Kept w v → Kept w (with_refusal refusal v)
kept_refusal w v (NoMemory most) k = ap (λ (x : World). with_refusal (NoMemory most) x) k
kept_refusal w v WrongBlock k = ap (λ (x : World). with_refusal WrongBlock x) k

kept_reported : (w : World) (done : Done (Unit {0})) → Kept w done.world → Kept w (served_result done).world
kept_reported w done k = of_reported (Kept w) done.answer done.world k (λ refusal. kept_refusal w done.world refusal k)

kept_put : (w : World) (place old : ℕ) (new : List DosEntry) (run : DosRun) → Kept w (with_entries_and_run w place old new run)
unfolding with_entries
kept_put w place old new run = refl

kept_given : (w : World) (n : ℕ) (fit first : Option ℕ) → Kept w (given_at n fit first w).world
unfolding with_entries
kept_given w n None first = refl
kept_given w n (Some place) None = refl
kept_given w n (Some place) (Some first) = refl

kept_allocate : (w : World) → Kept w (allocate_dos_block w).world
unfolding allocate_dos_block
kept_allocate w = of_choice (λ (d : Done (Unit {0})). Kept w d.world) (nat_eq (bx w) 0) _ _ (λ none. refl)
    (λ some. subst (λ (d : Done (Unit {0})). Kept w d.world)
    (sym (given_is w (bx w) (first_fit w.arena (bx w) 0) (first_free_run w.descriptors (descriptors_for (bx w))) refl refl))
    (kept_given w (bx w) (first_fit w.arena (bx w) 0) (first_free_run w.descriptors (descriptors_for (bx w)))))

kept_freed : (w : World) (segment : ℕ) (o : Option ℕ) → Kept w (free_result_at w true segment o).world
kept_freed w segment None = refl
kept_freed w segment (Some place) = kept_put w _ _ _ _

kept_freed_named : (w : World) (o : Option ℕ) → Kept w (free_result_of_segment o w).world
unfolding free_result
kept_freed_named w None = refl
kept_freed_named w (Some segment) = kept_freed w segment (place_of_block true w.arena segment 0)

kept_free : (w : World) → Kept w (free_dos_block w).world
unfolding free_dos_block
kept_free w = kept_freed_named w (segment_of_selector w.descriptors (dx w))

kept_resized_at : (w : World) (segment n : ℕ) (o : Option ℕ) → Kept w (resize_result_at w true segment n o).world
kept_resized_at w segment n None = refl
kept_resized_at w segment n (Some place) =
    of_choice (λ (d : Done (Unit {0})). Kept w d.world) (nat_le n (greatest_size w.arena place)) _ _ (λ can. kept_put w _ _ _ _)
    (λ left. refl)

kept_resized : (w : World) (n first segment : ℕ) (o : Option ℕ) → Kept w (resize_result_of_place n first segment o w).world
unfolding resize_result
kept_resized w n first segment None = refl
kept_resized w n first segment (Some place) = grind (arith, kept_resized_at, of_choice)

kept_resized_from : (w : World) (n first : ℕ) (o : Option ℕ) → Kept w (resize_result_of_segment n first o w).world
kept_resized_from w n first None = refl
kept_resized_from w n first (Some segment) = kept_resized w n first segment (place_of_block true w.arena segment 0)

kept_resize : (w : World) → Kept w (resize_dos_block w).world
unfolding resize_dos_block
kept_resize w = kept_resized_from w (bx w) (index_of (dx w)) (segment_of_selector w.descriptors (dx w))

pub kept_service : (ax : ℕ) (w : World) → Kept w (dos_service ax w).world
kept_service ax w = of_each_service (Kept w) ax w refl (kept_reported w (allocate_dos_block w) (kept_allocate w))
    (kept_reported w (free_dos_block w) (kept_free w))
    (kept_reported w (resize_dos_block w) (kept_resize w))
