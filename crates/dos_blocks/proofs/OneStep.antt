-- The services in one step: what they put at the place of the block that they find; one that is refused changes AX and BX alone.
use Rattle.std.proofs.Common.{◌≡◌, ℕ, ◌+◌, ◌-◌, Bool, true, false, [], ◌∷◌, refl, ap, ◌∙◌, sym, Option, Some, None, Ok, Err, if◌then◌else◌}
use Rattle.std.proofs.{Common.{nat_le, nat_lt, arith, nat_eq, subst, Result}, lemmas.Bool.{and_parts, cond-true}}
use Rattle.client_world.specs.declared.dos_memory.DosRefusal.TheVariants.{NoMemory, WrongBlock}
use Rattle.client_world.specs.{declared.dos_memory.DosState.TheVariants.{Dpmi}, DosMemory.{block_segment}, Selector.{index_of, selector_of}}
use Rattle.client_world.specs.{Soundness.{IsSound, descriptors_for}, World.{World}, declared.dos_memory.DosRefusal.{DosRefusal}}
use Rattle.client_world.specs.{declared.services.Carry.TheVariants.{Set}, Registers.{low_half}, Services.{Served, bx, dx}}
use Rattle.guest_space.specs.DosRuns.{with_entries_and_run}
use Rattle.service_rows.specs.{FreeRun.{first_free_run}, Rows.{with_ax}, Reasons.{HasOtherAxAndBx}}
use Rattle.dos_blocks.specs.Blocks.{Done, allocation_result, allocation_result_at, entry_of_place, first_fit, free_before}
use Rattle.dos_blocks.specs.Blocks.{free_entries_after, free_result, free_result_at, joined_entry, largest, place_of_block, greatest_size}
use Rattle.dos_blocks.specs.{Blocks.{resize_result, resize_result_at, run_of_block, split}, Services.{can_have, free_result_of_segment}}
use Rattle.dos_blocks.specs.Services.{allocation_result_from, place_of_segment, place_of_selector, resize_result_of_segment}
use Rattle.dos_blocks.specs.Services.{resize_result_of_place, segment_of_selector, with_dx, with_first_selector, allocate_dos_block}
use Rattle.dos_blocks.specs.Services.{dos_service, free_dos_block, resize_dos_block, served_result, with_refusal}
use Rattle.dos_blocks.specs.declared.services.TheConstants.{NO_MEMORY, WRONG_BLOCK}
use Rattle.dos_blocks.proofs.{BlockRuns.{first_is_named}, Searches.{found_block}}
use Rattle.service_rows.proofs.AnswerLaws.{ax_and_bx, same_ax, same_bx}

-- ---- 0100h

abbrev pub given_at : ℕ → Option ℕ → Option ℕ → World → Done (Unit {0})
given_at n None first w = record { answer = Err (NoMemory (largest w.arena)); world = w }
given_at n (Some place) None w = record { answer = Err (NoMemory (largest w.arena)); world = w }
given_at n (Some place) (Some first) w = record {
  answer = Ok tt;
  world = with_dx (selector_of first) (with_ax (block_segment (entry_of_place w.arena place))
      (with_entries_and_run w place 1 (split Dpmi (entry_of_place w.arena place).at n (entry_of_place w.arena place).paras)
      (run_of_block (entry_of_place w.arena place) first 0 n)));
}

pub given_is : (w : World) (n : ℕ) (fit first : Option ℕ) → first_fit w.arena n 0 ≡ fit →
    first_free_run w.descriptors (descriptors_for n) ≡ first → allocation_result_from n first w ≡ given_at n fit first w
unfolding allocation_result
given_is w n None None e f = refl
given_is w n (Some place) None e f = refl
given_is w n None (Some first) e f = ap (λ (o : Option ℕ). with_first_selector first (allocation_result_at w true n o)) e
given_is w n (Some place) (Some first) e f = grind arith

-- ---- 0101h

abbrev pub freed_with_run : ℕ → Option ℕ → World → Done (Unit {0})
freed_with_run first None w = record { answer = Err WrongBlock; world = w }
freed_with_run first (Some place) w = record {
  answer = Ok tt;
  world = with_entries_and_run w (place - free_before w.arena place) (free_before w.arena place + (1 + free_entries_after w.arena place))
      (joined_entry w.arena place ∷ [])
      (run_of_block (entry_of_place w.arena place) first (entry_of_place w.arena place).paras 0);
}

freed_in : (w : World) (sel segment : ℕ) (o : Option ℕ) → IsSound w → segment_of_selector w.descriptors sel ≡ Some segment →
    place_of_block true w.arena segment 0 ≡ o → free_result_at w true segment o ≡ freed_with_run (index_of sel) o w
freed_in w sel segment None s found e = refl
freed_in w sel segment (Some place) s found e =
    ap (λ (first : ℕ). freed_with_run first (Some place) w)
    (first_is_named w sel segment place s found (found_block true w.arena segment place (sym e)))

freed_by : (w : World) (sel : ℕ) (o : Option ℕ) → IsSound w → segment_of_selector w.descriptors sel ≡ o →
    free_result_of_segment o w ≡ freed_with_run (index_of sel) (place_of_segment w.arena o) w
unfolding free_result
freed_by w sel None s found = refl
freed_by w sel (Some segment) s found = freed_in w sel segment (place_of_block true w.arena segment 0) s found refl

pub freed_is : (w : World) (sel : ℕ) → IsSound w →
    free_result_of_segment (segment_of_selector w.descriptors sel) w ≡ freed_with_run (index_of sel) (place_of_selector w sel) w
unfolding place_of_selector
freed_is w sel s = freed_by w sel (segment_of_selector w.descriptors sel) s refl

-- ---- 0102h

abbrev pub resized_with_run : ℕ → ℕ → Option ℕ → World → Done (Unit {0})
resized_with_run n first None w = record { answer = Err WrongBlock; world = w }
resized_with_run n first (Some place) w =
    if can_have w n first place then record {
      answer = Ok tt;
      world = with_entries_and_run w place (1 + free_entries_after w.arena place)
          (split Dpmi (entry_of_place w.arena place).at n (greatest_size w.arena place))
          (run_of_block (entry_of_place w.arena place) first (entry_of_place w.arena place).paras n);
    }
    else record { answer = Err (NoMemory (greatest_size w.arena place)); world = w }

abbrev resized_to : World → ℕ → ℕ → ℕ → Done (Unit {0})
resized_to w n place first = record {
  answer = Ok tt;
  world = with_entries_and_run w place (1 + free_entries_after w.arena place)
      (split Dpmi (entry_of_place w.arena place).at n (greatest_size w.arena place))
      (run_of_block (entry_of_place w.arena place) first (entry_of_place w.arena place).paras n);
}

resized_where : (w : World) (n sel segment place : ℕ) (can : Bool) → IsSound w → segment_of_selector w.descriptors sel ≡ Some segment →
    place_of_block true w.arena segment 0 ≡ Some place → can_have w n (index_of sel) place ≡ can →
    (if can then resize_result w true segment n else record { answer = Err (NoMemory (greatest_size w.arena place)); world = w })
    ≡ (if can then resized_to w n place (index_of sel) else record { answer = Err (NoMemory (greatest_size w.arena place)); world = w })
unfolding resize_result
resized_where w n sel segment place false s found e is = refl
resized_where w n sel segment place true s found e is =
    let rest = and_parts (nat_lt 0 n) _ is in
    let room = and_parts (nat_le n (greatest_size w.arena place)) _ rest.1 in
    ap (resize_result_at w true segment n) e ∙ cond-true _ _ _ room.0
    ∙ ap (resized_to w n place) (first_is_named w sel segment place s found (found_block true w.arena segment place (sym e)))

resized_in : (w : World) (n sel segment : ℕ) (o : Option ℕ) → IsSound w → segment_of_selector w.descriptors sel ≡ Some segment →
    place_of_block true w.arena segment 0 ≡ o → resize_result_of_place n (index_of sel) segment o w ≡ resized_with_run n (index_of sel) o w
resized_in w n sel segment None s found e = refl
resized_in w n sel segment (Some place) s found e = resized_where w n sel segment place (can_have w n (index_of sel) place) s found e refl

resized_by : (w : World) (n sel : ℕ) (o : Option ℕ) → IsSound w → segment_of_selector w.descriptors sel ≡ o →
    resize_result_of_segment n (index_of sel) o w ≡ resized_with_run n (index_of sel) (place_of_segment w.arena o) w
resized_by w n sel None s found = refl
resized_by w n sel (Some segment) s found = resized_in w n sel segment (place_of_block true w.arena segment 0) s found refl

pub resized_is : (w : World) (n sel : ℕ) → IsSound w → resize_result_of_segment n (index_of sel) (segment_of_selector w.descriptors sel) w
    ≡ resized_with_run n (index_of sel) (place_of_selector w sel) w
unfolding place_of_selector
resized_is w n sel s = resized_by w n sel (segment_of_selector w.descriptors sel) s refl

-- ---- refused

-- a call that refuses leaves the world
abbrev Leaves : World → Done (Unit {0}) → Type 0
Leaves w done = (refusal : DosRefusal) → done.answer ≡ Err refusal → done.world ≡ w

by_choice : (w : World) (c : Bool) (one other : Done (Unit {0})) → Leaves w one → Leaves w other → Leaves w (if c then one else other)
by_choice w true one other chosen left = chosen
by_choice w false one other chosen left = left

left_given : (w : World) (n : ℕ) (fit first : Option ℕ) → Leaves w (given_at n fit first w)
left_given w n None first refusal e = refl
left_given w n (Some place) None refusal e = refl
left_given w n (Some place) (Some first) refusal e = absurd cc

left_allocate : (w : World) → Leaves w (allocate_dos_block w)
unfolding allocate_dos_block
left_allocate w = by_choice w (nat_eq (bx w) 0) _ _ (λ refusal e. refl)
    (subst (λ (d : Done (Unit {0})). Leaves w d)
    (sym (given_is w (bx w) (first_fit w.arena (bx w) 0) (first_free_run w.descriptors (descriptors_for (bx w))) refl refl))
    (left_given w (bx w) (first_fit w.arena (bx w) 0) (first_free_run w.descriptors (descriptors_for (bx w)))))

left_freed_at : (w : World) (segment : ℕ) (o : Option ℕ) → Leaves w (free_result_at w true segment o)
left_freed_at w segment None refusal e = refl
left_freed_at w segment (Some place) refusal e = absurd cc

left_freed : (w : World) (o : Option ℕ) → Leaves w (free_result_of_segment o w)
unfolding free_result
left_freed w None refusal e = refl
left_freed w (Some segment) refusal e = left_freed_at w segment (place_of_block true w.arena segment 0) refusal e

left_free : (w : World) → Leaves w (free_dos_block w)
unfolding free_dos_block
left_free w = left_freed w (segment_of_selector w.descriptors (dx w))

left_done : (w u : World) → Leaves w (record { answer = Ok tt; world = u })
left_done w u refusal e = absurd cc

left_resized_at : (w : World) (segment n : ℕ) (o : Option ℕ) → Leaves w (resize_result_at w true segment n o)
left_resized_at w segment n None = λ refusal e. refl
left_resized_at w segment n (Some place) = by_choice w (nat_le n (greatest_size w.arena place)) _ _ (left_done w _) (λ refusal e. refl)

left_resized : (w : World) (n first segment : ℕ) (o : Option ℕ) → Leaves w (resize_result_of_place n first segment o w)
unfolding resize_result
left_resized w n first segment None = λ refusal e. refl
left_resized w n first segment (Some place) = by_choice w (can_have w n first place) _ _
    (left_resized_at w segment n (place_of_block true w.arena segment 0)) (λ refusal e. refl)

left_resized_from : (w : World) (n first : ℕ) (o : Option ℕ) → Leaves w (resize_result_of_segment n first o w)
left_resized_from w n first None = λ refusal e. refl
left_resized_from w n first (Some segment) = left_resized w n first segment (place_of_block true w.arena segment 0)

left_resize : (w : World) → Leaves w (resize_dos_block w)
unfolding resize_dos_block
left_resize w = left_resized_from w (bx w) (index_of (dx w)) (segment_of_selector w.descriptors (dx w))

-- ---- what the client gets

abbrev Refuses : World → Served → Type 0
Refuses w s = s.carry ≡ Set → HasOtherAxAndBx w s.world

refused_result : (w u : World) (answer : Result (Unit {0}) DosRefusal) → ((refusal : DosRefusal) → answer ≡ Err refusal → u ≡ w) →
    Refuses w (served_result (record { answer = answer; world = u }))
unfolding served_result
refused_result w u (Ok v) left e = absurd cc
refused_result w u (Err (NoMemory most)) left e =
    (NO_MEMORY, most, ap (λ (x : World). with_refusal (NoMemory most) x) (left (NoMemory most) refl))
refused_result w u (Err WrongBlock) left e = (
  WRONG_BLOCK,
  low_half w.regs.ebx,
  ap (λ (x : World). with_refusal WrongBlock x) (left WrongBlock refl)
      ∙ ap (λ (x : World). with_ax WRONG_BLOCK x) (same_bx w),
)

refused_done : (w : World) (done : Done (Unit {0})) → Leaves w done → Refuses w (served_result done)
refused_done w done left = refused_result w done.world done.answer left

one_of : (w : World) (c : Bool) (one other : Served) → Refuses w one → Refuses w other → Refuses w (if c then one else other)
one_of w true one other chosen left = chosen
one_of w false one other chosen left = left

pub refused_service : (ax : ℕ) (w : World) → (dos_service ax w).carry ≡ Set → HasOtherAxAndBx w (dos_service ax w).world
unfolding dos_service
refused_service ax w =
    one_of w (nat_eq ax 0x0100) _ _ (refused_done w (allocate_dos_block w) (left_allocate w))
    (one_of w (nat_eq ax 0x0101) _ _ (refused_done w (free_dos_block w) (left_free w))
    (one_of w (nat_eq ax 0x0102) _ _ (refused_done w (resize_dos_block w) (left_resize w)) (λ e. ax_and_bx w w (same_ax w))))
