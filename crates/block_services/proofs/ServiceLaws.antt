-- What is true of each service is true of the one that is asked for: it changes registers, memory and pageable pages alone, and leads from
-- a sound world to a sound one.
use Rattle.std.proofs.Common.{ℕ, arith, ◌≡◌, refl, Option, None, Some, ◌≢◌, ◌∙◌, ◌≤◌, ◌<◌, ◌+◌, ◌-◌, ◌%◌, zero, suc, Bool, true, false}
use Rattle.std.proofs.Common.{List, [], ◌∷◌, length, slice_set, length-set, nat_eq, get_or-set_same, get_or-set_other}
use Rattle.std.proofs.{lemmas.Bool.{eqb-false, ltb-false}, lemmas.List.{get_or_past, set_past}}
use Rattle.client_world.specs.{World.{World, MemoryBlock, block_at}, declared.limits.TheConstants.{MAX_BLOCKS}}
use Rattle.client_world.specs.{declared.registers.Mode.TheVariants.{Protected}, Services.{es_di}, Soundness.{IsSound, pages_of_block}}
use Rattle.service_rows.specs.Reasons.{Service, unsupported, first_reason}
use Rattle.service_rows.proofs.{AnswerLaws.{if_has, of_answer, no_reason, sound_ax}, RunLaws.{first_is}, WidthLaws.{protected_width}}
use Rattle.block_services.specs.Rows.{allocate_block, mark_pageable, block_function, discard_pages, relock_pages, free_block}
use Rattle.block_services.specs.Rows.{free_memory_information, lock_pages, mark_paging_candidates, page_size, resize_block, unlock_pages}
use Rattle.block_services.specs.Rows.{with_new_block, with_resized_block, block_service, asked_pages, bx_cx, first_page, free_pages}
use Rattle.block_services.specs.{Rows.{new_base, page_count, si_di, with_blocks}, Free.{free_numbers, free_table, largest_new_block}}
use Rattle.block_services.specs.{Free.{with_dwords}, Gaps.{first_gap, lowest_handle}, Pages.{with_pages}}
use Rattle.guest_space.proofs.{FarLaws.{other_far_put, sound_far_put}, SoundLists.{IsSound-vectors}}
use Rattle.std.specs.Option.{is_none}
use Rattle.client_world.proofs.SoundWrites.{IsSound-regs}
use Rattle.guest_ram.specs.{Bytes.{AreBytes, dword_bytes, put}, Listed.{copies}}
use Rattle.guest_ram.proofs.{ListedLaws.{at_copies, length-copies}, ByteLists.{bytes_dword}}
use Rattle.block_memory.proofs.SizedSound.{sound_blocks}
use Rattle.block_services.proofs.{GoodBlocks.{Good, changed_good, freed_good, made_good, resized_good}, SpanLists.{handle_within}}
use Rattle.block_services.proofs.RoomLaws.{can_make, can_size, first_gap_is}

pub record Each (P : Service → Type 0) (w : World) : Type 0 where
  pub f500 : P (free_memory_information w)
  pub f501 : P (allocate_block w)
  pub f502 : P (free_block w)
  pub f503 : P (resize_block w)
  pub f600 : P (lock_pages w)
  pub f601 : P (unlock_pages w)
  pub f602 : P (mark_pageable w)
  pub f603 : P (relock_pages w)
  pub f604 : P (page_size w)
  pub f702 : P (mark_paging_candidates w)
  pub f703 : P (discard_pages w)
  pub other : P (unsupported w)

pub of_each_service : (P : Service → Type 0) (w : World) → Each P w → (ax : ℕ) → P (block_function ax w)
unfolding block_function
of_each_service P w e ax = grind (arith, if_has)

abbrev pub Kept : World → World → Type 0
Kept w v = v ≡ record w { regs = v.regs; dos = v.dos; blocks = v.blocks; pageable = v.pageable }

kept_made : (w : World) (gap handle : Option ℕ) → Kept w (with_new_block gap handle w)
kept_made w None handle = refl
kept_made w (Some page) None = refl
kept_made w (Some page) (Some handle) = refl

kept_resized : (w : World) (base : Option ℕ) → Kept w (with_resized_block base w)
kept_resized w None = refl
kept_resized w (Some base) = refl

kept_memory : (w v : World) → v ≡ record w { dos = v.dos; blocks = v.blocks } → Kept w v
kept_memory w v e = grind arith

kept_after : (ax : ℕ) (w : World) → Kept w (block_function ax w).after
unfolding allocate_block mark_pageable discard_pages relock_pages free_block free_memory_information lock_pages mark_paging_candidates
    page_size resize_block unlock_pages unsupported
kept_after ax w =
    of_each_service (λ (a : Service). Kept w a.after) w (grind (arith, kept_made, kept_memory, kept_resized, other_far_put)) ax

pub kept_service : (ax : ℕ) (w : World) → Kept w (block_service ax w).world
unfolding block_service
kept_service ax w =
    of_answer (Kept w) (first_reason (block_function ax w).reasons) w (block_function ax w).after refl (λ n. refl) (λ e. kept_after ax w)

-- ---- soundness

sound_general : (w : World) (b c s d : ℕ) → IsSound w → IsSound (record w { regs = record w.regs { ebx = b; ecx = c; esi = s; edi = d } })
sound_general w b c i d s = IsSound-regs w (record w.regs { ebx = b; ecx = c; esi = i; edi = d }) s (assumption)

good_of : (w : World) → IsSound w → Good w.blocks w.budget
good_of w s = record { sound = s.blocks; fits = s.block_bytes }

sound_good : (w : World) (blocks : List (Option MemoryBlock)) → IsSound w → w.width ≢ None → Good blocks w.budget →
    IsSound (with_blocks blocks w)
sound_good w blocks s width g = sound_blocks w blocks s width g.sound g.fits

-- the table of what is free is bytes

set_small : (bytes : List ℕ) (at v : ℕ) → AreBytes bytes → v < 0x100 → AreBytes (slice_set bytes at v)
set_small bytes at v small less k = grind (arith, get_or-set_other, get_or-set_same, set_past)

put_small : (bytes : List ℕ) (at : ℕ) (xs : List ℕ) → AreBytes bytes → AreBytes xs → AreBytes (put bytes at xs)
put_small bytes at [] small rest = small
put_small bytes at (x ∷ xs) small rest =
    put_small (slice_set bytes at x) (at + 1) xs (set_small bytes at x small (rest 0)) (λ k. rest (suc k))

dwords_small : (bytes : List ℕ) (at : ℕ) (vs : List ℕ) → AreBytes bytes → AreBytes (with_dwords bytes at vs)
dwords_small bytes at [] small = small
dwords_small bytes at (v ∷ vs) small =
    dwords_small (put bytes at (dword_bytes (v % 0x100000000))) (at + 4) vs
    (put_small bytes at (dword_bytes (v % 0x100000000)) small (bytes_dword (v % 0x100000000) (omega arith)))

copies_small : (n : ℕ) → AreBytes (copies n 0xFF)
copies_small n k = grind (arith, at_copies, get_or_past, length-copies)

table_small : (w : World) (most : ℕ) → AreBytes (free_table w most)
unfolding free_table
table_small w most = dwords_small (copies 0x30 0xFF) 0 (free_numbers w most) (copies_small 0x30)

-- blocks

lowest_is : (blocks : List (Option MemoryBlock)) (handle : ℕ) → lowest_handle blocks ≡ Some handle → (0 < handle) × (handle ≤ MAX_BLOCKS)
unfolding lowest_handle
lowest_is blocks handle e = grind (arith, first_is)

sound_made : (w : World) (gap handle : Option ℕ) → IsSound w → w.width ≢ None → first_gap w.blocks (asked_pages w) ≡ gap →
    lowest_handle w.blocks ≡ handle → 0 < asked_pages w → asked_pages w ≤ free_pages w → IsSound (with_new_block gap handle w)
sound_made w None handle s width e f some few = s
sound_made w (Some page) None s width e f some few = s
sound_made w (Some page) (Some handle) s width e f some few =
    let range = lowest_is w.blocks handle f in
    sound_general _ _ _ _ _ (sound_good w _ s width (made_good w.blocks w.budget handle _ (asked_pages w) (good_of w s) range.0 range.1
    (can_make w.blocks w.budget page (asked_pages w) s.blocks (first_gap_is w.blocks (asked_pages w) page e) some few)))

some_of : (o : Option MemoryBlock) → is_none o ≡ false → (b : MemoryBlock) × (o ≡ Some b)
some_of None e = absurd cc
some_of (Some b) e = (b, refl)

handle_most : (w : World) (handle : ℕ) → IsSound w → is_none (block_at w.blocks handle) ≡ false → handle ≤ MAX_BLOCKS
handle_most w handle s e = grind (arith, handle_within, some_of)

not_none : (o : Option MemoryBlock) → is_none o ≡ false → o ≢ None
not_none None e same = absurd cc
not_none (Some b) e same = absurd cc

sound_resized : (w : World) (base : Option ℕ) → IsSound w → w.width ≢ None → new_base w.blocks (si_di w) (asked_pages w) ≡ base →
    is_none (block_at w.blocks (si_di w)) ≡ false → 0 < asked_pages w →
    asked_pages w - pages_of_block (block_at w.blocks (si_di w)) ≤ free_pages w → IsSound (with_resized_block base w)
sound_resized w None s width e held some few = s
sound_resized w (Some base) s width e held some few =
    sound_general _ _ _ _ _ (sound_good w _ s width
    (resized_good w.blocks w.budget (si_di w) base (asked_pages w) (good_of w s) (handle_most w (si_di w) s held)
    (can_size w.blocks w.budget (si_di w) base (asked_pages w) s.blocks (not_none (block_at w.blocks (si_di w)) held) e some few)))

some_pages : (w : World) → nat_eq (bx_cx w) 0 ≡ false → 0 < asked_pages w
some_pages w e = (let ne = eqb-false (bx_cx w) 0 e in omega arith)

-- pageable pages

length-with_pages : (on : Bool) (pages : List Bool) (page n : ℕ) → length (with_pages on pages page n) ≡ length pages
unfolding with_pages
length-with_pages on pages page zero = refl
length-with_pages on pages page (suc n) = length-with_pages on (slice_set pages page on) (page + 1) n ∙ length-set pages page on

sound_pageable : (w : World) (on : Bool) → IsSound w →
    IsSound (record w { pageable = with_pages on w.pageable (first_page w) (page_count w) })
sound_pageable w on s = IsSound-vectors w w.interrupt_vectors w.exception_vectors (with_pages on w.pageable (first_page w) (page_count w)) s
    s.interrupt_vectors s.exception_vectors (length-with_pages on w.pageable (first_page w) (page_count w) ∙ s.pageable)

sound_after : (ax : ℕ) (w : World) → IsSound w → w.width ≢ None → first_reason (block_function ax w).reasons ≡ None →
    IsSound (block_function ax w).after
unfolding allocate_block mark_pageable discard_pages relock_pages free_block free_memory_information lock_pages mark_paging_candidates
    page_size resize_block unlock_pages unsupported
sound_after ax w s width = of_each_service (λ (a : Service). first_reason a.reasons ≡ None → IsSound a.after) w (record {
  f500 = λ e. sound_far_put w (es_di w) 0x30 _ s (table_small w (largest_new_block w.blocks (free_pages w)));
  f501 = λ e. (let none = no_reason (allocate_block w).reasons e in
      sound_made w (first_gap w.blocks (asked_pages w)) (lowest_handle w.blocks) s width refl refl (some_pages w none.0)
      (ltb-false (free_pages w) (asked_pages w) none.1.0));
  f502 = λ e. sound_good w _ s width
      (freed_good w.blocks w.budget (si_di w) (good_of w s) (handle_most w (si_di w) s (no_reason (free_block w).reasons e).0));
  f503 = λ e. (let none = no_reason (resize_block w).reasons e in
      sound_resized w (new_base w.blocks (si_di w) (asked_pages w)) s width refl none.0 (some_pages w none.1.0)
      (ltb-false (free_pages w) (asked_pages w - pages_of_block (block_at w.blocks (si_di w))) none.1.1.0));
  f600 = λ e. sound_good w _ s width (changed_good _ w.blocks w.budget _ _ (good_of w s));
  f601 = λ e. sound_good w _ s width (changed_good _ w.blocks w.budget _ _ (good_of w s));
  f602 = λ e. sound_pageable w true s;
  f603 = λ e. sound_pageable w false s;
  f604 = λ e. sound_general w _ _ w.regs.esi w.regs.edi s;
  f702 = λ e. s;
  f703 = λ e. sound_good w _ s width (changed_good _ w.blocks w.budget _ _ (good_of w s));
  other = λ e. s;
}) ax

pub sound_service : (ax : ℕ) (w : World) → IsSound w → w.mode ≡ Protected → IsSound (block_service ax w).world
unfolding block_service
sound_service ax w s protected =
    of_answer IsSound (first_reason (block_function ax w).reasons) w (block_function ax w).after s (λ n. sound_ax w n s)
    (sound_after ax w s (protected_width w s protected))
