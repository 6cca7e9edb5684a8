-- The services on callbacks: they change the callbacks and the registers alone, and the world stays sound. First which slots are free.
use Rattle.std.proofs.Common.{◌≡◌, ◌≤◌, ℕ, Bool, List, length, arith, Option, None, ◌≢◌, length-set, refl, ◌∙◌, Some}
use Rattle.std.proofs.lemmas.List.{get_or_past}
use Rattle.std.specs.Prelude.{is_none, nat_eq, slice_set}
use Rattle.client_world.specs.{declared.limits.TheConstants.{CALLBACKS}, World.{Callback, World}}
use Rattle.client_world.specs.{declared.registers.Mode.TheVariants.{Protected}, declared.registers.Regs.{Regs}}
use Rattle.client_world.specs.{declared.services.Carry.TheVariants.{Set}, Services.{es_di}, Soundness.{IsSound, HasSegments}}
use Rattle.guest_space.specs.VectorLists.{callback_of_slot}
use Rattle.client_world.proofs.SoundWrites.{IsSound-regs}
use Rattle.guest_space.proofs.SoundLists.{IsSound-callbacks}
use Rattle.service_rows.specs.Reasons.{HasOtherAx, Service, first_reason, unsupported}
use Rattle.service_rows.proofs.{AnswerLaws.{if_has, of_answer, refused_by_family, sound_ax}, WidthLaws.{protected_width}}
use Rattle.callbacks.specs.{HandOver.{LeftByService}, Services.{addressed_slot, allocate_callback, callback_function, callback_service}}
use Rattle.callbacks.specs.Services.{ds_si, free_callback, free_slot, with_new_callback}

-- a slot is free
abbrev pub is_free : List (Option Callback) → ℕ → Bool
is_free callbacks slot = is_none (callback_of_slot callbacks slot)

pub past_none : (callbacks : List (Option Callback)) (slot : ℕ) → length callbacks ≡ CALLBACKS → CALLBACKS ≤ slot →
    callback_of_slot callbacks slot ≡ None
past_none callbacks slot size beyond = get_or_past callbacks slot None (omega arith)

other_parts : (r : Regs) (c d : ℕ) → HasSegments r → HasSegments (record r { ecx = c; edx = d })
other_parts r c d h = record { es = h.es; cs = h.cs; ss = h.ss; ds = h.ds; fs = h.fs; gs = h.gs }

sound_new : (o : Option ℕ) (w : World) → IsSound w → w.width ≢ None → IsSound (with_new_callback o w)
sound_new None w s some = s
sound_new (Some slot) w s some =
    let callbacks = slice_set w.callbacks slot (Some (ds_si w, es_di w)) in
    IsSound-regs (record w { callbacks = callbacks }) _
    (IsSound-callbacks w callbacks s some (length-set w.callbacks slot (Some (ds_si w, es_di w)) ∙ s.callbacks))
    (other_parts w.regs _ _ s.segments)

sound_allocate : (w : World) → IsSound w → w.width ≢ None → IsSound (allocate_callback w).after
unfolding allocate_callback
sound_allocate w s some = sound_new (free_slot w) w s some

sound_free : (w : World) → IsSound w → w.width ≢ None → IsSound (free_callback w).after
unfolding free_callback
sound_free w s some =
    IsSound-callbacks w (slice_set w.callbacks (addressed_slot w) None) s some
    (length-set w.callbacks (addressed_slot w) None ∙ s.callbacks)

sound_unsupported : (w : World) → IsSound w → IsSound (unsupported w).after
unfolding unsupported
sound_unsupported w s = s

sound_function : (w : World) (ax : ℕ) → IsSound w → w.width ≢ None → IsSound (callback_function ax w).after
unfolding callback_function
sound_function w ax s some =
    if_has (λ (f : Service). IsSound f.after) (nat_eq ax 0x0303) (allocate_callback w) _ (sound_allocate w s some)
    (if_has (λ (f : Service). IsSound f.after) (nat_eq ax 0x0304) (free_callback w) (unsupported w) (sound_free w s some)
    (sound_unsupported w s))

pub sound_serve : (w : World) (ax : ℕ) → IsSound w → w.mode ≡ Protected → IsSound (callback_service ax w).world
unfolding callback_service
sound_serve w ax s mode =
    let f = callback_function ax w in
    of_answer IsSound (first_reason f.reasons) w f.after s (λ n. sound_ax w n s) (λ none. sound_function w ax s (protected_width w s mode))

-- ---- what they leave

new_left : (o : Option ℕ) (w : World) → LeftByService w (with_new_callback o w)
new_left None w = refl
new_left (Some slot) w = refl

allocate_left : (w : World) → LeftByService w (allocate_callback w).after
unfolding allocate_callback
allocate_left w = new_left (free_slot w) w

free_left : (w : World) → LeftByService w (free_callback w).after
unfolding free_callback
free_left w = refl

unsupported_left : (w : World) → LeftByService w (unsupported w).after
unfolding unsupported
unsupported_left w = refl

function_left : (w : World) (ax : ℕ) → LeftByService w (callback_function ax w).after
unfolding callback_function
function_left w ax =
    if_has (λ (f : Service). LeftByService w f.after) (nat_eq ax 0x0303) (allocate_callback w) _ (allocate_left w)
    (if_has (λ (f : Service). LeftByService w f.after) (nat_eq ax 0x0304) (free_callback w) (unsupported w) (free_left w)
    (unsupported_left w))

pub serve_left : (w : World) (ax : ℕ) → LeftByService w (callback_service ax w).world
unfolding callback_service
serve_left w ax =
    let f = callback_function ax w in
    of_answer (λ (u : World). LeftByService w u) (first_reason f.reasons) w f.after refl (λ n. refl) (λ none. function_left w ax)

pub refused_world : (w : World) (ax : ℕ) → (callback_service ax w).carry ≡ Set → HasOtherAx w (callback_service ax w).world
unfolding callback_service
refused_world w ax e = let f = callback_function ax w in refused_by_family (first_reason f.reasons) w f.after e
