-- What is true of each service is true of the service of every function number: it changes registers, memory and descriptors alone, and
-- leads from a sound world to a sound one.
use Rattle.std.proofs.Common.{ℕ, ◌≡◌, ◌∙◌, refl, sym, ap, Option, None, Some, ◌≢◌, ◌≤◌, ◌<◌, ◌+◌, ◌*◌, ◌^◌, zero, suc, Bool, true, false}
use Rattle.std.proofs.{Common.{not, List, subst, arith, slice_index, slice_set, nat_lt}, lemmas.Bool.{ltb-false, not-false, or_parts}}
use Rattle.std.proofs.lemmas.Bool.{true≢false}
use Rattle.client_world.specs.{World.{World}, Selector.{Row, FitsRow, index_of, is_local, row_at_index, row_of_selector}, Services.{bx, cx}}
use Rattle.client_world.specs.Services.{desc_of, es_di, dx, is_changeable, is_changeable_origin, two_words}
use Rattle.client_world.specs.{declared.descriptors.Desc.{Desc}, declared.descriptors.Origin.{Origin}}
use Rattle.client_world.specs.declared.descriptors.Origin.TheVariants.{Own, Segment}
use Rattle.client_world.specs.{declared.host_frames.TheConstants.{FIRST_FREE_DESCRIPTOR}, declared.memory_map.TheConstants.{PARAGRAPH_SIZE}}
use Rattle.client_world.specs.{declared.registers.Mode.TheVariants.{Protected}, Descriptor.{FitsDescriptor}, FreeRuns.{IsFreeRunOf}}
use Rattle.client_world.specs.{Registers.{has_bit}, Soundness.{IsSound}}
use Rattle.service_rows.specs.{Reasons.{Service, unsupported, first_reason}, FreeRun.{first_free_run}, Rows.{data_at, with_row}}
use Rattle.service_rows.proofs.{AnswerLaws.{if_has, of_answer, no_reason, sound_ax}, RunLaws.{free_run_of}, WidthLaws.{protected_width}}
use Rattle.desc_services.specs.Rows.{allocate_descriptors, free_descriptor, segment_to_descriptor, selector_increment, get_segment_base}
use Rattle.desc_services.specs.Rows.{set_segment_base, set_segment_limit, set_access_rights, create_alias, get_descriptor, set_descriptor}
use Rattle.desc_services.specs.Rows.{allocate_specific, descriptor_function, with_new_alias, with_new_run, with_segment, segment_index}
use Rattle.desc_services.specs.Rows.{with_new_segment, descriptor_service, alias_of, fresh, is_freeable_origin, is_freeable_row}
use Rattle.desc_services.specs.Rows.{desc_with_limit, packed_of, row_with_desc, with_base, with_desc, with_limit, with_rights, with_run}
use Rattle.guest_space.specs.{Transfer.{HasOtherMemory}, Far.{far_bytes}}
use Rattle.guest_space.proofs.{FarLaws.{other_far_put, sound_far_put}, SoundLists.{far_are_bytes}}
use Rattle.std.specs.Option.{is_some}
use Rattle.client_world.proofs.SoundWrites.{sound_general}
use Rattle.desc_table.specs.Unpacked.{kind_of}
use Rattle.desc_services.proofs.{FarBytes.{packed_bytes, unpacked_fits}, PutLaws.{changeable_plain, may_change, may_free, may_make_low}}
use Rattle.desc_services.proofs.{PutLaws.{may_make_at, may_redescribe, row_of_held, may_make_segment_at}, WithRun.{free_tail, with_none}}
use Rattle.desc_services.proofs.WithRun.{with_more}

pub record Each (P : Service → Type 0) (w : World) : Type 0 where
  pub f0 : P (allocate_descriptors w)
  pub f1 : P (free_descriptor w)
  pub f2 : P (segment_to_descriptor w)
  pub f3 : P (selector_increment w)
  pub f6 : P (get_segment_base w)
  pub f7 : P (set_segment_base w)
  pub f8 : P (set_segment_limit w)
  pub f9 : P (set_access_rights w)
  pub fA : P (create_alias w)
  pub fB : P (get_descriptor w)
  pub fC : P (set_descriptor w)
  pub fD : P (allocate_specific w)
  pub other : P (unsupported w)

pub of_each_service : (P : Service → Type 0) (w : World) → Each P w → (ax : ℕ) → P (descriptor_function ax w)
unfolding descriptor_function
of_each_service P w e ax =
    if_has P _ _ _ e.f0 (if_has P _ _ _ e.f1 (if_has P _ _ _ e.f2 (if_has P _ _ _ e.f3 (if_has P _ _ _ e.f6 (if_has P _ _ _ e.f7
    (if_has P _ _ _ e.f8
    (if_has P _ _ _ e.f9 (if_has P _ _ _ e.fA (if_has P _ _ _ e.fB (if_has P _ _ _ e.fC (if_has P _ _ _ e.fD e.other)))))))))))

abbrev pub Kept : World → World → Type 0
Kept w v = v ≡ record w { regs = v.regs; dos = v.dos; blocks = v.blocks; descriptors = v.descriptors }

-- what changes memory alone keeps the rest
kept_memory : (w v : World) → HasOtherMemory w v → Kept w v
kept_memory w v e = e ∙ ap (λ (x : World). record w { regs = x.regs; dos = v.dos; blocks = v.blocks; descriptors = x.descriptors }) (w_is e)
  where
    w_is : HasOtherMemory w v → record w { dos = v.dos; blocks = v.blocks } ≡ v
    w_is e = sym e

kept_made : (w : World) (o : Option ℕ) → Kept w (with_new_run o w)
kept_made w None = refl
kept_made w (Some first) = refl

kept_alias : (w : World) (o : Option ℕ) (row : Row) → Kept w (with_new_alias o row w)
kept_alias w None row = refl
kept_alias w (Some first) None = refl
kept_alias w (Some first) (Some row) = refl

kept_segment_made : (w : World) (o : Option ℕ) → Kept w (with_new_segment o w)
kept_segment_made w None = refl
kept_segment_made w (Some first) = refl

kept_segment : (w : World) (o : Option ℕ) → Kept w (with_segment o w)
kept_segment w None = kept_segment_made w (first_free_run w.descriptors 1)
kept_segment w (Some index) = refl

kept_after : (ax : ℕ) (w : World) → Kept w (descriptor_function ax w).after
unfolding allocate_descriptors free_descriptor segment_to_descriptor selector_increment get_segment_base set_segment_base set_segment_limit
    set_access_rights create_alias get_descriptor set_descriptor allocate_specific unsupported
kept_after ax w = of_each_service (λ (s : Service). Kept w s.after) w (record {
  f0 = kept_made w (first_free_run w.descriptors (cx w));
  f1 = refl;
  f2 = kept_segment w (segment_index w.descriptors (bx w));
  f3 = refl;
  f6 = refl;
  f7 = refl;
  f8 = refl;
  f9 = refl;
  fA = kept_alias w (first_free_run w.descriptors 1) (desc_of w (bx w));
  fB = kept_memory w _ (other_far_put w (es_di w) 8 _);
  fC = refl;
  fD = refl;
  other = refl;
}) ax

pub kept_service : (ax : ℕ) (w : World) → Kept w (descriptor_service ax w).world
unfolding descriptor_service
kept_service ax w = of_answer (Kept w) (first_reason (descriptor_function ax w).reasons) w (descriptor_function ax w).after refl (λ n. refl)
    (λ none. kept_after ax w)

-- ---- soundness

-- ---- a descriptor with other fields

changeable_row : (row : Row) → (elim row [ None ↦ false | Some d ↦ is_changeable_origin d.1 ]) ≡ true →
    (r : Desc × Origin) × (row ≡ Some r) × (is_changeable_origin r.1 ≡ true)
changeable_row None e = absurd cc
changeable_row (Some r) e = (r, refl, e)

redescribed_sound : (w : World) (sel : ℕ) (row : Desc × Origin) (o : Option Desc) → IsSound w →
    row_of_selector w.descriptors sel ≡ Some row → is_changeable_origin row.1 ≡ true → ((d : Desc) → o ≡ Some d → FitsDescriptor d) →
    IsSound (record w { descriptors = slice_set w.descriptors (index_of sel) (row_with_desc (Some row) o) })
redescribed_sound w sel row None s e c fits =
    let at = row_of_held w.descriptors sel row e in
    (may_change w (index_of sel) row (Some row) s at (changeable_plain row.1 c) (subst FitsRow at (s.descriptors.fits (index_of sel)))
    (changeable_plain row.1 c)).sound
redescribed_sound w sel row (Some d) s e c fits = (may_redescribe w sel row d s e c (fits d refl)).sound

described_sound : (w : World) (sel : ℕ) (o : Option Desc) → IsSound w → not (is_changeable w sel) ≡ false →
    ((d : Desc) → o ≡ Some d → FitsDescriptor d) → IsSound (with_desc w sel o)
described_sound w sel o s e fits =
    let c = changeable_row (desc_of w sel) (not-false (is_changeable w sel) e) in
    subst (λ (r : Row). IsSound (record w { descriptors = slice_set w.descriptors (index_of sel) (row_with_desc r o) })) (sym c.1)
    (redescribed_sound w sel c.0 o s c.1 c.2 fits)

-- the row of a selector fits
held_fits : (rows : List Row) (sel : ℕ) (local : Bool) → is_local sel ≡ local → ((index : ℕ) → FitsRow (row_at_index rows index)) →
    FitsRow (row_of_selector rows sel)
held_fits rows sel true local fits = rw local (fits (index_of sel))
held_fits rows sel false local fits = rw local tt

fits_of : (w : World) (sel : ℕ) → IsSound w → FitsRow (desc_of w sel)
fits_of w sel s = held_fits w.descriptors sel (is_local sel) refl s.descriptors.fits

base_fits : (row : Row) (base : ℕ) (d : Desc) → FitsRow row → base < 2 ^ 32 → with_base row base ≡ Some d → FitsDescriptor d
base_fits None base d fits small e = absurd cc
base_fits (Some row) base d fits small e =
    let same : record row.0 { base = base } ≡ d = cc in
    subst FitsDescriptor same (record { base = small; limit = fits.limit })

limited_fits : (d : Desc) (limit : ℕ) (long : Bool) → FitsDescriptor d → nat_lt 0xFFFFF limit ≡ long → limit < 2 ^ 32 →
    FitsDescriptor (desc_with_limit d limit)
limited_fits d limit true fits e small = rw e (record { base = fits.base; limit = omega arith })
limited_fits d limit false fits e small = let low = ltb-false 0xFFFFF limit e in rw e (record { base = fits.base; limit = omega arith })

limit_fits : (row : Row) (limit : ℕ) (d : Desc) → FitsRow row → limit < 2 ^ 32 → with_limit row limit ≡ Some d → FitsDescriptor d
limit_fits None limit d fits small e = absurd cc
limit_fits (Some row) limit d fits small e =
    let same : desc_with_limit row.0 limit ≡ d = cc in
    subst FitsDescriptor same (limited_fits row.0 limit (nat_lt 0xFFFFF limit) fits refl small)

rights_fit : (row : Row) (access flags : ℕ) (d : Desc) → FitsRow row → with_rights row access flags ≡ Some d → FitsDescriptor d
rights_fit None access flags d fits e = absurd cc
rights_fit (Some row) access flags d fits e =
    let same : (record row.0 {
      gran = has_bit flags 0x80;
      size = has_bit flags 0x40;
      avl = has_bit flags 0x10;
      present = has_bit access 0x80;
      kind = kind_of access;
    }) ≡ d = cc in
    subst FitsDescriptor same (record { base = fits.base; limit = fits.limit })

-- ---- runs

fresh_fits : FitsDescriptor fresh
fresh_fits = record { base = omega arith; limit = omega arith }

sound_run : (w : World) (first n : ℕ) (d : Desc) → IsSound w → w.width ≢ None → FIRST_FREE_DESCRIPTOR ≤ first →
    IsFreeRunOf w.descriptors first n →
    FitsDescriptor d → IsSound (record w { descriptors = with_run w.descriptors first n (Some (d, Own)) })
sound_run w first zero d s width from run fits =
    subst (λ (rows : List Row). IsSound (record w { descriptors = rows })) (sym (with_none w.descriptors first (Some (d, Own)))) s
sound_run w first (suc n) d s width from run fits =
    subst (λ (rows : List Row). IsSound (record w { descriptors = rows })) (sym (with_more w.descriptors first n (Some (d, Own))))
    (sound_run (record w { descriptors = slice_set w.descriptors first (Some (d, Own)) }) (first + 1) n d
    (may_make_at w first (suc n) d s width from (omega arith) run fits).sound width (omega arith)
    (free_tail w.descriptors first n (Some (d, Own)) run) fits)

sound_made : (w : World) (o : Option ℕ) → IsSound w → w.width ≢ None → first_free_run w.descriptors (cx w) ≡ o → IsSound (with_new_run o w)
sound_made w None s width e = s
sound_made w (Some first) s width e =
    let run = free_run_of w.descriptors (cx w) first e in
    sound_ax (record w { descriptors = with_run w.descriptors first (cx w) (Some (fresh, Own)) }) _
    (sound_run w first (cx w) fresh s width run.0 run.1 fresh_fits)

one_run : (w : World) (first : ℕ) (d : Desc) → IsSound w → w.width ≢ None → first_free_run w.descriptors 1 ≡ Some first → FitsDescriptor d →
    IsSound (with_row first (Some (d, Own)) w)
one_run w first d s width e fits =
    let run = free_run_of w.descriptors 1 first e in
    (may_make_at w first 1 d s width run.0 (omega arith) run.1 fits).sound

sound_alias : (w : World) (o : Option ℕ) (row : Row) → IsSound w → w.width ≢ None → first_free_run w.descriptors 1 ≡ o → FitsRow row →
    IsSound (with_new_alias o row w)
sound_alias w None row s width e fits = s
sound_alias w (Some first) None s width e fits = s
sound_alias w (Some first) (Some row) s width e fits =
    sound_ax (with_row first (Some (alias_of row.0, Own)) w) _
    (one_run w first (alias_of row.0) s width e (record { base = fits.base; limit = fits.limit }))

sound_segment_made : (w : World) (o : Option ℕ) → IsSound w → w.width ≢ None → first_free_run w.descriptors 1 ≡ o →
    segment_index w.descriptors (bx w) ≡ None → IsSound (with_new_segment o w)
sound_segment_made w None s width e none = s
sound_segment_made w (Some first) s width e none =
    let run = free_run_of w.descriptors 1 first e in
    sound_ax (with_row first (Some (data_at (bx w * PARAGRAPH_SIZE) 0xFFFF, Segment (bx w))) w) _
    (may_make_segment_at w first (data_at (bx w * PARAGRAPH_SIZE) 0xFFFF) (bx w) s width none run.0 run.1
    (record { base = omega arith; limit = omega arith })).sound

sound_segment : (w : World) (o : Option ℕ) → IsSound w → w.width ≢ None → segment_index w.descriptors (bx w) ≡ o →
    IsSound (with_segment o w)
sound_segment w None s width e = sound_segment_made w (first_free_run w.descriptors 1) s width refl e
sound_segment w (Some index) s width e = sound_ax w _ s

-- ---- the rest

freeable_row : (row : Row) → is_freeable_row row ≡ true → (r : Desc × Origin) × (row ≡ Some r) × (is_freeable_origin r.1 ≡ true)
freeable_row None e = absurd cc
freeable_row (Some r) e = (r, refl, e)

sound_free : (w : World) (sel : ℕ) → IsSound w → not (is_freeable_row (desc_of w sel)) ≡ false → IsSound (with_row (index_of sel) None w)
sound_free w sel s e =
    let f = freeable_row (desc_of w sel) (not-false (is_freeable_row (desc_of w sel)) e) in
    (may_free w sel f.0 s f.1 f.2).sound

not_held : (row : Row) → (elim row [ None ↦ false | Some d ↦ true ]) ≡ false → is_some row ≡ false
not_held None e = refl
not_held (Some d) e = absurd (true≢false e)

packed_of_bytes : (row : Row) → FitsRow row → (at : ℕ) → slice_index (packed_of row) at < 0x100
packed_of_bytes None fits at = omega arith
packed_of_bytes (Some row) fits at = packed_bytes row.0 fits at

sound_after : (ax : ℕ) (w : World) → IsSound w → w.width ≢ None → first_reason (descriptor_function ax w).reasons ≡ None →
    IsSound (descriptor_function ax w).after
unfolding allocate_descriptors free_descriptor segment_to_descriptor selector_increment get_segment_base set_segment_base set_segment_limit
    set_access_rights create_alias get_descriptor set_descriptor allocate_specific unsupported
sound_after ax w s width = of_each_service (λ (a : Service). first_reason a.reasons ≡ None → IsSound a.after) w (record {
  f0 = λ e. sound_made w (first_free_run w.descriptors (cx w)) s width refl;
  f1 = λ e. sound_free w (bx w) s (no_reason (free_descriptor w).reasons e).0;
  f2 = λ e. sound_segment w (segment_index w.descriptors (bx w)) s width refl;
  f3 = λ e. sound_ax w 8 s;
  f6 = λ e. sound_general w w.regs.eax w.regs.ebx _ _ w.regs.esi w.regs.edi s;
  f7 = λ e. described_sound w (bx w) _ s (no_reason (set_segment_base w).reasons e).0
      (λ d same. base_fits (desc_of w (bx w)) (two_words (cx w) (dx w)) d (fits_of w (bx w) s) (omega arith) same);
  f8 = λ e. described_sound w (bx w) _ s (no_reason (set_segment_limit w).reasons e).0
      (λ d same. limit_fits (desc_of w (bx w)) (two_words (cx w) (dx w)) d (fits_of w (bx w) s) (omega arith) same);
  f9 = λ e. described_sound w (bx w) _ s (no_reason (set_access_rights w).reasons e).0
      (λ d same. rights_fit (desc_of w (bx w)) _ _ d (fits_of w (bx w) s) same);
  fA = λ e. sound_alias w (first_free_run w.descriptors 1) (desc_of w (bx w)) s width refl (fits_of w (bx w) s);
  fB = λ e. sound_far_put w (es_di w) 8 _ s (packed_of_bytes (desc_of w (bx w)) (fits_of w (bx w) s));
  fC = λ e. described_sound w (bx w) _ s (no_reason (set_descriptor w).reasons e).0
      (λ d same. unpacked_fits (far_bytes w (es_di w) 8) d (far_are_bytes w (es_di w) 8 s) same);
  fD = λ e. (let none = no_reason (allocate_specific w).reasons e in
      let place = or_parts (not (is_local (bx w))) (nat_lt 15 (index_of (bx w))) none.0 in
      let low = ltb-false 15 (index_of (bx w)) place.1 in
      (may_make_low w (bx w) fresh s width (not-false (is_local (bx w)) place.0) (omega arith)
      (not_held (desc_of w (bx w)) none.1.0) fresh_fits).sound);
  other = λ e. s;
}) ax

pub sound_service : (ax : ℕ) (w : World) → IsSound w → w.mode ≡ Protected → IsSound (descriptor_service ax w).world
unfolding descriptor_service
sound_service ax w s protected =
    of_answer IsSound (first_reason (descriptor_function ax w).reasons) w (descriptor_function ax w).after s (λ n. sound_ax w n s)
    (sound_after ax w s (protected_width w s protected))
