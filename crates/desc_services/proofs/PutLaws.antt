-- Where a row may be put, as those of the descriptors of real segments may; and the law of the search for one.
use Rattle.std.proofs.Common.{◌≡◌, ◌≢◌, ◌≤◌, ℕ, ◌<◌, Bool, true, false, inl, inr, List, refl, ◌∙◌, sym, subst, ap, arith, Option, None}
use Rattle.std.proofs.{Common.{Some}, lemmas.Bool.{cases_lt, true≢false, eq-eqb, eqb-true, false_from_ne_true}, lemmas.List.{get_or_past}}
use Rattle.std.specs.Option.{is_some}
use Rattle.client_world.specs.{declared.descriptors.Desc.{Desc}, declared.descriptors.Origin.{Origin}}
use Rattle.client_world.specs.declared.descriptors.Origin.TheVariants.{Own, Low, Entry, Psp, Segment, Dos, Host}
use Rattle.client_world.specs.{declared.registers.Width.{Width}, declared.host_frames.TheConstants.{DESCRIPTORS, FIRST_FREE_DESCRIPTOR}}
use Rattle.client_world.specs.{Descriptor.{FitsDescriptor}, FreeRuns.{IsFreeRunOf, IsFirstFreeRunOf}, Selector.{Row, FitsRow, row_at_index}}
use Rattle.client_world.specs.{Selector.{row_of_selector, index_of, is_local}, Services.{is_changeable_origin}, Soundness.{IsSound}}
use Rattle.client_world.specs.{Soundness.{SoundWidth, IsOfDosBlock, IsPlainOrigin, IsPlainRow, IsClientsIndex, HasOrigin}, World.{World}}
use Rattle.client_world.proofs.SoundRows.{IsSound-row, high_is_clients, none_not_dos, plain_not_dos, clients_suits, row_keeps_sound}
use Rattle.desc_services.specs.{MayPut.{MayPut}, Rows.{is_freeable_origin, is_segment_origin, is_segment_row, segment_index}}
use Rattle.desc_table.proofs.RunLaws.{none_of}
use Rattle.service_rows.proofs.RunLaws.{first_none, is_first}

none_some : (r : Desc × Origin) → None ≢ Some r
none_some r e = cc

-- the index of a descriptor is below 8192
pub row_within : (w : World) (index : ℕ) (row : Desc × Origin) → IsSound w → row_at_index w.descriptors index ≡ Some row →
    index < DESCRIPTORS
row_within w index row s e = elim (cases_lt index DESCRIPTORS) [
  | inl below ↦ below
  | inr beyond ↦ (let size = s.descriptors.indices in
      absurd (none_some row (sym (get_or_past w.descriptors index None (omega arith)) ∙ e)))
]

some_width : (width : Option Width) (w : World) (index : ℕ) (row : Desc × Origin) → SoundWidth width w →
    row_at_index w.descriptors index ≡ Some row → width ≢ None
some_width None w index row s e none = none_some row (sym (s.descriptors index) ∙ e)
some_width (Some width) w index row s e none = cc

-- where there is a descriptor there is a width
pub row_has_width : (w : World) (index : ℕ) (row : Desc × Origin) → IsSound w → row_at_index w.descriptors index ≡ Some row → w.width ≢ None
row_has_width w index row s e = some_width w.width w index row s.width e

not_host : (o : Origin) → IsPlainOrigin o → o ≢ Host
not_host o plain e = subst IsPlainOrigin e plain

clients : (width : Option Width) (w : World) (index : ℕ) (row : Desc × Origin) → SoundWidth width w →
    row_at_index w.descriptors index ≡ Some row → IsPlainOrigin row.1 → IsClientsIndex index
clients None w index row s e plain = absurd (none_some row (sym (s.descriptors index) ∙ e))
clients (Some width) w index row s e plain = record {
  code = λ i. not_host row.1 plain (host_of _ (sym e ∙ ap (row_at_index w.descriptors) i ∙ s.code));
  stacks = λ i. not_host row.1 plain (host_of _ (sym e ∙ ap (row_at_index w.descriptors) i ∙ s.stacks));
  callbacks = λ at. not_host row.1 plain (s.callbacks index row at e);
}
  where
    host_of : (d : Desc) → Some row ≡ Some (d, Host) → row.1 ≡ Host
    host_of d same = cc

-- a plain descriptor is at an index of the client
pub plain_row_is_clients : (w : World) (index : ℕ) (row : Desc × Origin) → IsSound w → row_at_index w.descriptors index ≡ Some row →
    IsPlainOrigin row.1 → IsClientsIndex index
plain_row_is_clients w index row s e plain = clients w.width w index row s.width e plain

-- where there is a plain descriptor another plain row may be put, or none
pub may_change : (w : World) (index : ℕ) (row : Desc × Origin) (new : Row) → IsSound w → row_at_index w.descriptors index ≡ Some row →
    IsPlainOrigin row.1 → FitsRow new → IsPlainRow new → MayPut w index new
may_change w index row new s e plain fits new_plain =
    let old : ¬ IsOfDosBlock (row_at_index w.descriptors index) =
    subst (λ (r : Row). ¬ IsOfDosBlock r) (sym e) (plain_not_dos (Some row) plain) in
    record {
      within = row_within w index row s e;
      width = row_has_width w index row s e;
      old_origin = old;
      new_origin = plain_not_dos new new_plain;
      sound = IsSound-row w index new s (row_has_width w index row s e) (row_within w index row s e) fits new_plain old
          (plain_row_is_clients w index row s e plain);
    }

-- where there is no descriptor, after the host's or before them, a plain row may be put
pub may_make : (w : World) (index : ℕ) (new : Row) → IsSound w → w.width ≢ None → row_at_index w.descriptors index ≡ None →
    index < DESCRIPTORS → IsClientsIndex index → FitsRow new → IsPlainRow new → MayPut w index new
may_make w index new s width e small clients fits plain =
    let old = none_not_dos (row_at_index w.descriptors index) e in
    record {
      within = small;
      width = width;
      old_origin = old;
      new_origin = plain_not_dos new plain;
      sound = IsSound-row w index new s width small fits plain old clients;
    }

-- indices below 16 are the client's
pub low_is_clients : (index : ℕ) → index < 16 → IsClientsIndex index
low_is_clients index below = record {
  code = λ e. omega arith;
  stacks = λ e. omega arith;
  callbacks = λ at. omega (arith, at.0);
}

pub changeable_plain : (o : Origin) → is_changeable_origin o ≡ true → IsPlainOrigin o
changeable_plain Own c = tt
changeable_plain Low c = tt
changeable_plain Entry c = tt
changeable_plain Psp c = tt
changeable_plain (Segment s) c = true≢false (sym c)
changeable_plain (Dos s) c = true≢false (sym c)
changeable_plain Host c = true≢false (sym c)

-- the descriptor of a selector
held_at : (rows : List Row) (sel : ℕ) (row : Desc × Origin) (local : Bool) → is_local sel ≡ local → row_of_selector rows sel ≡ Some row →
    row_at_index rows (index_of sel) ≡ Some row
held_at rows sel row true local e = rw local at e
held_at rows sel row false local e = absurd (none_some row (rw local at e))

pub row_of_held : (rows : List Row) (sel : ℕ) (row : Desc × Origin) → row_of_selector rows sel ≡ Some row →
    row_at_index rows (index_of sel) ≡ Some row
row_of_held rows sel row e = held_at rows sel row (is_local sel) refl e

pub may_redescribe : (w : World) (sel : ℕ) (row : Desc × Origin) (d : Desc) → IsSound w → row_of_selector w.descriptors sel ≡ Some row →
    is_changeable_origin row.1 ≡ true → FitsDescriptor d → MayPut w (index_of sel) (Some (d, row.1))
may_redescribe w sel row d s e changeable fits =
    may_change w (index_of sel) row (Some (d, row.1)) s (row_of_held w.descriptors sel row e) (changeable_plain row.1 changeable) fits
    (changeable_plain row.1 changeable)

freeable_plain : (o : Origin) → is_freeable_origin o ≡ true → IsPlainOrigin o
freeable_plain Own c = tt
freeable_plain Low c = tt
freeable_plain Entry c = tt
freeable_plain Psp c = tt
freeable_plain (Segment s) c = true≢false (sym c)
freeable_plain (Dos s) c = true≢false (sym c)
freeable_plain Host c = true≢false (sym c)

pub may_free : (w : World) (sel : ℕ) (row : Desc × Origin) → IsSound w → row_of_selector w.descriptors sel ≡ Some row →
    is_freeable_origin row.1 ≡ true → MayPut w (index_of sel) None
may_free w sel row s e freeable =
    may_change w (index_of sel) row None s (row_of_held w.descriptors sel row e) (freeable_plain row.1 freeable) tt tt

pub may_make_low : (w : World) (sel : ℕ) (d : Desc) → IsSound w → w.width ≢ None → is_local sel ≡ true → index_of sel < 16 →
    is_some (row_of_selector w.descriptors sel) ≡ false → FitsDescriptor d → MayPut w (index_of sel) (Some (d, Low))
may_make_low w sel d s width local low free fits =
    may_make w (index_of sel) (Some (d, Low)) s width (none_of (row_at_index w.descriptors (index_of sel)) (rw local at free)) (omega arith)
    (low_is_clients (index_of sel) low) fits tt

-- at the first of free rows, from 64 on, a descriptor may be made
pub may_make_at : (w : World) (first n : ℕ) (d : Desc) → IsSound w → w.width ≢ None → FIRST_FREE_DESCRIPTOR ≤ first → 0 < n →
    IsFreeRunOf w.descriptors first n → FitsDescriptor d → MayPut w first (Some (d, Own))
may_make_at w first n d s width from some run fits =
    let within = run.within in
    may_make w first (Some (d, Own)) s width (run.free first (omega arith) (omega arith)) (omega arith) (high_is_clients first from) fits tt

-- the search says of each row that it isn't the segment's
segment_test : (row : Row) (segment : ℕ) → HasOrigin row (Segment segment) → is_segment_row row segment ≡ true
segment_test None segment e = absurd e
segment_test (Some row) segment e = ap (λ (o : Origin). is_segment_origin o segment) e ∙ eq-eqb segment segment refl

some_of : (row : Row) (origin : Origin) → HasOrigin row origin → (r : Desc × Origin) × (row ≡ Some r)
some_of None origin has = absurd has
some_of (Some r) origin has = (r, refl)

has_within : (w : World) (index segment : ℕ) → IsSound w → HasOrigin (row_at_index w.descriptors index) (Segment segment) →
    index < DESCRIPTORS
has_within w index segment s has =
    let there = some_of (row_at_index w.descriptors index) (Segment segment) has in
    row_within w index there.0 s there.1

pub no_segment : (w : World) (segment : ℕ) → IsSound w → segment_index w.descriptors segment ≡ None →
    (other : ℕ) → ¬ HasOrigin (row_at_index w.descriptors other) (Segment segment)
unfolding segment_index
no_segment w segment s e other has =
    true≢false (sym (segment_test (row_at_index w.descriptors other) segment has)
    ∙ first_none (λ (index : ℕ). is_segment_row (row_at_index w.descriptors index) segment) 0 DESCRIPTORS e other (omega arith)
    (has_within w other segment s has))

pub may_make_segment_at : (w : World) (first : ℕ) (d : Desc) (segment : ℕ) → IsSound w → w.width ≢ None →
    segment_index w.descriptors segment ≡ None →
    FIRST_FREE_DESCRIPTOR ≤ first → IsFreeRunOf w.descriptors first 1 → FitsDescriptor d → MayPut w first (Some (d, Segment segment))
may_make_segment_at w first d segment s width none from run fits =
    let in_table = run.within in
    let small : first < DESCRIPTORS = omega arith in
    let old = none_not_dos (row_at_index w.descriptors first) (run.free first (omega arith) (omega arith)) in
    record {
      within = small;
      width = width;
      old_origin = old;
      new_origin = λ dos. dos;
      sound = row_keeps_sound w first (Some (d, Segment segment)) s width
          (record { within = small; fits = fits; old = old; new = λ dos. dos; alone = alone })
          (clients_suits first (Some (d, Segment segment)) (high_is_clients first from) (λ e. cc));
    }
  where
    alone : (named other : ℕ) → Segment segment ≡ Segment named → other ≢ first →
        ¬ HasOrigin (row_at_index w.descriptors other) (Segment named)
    alone named other e ne has = no_segment w segment s none other (subst (HasOrigin (row_at_index w.descriptors other)) (sym e) has)

pub may_make_segment : (w : World) (first : ℕ) (d : Desc) (segment : ℕ) → IsSound w → w.width ≢ None →
    segment_index w.descriptors segment ≡ None →
    IsFirstFreeRunOf w.descriptors first 1 → FitsDescriptor d → MayPut w first (Some (d, Segment segment))
may_make_segment w first d segment s width none run fits = may_make_segment_at w first d segment s width none run.from run.run fits

-- the row that is found is that of the segment
of_test : (row : Row) (segment : ℕ) → is_segment_row row segment ≡ true → HasOrigin row (Segment segment)
of_test None segment e = absurd (true≢false (sym e))
of_test (Some row) segment e = of_origin row.1 segment e
  where
    of_origin : (o : Origin) (segment : ℕ) → is_segment_origin o segment ≡ true → o ≡ Segment segment
    of_origin Own segment e = absurd (true≢false (sym e))
    of_origin Low segment e = absurd (true≢false (sym e))
    of_origin Entry segment e = absurd (true≢false (sym e))
    of_origin Psp segment e = absurd (true≢false (sym e))
    of_origin (Segment own) segment e = ap (λ (s : ℕ). Segment s) (eqb-true own segment e)
    of_origin (Dos own) segment e = absurd (true≢false (sym e))
    of_origin Host segment e = absurd (true≢false (sym e))

pub segment_found : (w : World) (index segment : ℕ) → IsSound w → HasOrigin (row_at_index w.descriptors index) (Segment segment) →
    segment_index w.descriptors segment ≡ Some index
unfolding segment_index
segment_found w index segment s has =
    is_first (λ (k : ℕ). is_segment_row (row_at_index w.descriptors k) segment) 0 DESCRIPTORS index (omega arith)
    (has_within w index segment s has)
    (segment_test (row_at_index w.descriptors index) segment has)
    (λ below from less. false_from_ne_true (is_segment_row (row_at_index w.descriptors below) segment)
    (λ t.
    (let same : below ≡ index = s.descriptors.segments below index segment (of_test (row_at_index w.descriptors below) segment t) has in
    omega arith)))
