-- A row put at an index of the descriptors leaves a sound world sound: a row of the client, or one of the host for a callback.
use Rattle.std.proofs.Common.{◌≡◌, ◌≢◌, ◌≤◌, ℕ, ◌<◌, inl, inr, List, length, slice_set, refl, ◌∙◌, sym, subst, arith, Option, None, Some}
use Rattle.std.proofs.{Common.{get_or-set_same, get_or-set_other, length-set}, lemmas.Bool.{cases_eq}}
use Rattle.client_world.specs.{declared.descriptors.Desc.{Desc}, declared.descriptors.Origin.{Origin}}
use Rattle.client_world.specs.{declared.descriptors.Origin.TheVariants.{Segment, Dos, Host}, declared.dos_memory.DosEntry.{DosEntry}}
use Rattle.client_world.specs.{declared.registers.Width.{Width}, declared.host_frames.TheConstants.{DESCRIPTORS, FIRST_FREE_DESCRIPTOR}}
use Rattle.client_world.specs.{declared.selectors.TheConstants.{HOST_CODE, HOST_STACKS}, Descriptor.{FitsDescriptor}}
use Rattle.client_world.specs.{DosMemory.{block_segment}, Selector.{Row, FitsRow, row_at_index}, Soundness.{IsSound, SoundDescriptors}}
use Rattle.client_world.specs.Soundness.{SoundRuns, SoundWidth, HasOrigin, HasRun, IsOfDosBlock, IsDosOrigin, IsPlainOrigin, IsPlainRow}
use Rattle.client_world.specs.{Soundness.{IsClientsIndex, IsCallbackStack}, World.{World}}

-- the row fits, neither it nor the one before it is a DOS block's, and it is the only one of its real segment
pub record CanStand (rows : List Row) (index : ℕ) (row : Row) : Type 0 where
  pub within : index < DESCRIPTORS
  pub fits : FitsRow row
  pub old : ¬ IsOfDosBlock (row_at_index rows index)
  pub new : ¬ IsOfDosBlock row
  pub alone : (segment other : ℕ) → HasOrigin row (Segment segment) → other ≢ index →
      ¬ HasOrigin (row_at_index rows other) (Segment segment)

-- it takes the place of neither of the host's two rows, and is itself the host's exactly at the indices of callbacks' stacks
pub record SuitsHost (index : ℕ) (row : Row) : Type 0 where
  pub code : index ≢ HOST_CODE
  pub stacks : index ≢ HOST_STACKS
  pub host : HasOrigin row Host → IsCallbackStack index
  pub callback : (r : Desc × Origin) → IsCallbackStack index → row ≡ Some r → r.1 ≡ Host

-- what is true of the new row, and of each old one elsewhere, is true of every row after the change
of_each : (rows : List Row) (index : ℕ) (row : Row) (P : ℕ → Row → Type 0) → index < length rows → P index row →
    ((other : ℕ) → other ≢ index → P other (row_at_index rows other)) → (other : ℕ) →
    P other (row_at_index (slice_set rows index row) other)
of_each rows index row P within here elsewhere other = elim (cases_eq other index) [
  | inl e ↦ subst (λ (k : ℕ). P k (row_at_index (slice_set rows index row) k)) (sym e)
      (subst (P index) (sym (get_or-set_same rows index row None within)) here)
  | inr ne ↦ subst (P other) (sym (get_or-set_other rows index other row None ne)) (elsewhere other ne)
]

of_dos : (row : Row) (segment : ℕ) → HasOrigin row (Dos segment) → IsOfDosBlock row
of_dos None segment e = e
of_dos (Some row) segment e = rw e tt

abbrev IsAsBefore : ℕ → Row → Row → Type 0
IsAsBefore segment old new = (HasOrigin old (Dos segment) → HasOrigin new (Dos segment))
    × (HasOrigin new (Dos segment) → HasOrigin old (Dos segment))

-- the descriptors of DOS blocks are where they were
same_dos : (rows : List Row) (index : ℕ) (row : Row) (segment : ℕ) → index < length rows → CanStand rows index row → (other : ℕ) →
    IsAsBefore segment (row_at_index rows other) (row_at_index (slice_set rows index row) other)
same_dos rows index row segment within can =
    of_each rows index row (λ (k : ℕ) (r : Row). IsAsBefore segment (row_at_index rows k) r) within
    (λ e. absurd (can.old (of_dos (row_at_index rows index) segment e)), λ e. absurd (can.new (of_dos row segment e)))
    (λ other ne. (λ e. e, λ e. e))

pub sound_descriptors : (rows : List Row) (index : ℕ) (row : Row) → SoundDescriptors rows → CanStand rows index row →
    SoundDescriptors (slice_set rows index row)
sound_descriptors rows index row s can = record {
  indices = length-set rows index row ∙ s.indices;
  fits = of_each rows index row (λ (k : ℕ) (r : Row). FitsRow r) within can.fits (λ other ne. s.fits other);
  segments = λ one other segment. of_each rows index row
      (λ (k : ℕ) (r : Row). HasOrigin r (Segment segment) → HasOrigin (row_at_index (slice_set rows index row) other) (Segment segment) →
      k ≡ other) within
      (λ e. of_each rows index row (λ (j : ℕ) (r : Row). HasOrigin r (Segment segment) → index ≡ j) within
      (λ f. refl) (λ j ne f. absurd (can.alone segment j e ne f)) other)
      (λ k ne e. of_each rows index row (λ (j : ℕ) (r : Row). HasOrigin r (Segment segment) → k ≡ j) within
      (λ f. absurd (can.alone segment k f ne e)) (λ j nj f. s.segments k j segment e f) other) one;
}
  where
    within : index < length rows
    within = omega (arith, s.indices, can.within)

pub sound_runs : (rows : List Row) (index : ℕ) (row : Row) (arena : List DosEntry) → SoundRuns rows arena → length rows ≡ DESCRIPTORS →
    CanStand rows index row → SoundRuns (slice_set rows index row) arena
sound_runs rows index row arena s size can = record {
  runs = λ place entry there made. keeps_run entry (s.runs place entry there made);
  entries = λ k segment e. s.entries k segment ((same_dos rows index row segment within can k).1 e);
}
  where
    within : index < length rows
    within = omega (arith, size, can.within)

    keeps_run : (entry : DosEntry) → HasRun rows entry → HasRun (slice_set rows index row) entry
    keeps_run entry h =
        let same = same_dos rows index row (block_segment entry) within can in
        record {
          some = h.some;
          first = h.first;
          free = h.free;
          run = record {
            have = λ k from to. (same k).0 (h.run.have k from to);
            from = λ k e. h.run.from k ((same k).1 e);
            to = λ k e. h.run.to k ((same k).1 e);
          };
        }

sound_width : (width : Option Width) (w : World) (index : ℕ) (row : Row) → SoundWidth width w → width ≢ None →
    index < length w.descriptors → SuitsHost index row → SoundWidth width (record w { descriptors = slice_set w.descriptors index row })
sound_width None w index row s some within suits = absurd (some refl)
sound_width (Some width) w index row s some within suits = record {
  code = get_or-set_other w.descriptors index HOST_CODE row None (λ e. suits.code (sym e)) ∙ s.code;
  stacks = get_or-set_other w.descriptors index HOST_STACKS row None (λ e. suits.stacks (sym e)) ∙ s.stacks;
  others = of_each w.descriptors index row other within (λ e code stacks. suits.host e) (λ k ne. s.others k);
  callbacks = of_each w.descriptors index row callback within suits.callback (λ k ne r at e. s.callbacks k r at e);
}
  where
    other : ℕ → Row → Type 0
    other k there = HasOrigin there Host → k ≢ HOST_CODE → k ≢ HOST_STACKS → IsCallbackStack k

    callback : ℕ → Row → Type 0
    callback k there = (r : Desc × Origin) → IsCallbackStack k → there ≡ Some r → r.1 ≡ Host

-- the world with other rows and another width
pub sound_with_rows : (w : World) (width : Option Width) (rows : List Row) → IsSound w → SoundDescriptors rows → SoundRuns rows w.arena →
    SoundWidth width (record w { width = width; descriptors = rows }) → IsSound (record w { width = width; descriptors = rows })
sound_with_rows w width rows s descriptors runs own = assumption

-- the world with another row
pub row_keeps_sound : (w : World) (index : ℕ) (row : Row) → IsSound w → w.width ≢ None → CanStand w.descriptors index row →
    SuitsHost index row → IsSound (record w { descriptors = slice_set w.descriptors index row })
row_keeps_sound w index row s some can suits =
    sound_with_rows w w.width (slice_set w.descriptors index row) s (sound_descriptors w.descriptors index row s.descriptors can)
    (sound_runs w.descriptors index row w.arena s.runs s.descriptors.indices can)
    (sound_width w.width w index row s.width some (omega (arith, s.descriptors.indices, can.within)) suits)

-- ---- a row of the host

pub host_stands : (rows : List Row) (index : ℕ) (d : Desc) → index < DESCRIPTORS → FitsDescriptor d →
    ¬ IsOfDosBlock (row_at_index rows index) → CanStand rows index (Some (d, Host))
host_stands rows index d within fits old = record {
  within = within;
  fits = fits;
  old = old;
  new = λ e. e;
  alone = λ segment other e. cc;
}

-- ---- a row of the client

pub clients_suits : (index : ℕ) (row : Row) → IsClientsIndex index → ¬ HasOrigin row Host → SuitsHost index row
clients_suits index row clients unlike = record {
  code = clients.code;
  stacks = clients.stacks;
  host = λ e. absurd (unlike e);
  callback = λ r at e. absurd (clients.callbacks at);
}

pub high_is_clients : (index : ℕ) → FIRST_FREE_DESCRIPTOR ≤ index → IsClientsIndex index
high_is_clients index from = record {
  code = λ e. omega arith;
  stacks = λ e. omega arith;
  callbacks = λ at. omega (arith, at.1);
}

pub none_not_dos : (row : Row) → row ≡ None → ¬ IsOfDosBlock row
none_not_dos row e = subst (λ (r : Row). ¬ IsOfDosBlock r) (sym e) (λ dos. dos)

pub plain_not_dos : (row : Row) → IsPlainRow row → ¬ IsOfDosBlock row
plain_not_dos None plain dos = dos
plain_not_dos (Some row) plain dos = plain_dos row.1 plain dos
  where
    plain_dos : (o : Origin) → IsPlainOrigin o → ¬ IsDosOrigin o
    plain_dos (Dos segment) plain dos = plain
    plain_dos o plain dos = dos

-- a plain row has no other origin
no_other_origin : (row : Row) (origin : Origin) → IsPlainRow row → ¬ IsPlainOrigin origin → ¬ HasOrigin row origin
no_other_origin None origin plain other e = e
no_other_origin (Some row) origin plain other e = other (subst IsPlainOrigin e plain)

pub IsSound-row : (w : World) (index : ℕ) (row : Row) → IsSound w → w.width ≢ None → index < DESCRIPTORS → FitsRow row → IsPlainRow row →
    ¬ IsOfDosBlock (row_at_index w.descriptors index) → IsClientsIndex index →
    IsSound (record w { descriptors = slice_set w.descriptors index row })
IsSound-row w index row s some within fits plain old clients =
    row_keeps_sound w index row s some
    (record {
      within = within;
      fits = fits;
      old = old;
      new = plain_not_dos row plain;
      alone = λ segment other e ne. absurd (no_other_origin row (Segment segment) plain (λ f. f) e);
    })
    (clients_suits index row clients (no_other_origin row Host plain (λ e. e)))
