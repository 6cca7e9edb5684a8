-- Entries of DOS memory put together with the descriptors of a block leave a sound world sound.
use Rattle.std.proofs.Common.{◌≡◌, ◌≢◌, ℕ, ◌+◌, ◌<◌, ◌≤◌, ◌⊎◌, inl, inr, Bool, true, false, if◌then◌else◌, List, [], ◌∷◌, ◌++◌, length}
use Rattle.std.proofs.{Common.{take, drop, refl, ◌∙◌, sym, subst, arith, Option, None, Some}, lemmas.Bool.{cases_eq, cases_lt, eq-eqb}}
use Rattle.std.proofs.lemmas.Bool.{ne_eqb}
use Rattle.client_world.specs.{declared.descriptors.Origin.{Origin}, declared.descriptors.Origin.TheVariants.{Segment, Dos, Host}}
use Rattle.client_world.specs.{declared.dos_memory.DosEntry.{DosEntry}, declared.dos_memory.DosRun.{DosRun}}
use Rattle.client_world.specs.{declared.host_frames.TheConstants.{DESCRIPTORS}, declared.memory_map.TheConstants.{ARENA_START, ARENA_END}}
use Rattle.client_world.specs.{declared.registers.Width.{Width}, DosMemory.{Fills, is_dpmi, block_segment}, Selector.{Row, FitsRow}}
use Rattle.client_world.specs.{Selector.{row_at_index}, Soundness.{IsSound, SoundDescriptors, SoundRuns, SoundWidth, HostRows, HasEntry}}
use Rattle.client_world.specs.{Soundness.{HasOrigin, HasRun, IsRunOf, descriptors_for}, World.{World}}
use Rattle.guest_space.specs.{Arena.{with_replaced_entries, with_entries}, DosRuns.{CanPutRun, block_alone, made_blocks, rows_of_run}}
use Rattle.guest_space.specs.DosRuns.{with_dos_rows, with_entries_and_run, dos_row}
use Rattle.guest_space.proofs.{ArenaHeaders.{SoundMegabyte-headers}, ArenaRuns.{Has, has_left, has_right, has_either, has_there, stands}}
use Rattle.guest_space.proofs.{ArenaRuns.{parts_are, fills_long}, DosRows.{dos_row_has, dos_row_tells, fits_dos_row, length-dos_rows}}
use Rattle.guest_space.proofs.{DosRows.{of_each_row, row_outside}, ReadBack.{same_dos}}

-- ---- the blocks among entries

abbrev IsAmong : ℕ × ℕ → List (ℕ × ℕ) → Type 0
IsAmong block [] = ⊥
IsAmong block (other ∷ others) = (other ≡ block) ⊎ IsAmong block others

among_rest : (made : Bool) (block other : ℕ × ℕ) (others : List (ℕ × ℕ)) → IsAmong block others →
    IsAmong block (if made then other ∷ others else others)
among_rest true block other others h = inr h
among_rest false block other others h = h

among_made : (entry : DosEntry) (es : List DosEntry) → is_dpmi entry.state ≡ true → Has entry es →
    IsAmong (block_segment entry, entry.paras) (made_blocks es)
among_made entry [] made h = absurd h
among_made entry (e ∷ es) made (inl same) = rw same (rw made (inl refl))
among_made entry (e ∷ es) made (inr h) = among_rest (is_dpmi e.state) _ _ (made_blocks es) (among_made entry es made h)

record IsMade (segment n : ℕ) (es : List DosEntry) : Type 0 where
  pub entry : DosEntry
  pub has : Has entry es
  pub made : is_dpmi entry.state ≡ true
  pub starts : block_segment entry ≡ segment
  pub size : entry.paras ≡ n

made_first : (made : Bool) (segment n : ℕ) (e : DosEntry) (es : List DosEntry) → is_dpmi e.state ≡ made →
    IsAmong (segment, n) (if made then (block_segment e, e.paras) ∷ made_blocks es else made_blocks es) →
    (IsAmong (segment, n) (made_blocks es) → IsMade segment n es) → IsMade segment n (e ∷ es)
made_first true segment n e es made (inl same) rest = grind arith
made_first true segment n e es made (inr h) rest = grind arith
made_first false segment n e es made h rest = grind arith

made_among : (segment n : ℕ) (es : List DosEntry) → IsAmong (segment, n) (made_blocks es) → IsMade segment n es
made_among segment n [] h = absurd h
made_among segment n (e ∷ es) h = made_first (is_dpmi e.state) segment n e es refl h (made_among segment n es)

-- it is the block that is alone
record IsThatBlock (entry : DosEntry) (segment n : ℕ) : Type 0 where
  pub starts : block_segment entry ≡ segment
  pub size : entry.paras ≡ n
  pub some : 0 < n

that_block : (entry : DosEntry) (segment n : ℕ) → IsAmong (block_segment entry, entry.paras) (block_alone segment n) →
    IsThatBlock entry segment n
that_block entry segment n h = grind (arith, cases_eq, eq-eqb, ne_eqb)

made_tells : (entry : DosEntry) (es : List DosEntry) (segment n : ℕ) → made_blocks es ≡ block_alone segment n → is_dpmi entry.state ≡ true →
    Has entry es → IsThatBlock entry segment n
made_tells entry es segment n alone made h = grind (arith, among_made, that_block)

made_there : (es : List DosEntry) (segment n : ℕ) → made_blocks es ≡ block_alone segment n → n ≢ 0 → IsMade segment n es
made_there es segment n alone some = grind (arith, made_among, ne_eqb)

-- ---- where the entries are

fills_parts : (xs ys : List DosEntry) (from to : ℕ) → Fills from (xs ++ ys) to → (mid : ℕ) × Fills from xs mid × Fills mid ys to
fills_parts [] ys from to f = (from, refl, f)
fills_parts (x ∷ xs) ys from to f = let rest = fills_parts xs ys (from + 1 + x.paras) to f.1 in (rest.0, (f.0, rest.1), rest.2)

has_within : (entry : DosEntry) (es : List DosEntry) (from to : ℕ) → Fills from es to → Has entry es → (from ≤ entry.at) × (entry.at < to)
has_within entry [] from to f h = absurd h
has_within entry (e ∷ es) from to f (inl same) = grind (arith, fills_long)
has_within entry (e ∷ es) from to f (inr h) = let rest = has_within entry es (from + 1 + e.paras) to f.1 h in
    (omega (arith, rest.0), rest.1)

apart : (entry other : DosEntry) (xs ys zs : List DosEntry) (from to : ℕ) → Fills from (xs ++ (ys ++ zs)) to → Has other ys →
    Has entry xs ⊎ Has entry zs → entry.at ≢ other.at
apart entry other xs ys zs from to f here there same = grind (arith, fills_parts, has_within)

-- ---- the rows after it

one_origin : (row : Row) (one other : Origin) → HasOrigin row one → HasOrigin row other → one ≡ other
one_origin None one other h k = absurd h
one_origin (Some row) one other h k = sym h ∙ k

pub record HasRunRows (rows : List Row) (run : DosRun) : Type 0 where
  pub room : run.first + rows_of_run run ≤ length rows
  pub touched : (index : ℕ) (origin : Origin) → run.first ≤ index → index < run.first + rows_of_run run →
      HasOrigin (row_at_index rows index) origin →
      origin ≡ Dos run.seg

run_rows : (w : World) (place old : ℕ) (new : List DosEntry) (run : DosRun) → length w.descriptors ≡ DESCRIPTORS →
    CanPutRun w place old new run → HasRunRows w.descriptors run
run_rows w place old new run size can = grind (arith, cases_lt, one_origin)

was_origin : (rows : List Row) (run : DosRun) (origin : Origin) → HasRunRows rows run → Dos run.seg ≢ origin → (index : ℕ) →
    HasOrigin (row_at_index (with_dos_rows rows run (rows_of_run run)) index) origin → HasOrigin (row_at_index rows index) origin
was_origin rows run origin h unlike = of_each_row rows run (rows_of_run run)
    (λ (k : ℕ) (r : Row). HasOrigin r origin → HasOrigin (row_at_index rows k) origin) h.room
    (λ j small has. absurd (unlike (dos_row_tells run.seg run.after j origin has).0)) (λ k away has. has)

stays_origin : (rows : List Row) (run : DosRun) (origin : Origin) → HasRunRows rows run → Dos run.seg ≢ origin → (index : ℕ) →
    HasOrigin (row_at_index rows index) origin → HasOrigin (row_at_index (with_dos_rows rows run (rows_of_run run)) index) origin
stays_origin rows run origin h unlike = of_each_row rows run (rows_of_run run)
    (λ (k : ℕ) (r : Row). HasOrigin (row_at_index rows k) origin → HasOrigin r origin) h.room
    (λ j small has. absurd (unlike (sym (h.touched (run.first + j) origin (omega arith) (omega arith) has)))) (λ k away has. has)

not_segment : (segment other : ℕ) → Dos segment ≢ Segment other
not_segment segment other e = cc

not_host : (segment : ℕ) → Dos segment ≢ Host
not_host segment e = cc

rows_sound : (rows : List Row) (run : DosRun) → SoundDescriptors rows → HasRunRows rows run → run.seg < 0x10000 → run.after < 0x10000 →
    SoundDescriptors (with_dos_rows rows run (rows_of_run run))
rows_sound rows run s h segment after = record {
  indices = length-dos_rows rows run (rows_of_run run) ∙ s.indices;
  fits = of_each_row rows run (rows_of_run run) (λ (k : ℕ) (r : Row). FitsRow r) h.room
      (λ j small. fits_dos_row run.seg run.after j segment after) (λ k away. s.fits k);
  segments = grind (arith, not_segment, was_origin);
}

rows_host : (rows : List Row) (run : DosRun) (width : Width) → HostRows rows width → HasRunRows rows run → 64 ≤ run.first →
    HostRows (with_dos_rows rows run (rows_of_run run)) width
rows_host rows run width s h from = grind (arith, not_host, row_outside, was_origin)

width_sound : (width : Option Width) (w v : World) (run : DosRun) → SoundWidth width w → width ≢ None → HasRunRows w.descriptors run →
    64 ≤ run.first → v.descriptors ≡ with_dos_rows w.descriptors run (rows_of_run run) → SoundWidth width v
width_sound None w v run s some h from is = absurd (some refl)
width_sound (Some width) w v run s some h from is = rw is (rows_host w.descriptors run width s h from)

-- ---- the runs

other_run : (rows : List Row) (run : DosRun) (entry : DosEntry) → HasRunRows rows run → block_segment entry ≢ run.seg → HasRun rows entry →
    HasRun (with_dos_rows rows run (rows_of_run run)) entry
other_run rows run entry h other has = grind (arith, same_dos, stays_origin, was_origin)

run_after : (rows : List Row) (run : DosRun) → HasRunRows rows run → IsRunOf rows (Dos run.seg) run.first (descriptors_for run.before) →
    IsRunOf (with_dos_rows rows run (rows_of_run run)) (Dos run.seg) run.first (descriptors_for run.after)
run_after rows run h old = record {
  have = of_each_row rows run (rows_of_run run)
      (λ (k : ℕ) (r : Row). run.first ≤ k → k < run.first + descriptors_for run.after → HasOrigin r (Dos run.seg)) h.room
      (λ j small from to. dos_row_has run.seg run.after j (omega arith))
      (λ k away from to. absurd (elim away [ inl below ↦ omega arith | inr beyond ↦ omega arith ]));
  from = λ k has. (within k has).0;
  to = λ k has. (within k has).1;
}
  where
    within : (k : ℕ) → HasOrigin (row_at_index (with_dos_rows rows run (rows_of_run run)) k) (Dos run.seg) →
        (run.first ≤ k) × (k < run.first + descriptors_for run.after)
    within = of_each_row rows run (rows_of_run run)
        (λ (k : ℕ) (r : Row). HasOrigin r (Dos run.seg) → (run.first ≤ k) × (k < run.first + descriptors_for run.after)) h.room
        (λ j small has. (omega arith, omega (arith, (dos_row_tells run.seg run.after j (Dos run.seg) has).1)))
        (λ k away has. absurd (elim away [ inl below ↦ omega (arith, old.from k has) | inr beyond ↦ omega (arith, old.to k has) ]))

block_run : (rows : List Row) (run : DosRun) (entry : DosEntry) → HasRunRows rows run → 64 ≤ run.first →
    IsRunOf rows (Dos run.seg) run.first (descriptors_for run.before) → IsThatBlock entry run.seg run.after →
    HasRun (with_dos_rows rows run (rows_of_run run)) entry
block_run rows run entry h from old is =
    let some = is.some in
    let size = is.size in
    record {
      some = omega arith;
      first = run.first;
      free = from;
      run = rw (is.starts, size) (run_after rows run h old);
    }

-- the entries that stay are of other segments: those of the block itself are taken out, or there are none
others_apart : (w : World) (place old : ℕ) (new : List DosEntry) (run : DosRun) (entry : DosEntry) → IsSound w →
    CanPutRun w place old new run → is_dpmi entry.state ≡ true → Has entry (take place w.arena) ⊎ Has entry (drop (place + old) w.arena) →
    HasRun w.descriptors entry → block_segment entry ≢ run.seg
others_apart w place old new run entry s can made there has same = elim (cases_eq run.before 0) [
  | inl none ↦ (let some = has.some in
      let here : HasOrigin (row_at_index w.descriptors has.first) (Dos run.seg) =
      subst (λ (n : ℕ). HasOrigin (row_at_index w.descriptors has.first) (Dos n)) same
      (has.run.have has.first (omega arith) (omega arith)) in
      omega (arith, none, can.old_run.from has.first here, can.old_run.to has.first here))
  | inr some ↦ (let out = made_there (take old (drop place w.arena)) run.seg run.before can.old_block some in
      let starts = out.starts in
      apart entry out.entry (take place w.arena) (take old (drop place w.arena)) (drop (place + old) w.arena) ARENA_START ARENA_END
      (subst (λ (es : List DosEntry). Fills ARENA_START es ARENA_END) (sym (parts_are w.arena place old)) s.arena.fills) out.has there
      (omega arith))
]

-- an entry is before those that are taken out, one of them, or after them
record IsPart (entry : DosEntry) (es : List DosEntry) (place old : ℕ) : Type 0 where
  pub part : Has entry (take old (drop place es)) ⊎ (Has entry (take place es) ⊎ Has entry (drop (place + old) es))

part_of : (entry : DosEntry) (es : List DosEntry) (place old : ℕ) → Has entry es → IsPart entry es place old
part_of entry es place old h = elim (has_either entry (take place es) _ (subst (Has entry) (sym (parts_are es place old)) h)) [
  | inl front ↦ record { part = inr (inl front) }
  | inr rest ↦ grind (arith, has_either)
]

was_before : (entry : DosEntry) (es : List DosEntry) (place old : ℕ) → Has entry (take place es) ⊎ Has entry (drop (place + old) es) →
    Has entry es
was_before entry es place old there = subst (Has entry) (parts_are es place old) (grind (arith, has_left, has_right))

is_after : (entry : DosEntry) (es : List DosEntry) (place old : ℕ) (new : List DosEntry) →
    Has entry (take place es) ⊎ Has entry (drop (place + old) es) → Has entry (with_replaced_entries es place old new)
is_after entry es place old new there = grind (arith, has_left, has_right)

entry_run : (w : World) (place old : ℕ) (new : List DosEntry) (run : DosRun) (entry : DosEntry) → IsSound w →
    CanPutRun w place old new run → HasRunRows w.descriptors run → is_dpmi entry.state ≡ true →
    Has entry (with_replaced_entries w.arena place old new) → HasRun (with_dos_rows w.descriptors run (rows_of_run run)) entry
entry_run w place old new run entry s can h made there = elim (has_either entry (take place w.arena) _ there) [
  | inl front ↦ kept (inl front)
  | inr rest ↦ elim (has_either entry new (drop (place + old) w.arena) rest) [
    | inl fresh ↦ block_run w.descriptors run entry h can.from can.old_run (made_tells entry new run.seg run.after can.new_block made fresh)
    | inr after ↦ kept (inr after)
  ]
]
  where
    kept : Has entry (take place w.arena) ⊎ Has entry (drop (place + old) w.arena) →
        HasRun (with_dos_rows w.descriptors run (rows_of_run run)) entry
    kept part =
        let was = stands entry w.arena (was_before entry w.arena place old part) in
        let has = s.runs.runs was.place entry was.there made in
        other_run w.descriptors run entry h (others_apart w place old new run entry s can made part has) has

entry_of_row : (w : World) (place old : ℕ) (new : List DosEntry) (run : DosRun) (index segment : ℕ) → IsSound w →
    CanPutRun w place old new run → (index < run.first) ⊎ (run.first + rows_of_run run ≤ index) →
    HasOrigin (row_at_index w.descriptors index) (Dos segment) → HasEntry (with_replaced_entries w.arena place old new) segment
entry_of_row w place old new run index segment s can away has =
    let was = s.runs.entries index segment has in
    let part = part_of was.entry w.arena place old (has_there was.entry w.arena was.place was.there) in
    elim part.part [
      | inl out ↦ grind (arith, made_tells, other)
      | inr kept ↦
          (let there = stands was.entry (with_replaced_entries w.arena place old new) (is_after was.entry w.arena place old new kept) in
          record { place = there.place; entry = was.entry; there = there.there; made = was.made; starts = was.starts })
    ]
  where
    other : segment ≢ run.seg
    other same = grind arith

runs_sound : (w : World) (place old : ℕ) (new : List DosEntry) (run : DosRun) → IsSound w → CanPutRun w place old new run →
    HasRunRows w.descriptors run →
    SoundRuns (with_dos_rows w.descriptors run (rows_of_run run)) (with_replaced_entries w.arena place old new)
runs_sound w place old new run s can h = record {
  runs = λ at entry there made.
      entry_run w place old new run entry s can h made (has_there entry (with_replaced_entries w.arena place old new) at there);
  entries = λ index segment. of_each_row w.descriptors run (rows_of_run run)
      (λ (k : ℕ) (r : Row). HasOrigin r (Dos segment) → HasEntry (with_replaced_entries w.arena place old new) segment) h.room
      (λ j small has. fresh j segment has) (λ k away has. entry_of_row w place old new run k segment s can away has) index;
}
  where
    fresh : (j segment : ℕ) → HasOrigin (dos_row run.seg run.after j) (Dos segment) →
        HasEntry (with_replaced_entries w.arena place old new) segment
    fresh j segment has =
        let tells = dos_row_tells run.seg run.after j (Dos segment) has in
        let put = made_there new run.seg run.after can.new_block (λ none. omega (arith, tells.1, none)) in
        let there = stands put.entry (with_replaced_entries w.arena place old new)
        (has_right put.entry (take place w.arena) _ (has_left put.entry new _ put.has)) in grind (arith, same_dos)

pub IsSound-run : (w : World) (place old : ℕ) (new : List DosEntry) (run : DosRun) → run.seg < 0x10000 → run.after < 0x10000 → IsSound w →
    CanPutRun w place old new run → IsSound (with_entries_and_run w place old new run)
unfolding with_entries
IsSound-run w place old new run segment after s can =
    let h = run_rows w place old new run s.descriptors.indices can in
    let megabyte = SoundMegabyte-headers w.dos (with_replaced_entries w.arena place old new) ARENA_START s.megabyte can.arena.fills in
    let descriptors = rows_sound w.descriptors run s.descriptors h segment after in
    let runs = runs_sound w place old new run s can h in
    let u = with_entries_and_run w place old new run in
    let width : SoundWidth u.width u = width_sound w.width w _ run s.width can.width h can.from refl in
    assumption
