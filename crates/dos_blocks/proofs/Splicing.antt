-- Entries in place of others that fill the same paragraphs leave an arena, where none of them is free beside a free one; a block at the
-- start of some paragraphs, and the rest of them; and the entries beside a block.
use Rattle.std.proofs.Common.{◌≡◌, ℕ, zero, suc, ◌+◌, ◌<◌, ◌≤◌, Bool, true, false, List, [], ◌∷◌, ◌++◌, length, get_or, take, drop, refl}
use Rattle.std.proofs.{Common.{ap, ◌∙◌, sym, subst, arith, zero-add, ◌-◌, ◌&&◌, nat_le}, lemmas.List.{take-append-drop, get_or_past}}
use Rattle.std.proofs.lemmas.Bool.{eq-eqb, ne_eqb, false≢true, cases_Bool, leb-true, le-leb, and_parts}
use Rattle.client_world.specs.{declared.dos_memory.DosEntry.{DosEntry}, declared.memory_map.TheConstants.{ARENA_START, ARENA_END}}
use Rattle.client_world.specs.{DosMemory.{is_free, Fills, IsJoined, starts_free, IsArena, is_dpmi}, declared.dos_memory.DosState.{DosState}}
use Rattle.client_world.specs.declared.dos_memory.DosState.TheVariants.{Free, Used, Dpmi}
use Rattle.guest_space.specs.{Arena.{with_replaced_entries, NoneMade}, DosRuns.{made_blocks}}
use Rattle.dos_blocks.proofs.Searches.{dropped, none_left}
use Rattle.dos_blocks.specs.Blocks.{split, missing_entry, entry_of_place, is_used, free_entries_after, greatest_size, free_before}
use Rattle.dos_blocks.specs.Blocks.{room_before}
use Rattle.guest_space.proofs.ArenaRuns.{IsWithin, fills_at, fills_next}

-- lists that fill paragraphs one after another fill them together, and the other way round

fills-append : (xs ys : List DosEntry) (from mid to : ℕ) → Fills from xs mid → Fills mid ys to → Fills from (xs ++ ys) to
fills-append [] ys from mid to f g = subst (λ (at : ℕ). Fills at ys to) (sym f) g
fills-append (x ∷ xs) ys from mid to f g = (f.0, fills-append xs ys (from + 1 + x.paras) mid to f.1 g)

record FillsBoth (xs ys : List DosEntry) (from to : ℕ) : Type 0 where
  pub mid : ℕ
  pub left : Fills from xs mid
  pub right : Fills mid ys to

fills_both : (xs ys : List DosEntry) (from to : ℕ) → Fills from (xs ++ ys) to → FillsBoth xs ys from to
fills_both [] ys from to f = record { mid = from; left = refl; right = f }
fills_both (x ∷ xs) ys from to f =
    let rest = fills_both xs ys (from + 1 + x.paras) to f.1 in
    record { mid = rest.mid; left = (f.0, rest.left); right = rest.right }

-- the new entries fill what the old ones filled
abbrev pub FillsAlike : List DosEntry → List DosEntry → Type 0
FillsAlike xs ys = (from to : ℕ) → Fills from xs to → Fills from ys to

fills-spliced : (es : List DosEntry) (from to place old : ℕ) (new : List DosEntry) → Fills from es to → place + old ≤ length es →
    FillsAlike (take old (drop place es)) new → Fills from (with_replaced_entries es place old new) to
fills-spliced es from to zero old new f within alike =
    let both = fills_both (take old es) (drop old es) from to
    (subst (λ (xs : List DosEntry). Fills from xs to) (sym (take-append-drop old es)) f) in
    subst (λ (n : ℕ). Fills from (new ++ drop n es) to) (sym (zero-add old))
    (fills-append new (drop old es) from both.mid to (alike from both.mid both.left) both.right)
fills-spliced [] from to (suc place) old new f within alike = absurd (omega arith)
fills-spliced (e ∷ es) from to (suc place) old new f within alike =
    subst (λ (n : ℕ). Fills from (e ∷ (take place es ++ (new ++ drop n (e ∷ es)))) to)
    (let same : suc (place + old) ≡ suc place + old = omega arith in same)
    (f.0, fills-spliced es (from + 1 + e.paras) to place old new f.1 (omega arith) alike)

-- no two free neighbours

starts_front : (new ys : List DosEntry) → 0 < length new → starts_free (new ++ ys) ≡ starts_free new
starts_front [] ys some = absurd (omega arith)
starts_front (x ∷ new) ys some = refl

joined-drop : (es : List DosEntry) (place : ℕ) → IsJoined es → IsJoined (drop place es)
joined-drop es zero j = j
joined-drop [] (suc place) j = tt
joined-drop (e ∷ es) (suc place) j = joined-drop es place j.1

-- the last of the entries is free
abbrev ends_free : List DosEntry → Bool
ends_free [] = false
ends_free (e ∷ []) = is_free e.state
ends_free (e ∷ f ∷ es) = ends_free (f ∷ es)

joined-append : (xs ys : List DosEntry) → IsJoined xs → IsJoined ys → (ends_free xs ≡ true → starts_free ys ≡ false) → IsJoined (xs ++ ys)
joined-append [] ys x y seam = y
joined-append (e ∷ []) ys x y seam = (seam, y)
joined-append (e ∷ f ∷ xs) ys x y seam = (x.0, joined-append (f ∷ xs) ys x.1 y seam)

-- after a free entry there is none
pub joined_next : (es : List DosEntry) (place : ℕ) (d : DosEntry) → IsJoined es → place + 1 < length es →
    is_free (get_or es place d).state ≡ true → is_free (get_or es (place + 1) d).state ≡ false
joined_next [] place d j small free = absurd (omega arith)
joined_next (e ∷ []) zero d j small free = absurd (omega arith)
joined_next (e ∷ x ∷ es) zero d j small free = j.0 free
joined_next (e ∷ es) (suc place) d j small free =
    ap (λ (n : ℕ). is_free (get_or (e ∷ es) n d).state) (let same : suc place + 1 ≡ suc (place + 1) = omega arith in same)
    ∙ joined_next es place d j.1 (omega arith) free

-- the neighbours of the new entries, of which there is one at least
pub record FitsBetween (es : List DosEntry) (place old : ℕ) (new : List DosEntry) (d : DosEntry) : Type 0 where
  pub some : 0 < length new
  pub left : (j : ℕ) → j + 1 ≡ place → is_free (get_or es j d).state ≡ true → starts_free new ≡ false
  pub right : place + old < length es → is_free (get_or es (place + old) d).state ≡ false

starts_drop : (es : List DosEntry) (place : ℕ) (d : DosEntry) → (place < length es → is_free (get_or es place d).state ≡ false) →
    starts_free (drop place es) ≡ false
starts_drop es place d h = grind (arith, dropped, none_left)

starts-spliced : (es : List DosEntry) (place old : ℕ) (new : List DosEntry) → suc place + old ≤ length es →
    starts_free (with_replaced_entries es (suc place) old new) ≡ starts_free es
starts-spliced [] place old new within = absurd (omega arith)
starts-spliced (e ∷ es) place old new within = refl

joined-spliced : (es : List DosEntry) (place old : ℕ) (new : List DosEntry) (d : DosEntry) → IsJoined es → place + old ≤ length es →
    IsJoined new → FitsBetween es place old new d → IsJoined (with_replaced_entries es place old new)
joined-spliced es zero old new d j within joined seams =
    let right : old < length es → is_free (get_or es old d).state ≡ false =
    λ small. ap (λ (n : ℕ). is_free (get_or es n d).state) (sym (zero-add old)) ∙ seams.right (omega arith) in
    subst (λ (n : ℕ). IsJoined (new ++ drop n es)) (sym (zero-add old))
    (joined-append new (drop old es) joined (joined-drop es old j) (λ free. starts_drop es old d right))
joined-spliced [] (suc place) old new d j within joined seams = absurd (omega arith)
joined-spliced (e ∷ es) (suc place) old new d j within joined seams =
    subst (λ (n : ℕ). IsJoined (e ∷ (take place es ++ (new ++ drop n (e ∷ es)))))
    (let same : suc (place + old) ≡ suc place + old = omega arith in same) (
      front place (omega arith) seams,
      joined-spliced es place old new d j.1 (omega arith) joined (record {
        some = seams.some;
        left = λ i h free. seams.left (suc i) (omega arith) free;
        right = λ small.
            ap (λ (n : ℕ). is_free (get_or (e ∷ es) n d).state) (let same : suc (place + old) ≡ suc place + old = omega arith in same)
            ∙ seams.right (omega arith);
      }),
    )
  where
    front : (place : ℕ) → place + old ≤ length es → FitsBetween (e ∷ es) (suc place) old new d → is_free e.state ≡ true →
        starts_free (take place es ++ (new ++ drop (place + old) es)) ≡ false
    front zero within seams free = starts_front new (drop (0 + old) es) seams.some ∙ seams.left 0 (omega arith) free
    front (suc place) within seams free = starts-spliced es place old new within ∙ j.0 free

pub arena-spliced : (es : List DosEntry) (place old : ℕ) (new : List DosEntry) (d : DosEntry) → IsArena es → place + old ≤ length es →
    FillsAlike (take old (drop place es)) new → IsJoined new → FitsBetween es place old new d →
    IsArena (with_replaced_entries es place old new)
arena-spliced es place old new d arena within alike joined seams = record {
  fills = fills-spliced es ARENA_START ARENA_END place old new arena.fills within alike;
  joined = joined-spliced es place old new d arena.joined within joined seams;
}

pub fills-split : (state : DosState) (at n paras from to : ℕ) → n ≤ paras → at ≡ from → from + 1 + paras ≡ to →
    Fills from (split state at n paras) to
fills-split state at n paras from to fits starts ends = grind (arith, eq-eqb, ne_eqb)

pub joined-split : (state : DosState) (at n paras : ℕ) → is_free state ≡ false → IsJoined (split state at n paras)
joined-split state at n paras held = grind (arith, eq-eqb, false≢true, ne_eqb)

pub some-split : (state : DosState) (at n paras : ℕ) → 0 < length (split state at n paras)
some-split state at n paras = grind (arith, eq-eqb, ne_eqb)

pub starts-split : (state : DosState) (at n paras : ℕ) → is_free state ≡ false → starts_free (split state at n paras) ≡ false
starts-split state at n paras held = grind (arith, eq-eqb, ne_eqb)

pub plain-split : (state : DosState) (at n paras : ℕ) → is_dpmi state ≡ false → NoneMade (split state at n paras)
plain-split state at n paras plain = grind (arith, eq-eqb, ne_eqb)

-- ---- what follows a block, and what comes before it

-- states

pub free_plain : (state : DosState) → is_free state ≡ true → is_dpmi state ≡ false
free_plain Free h = refl
free_plain Used h = cc
free_plain Dpmi h = cc

pub used_plain : (state : DosState) → is_used state ≡ true → is_dpmi state ≡ false
used_plain Free h = cc
used_plain Used h = refl
used_plain Dpmi h = cc

-- the first entries from a place on
pub take_one : (es : List DosEntry) (place : ℕ) → place < length es → take 1 (drop place es) ≡ entry_of_place es place ∷ []
take_one es place small = ap (λ (xs : List DosEntry). take 1 xs) (dropped es place missing_entry small)

take_two : (es : List DosEntry) (place : ℕ) → place + 1 < length es →
    take 2 (drop place es) ≡ entry_of_place es place ∷ entry_of_place es (place + 1) ∷ []
take_two es place small = grind (arith, dropped)

-- past the end nothing is free
pub outside : (es : List DosEntry) (place : ℕ) → length es ≤ place → entry_of_place es place ≡ missing_entry
outside es place past = get_or_past es place missing_entry past

free_inside : (es : List DosEntry) (place : ℕ) → is_free (entry_of_place es place).state ≡ true → place < length es
free_inside es place free = grind (arith, false≢true, outside)

pub entry_within : (es : List DosEntry) (place : ℕ) → IsArena es → place < length es →
    IsWithin (entry_of_place es place) ARENA_START ARENA_END
entry_within es place arena small = fills_at es ARENA_START ARENA_END place missing_entry arena.fills small

-- ---- after

pub behind_within : (es : List DosEntry) (place : ℕ) → place < length es → place + (1 + free_entries_after es place) ≤ length es
behind_within es place small = grind (arith, cases_Bool, free_inside)

-- what the block fills with the free entry after it
pub record FillsBehind (es : List DosEntry) (place from to : ℕ) : Type 0 where
  pub starts : (entry_of_place es place).at ≡ from
  pub ends : from + 1 + greatest_size es place ≡ to

pub behind_fills : (es : List DosEntry) (place from to : ℕ) → place < length es →
    Fills from (take (1 + free_entries_after es place) (drop place es)) to → FillsBehind es place from to
behind_fills es place from to small f = grind (arith, free_inside, take_one, take_two)

-- none of these was made by INT 31h function 0100h
pub behind_plain : (es : List DosEntry) (place : ℕ) → place < length es → is_dpmi (entry_of_place es place).state ≡ false →
    NoneMade (take (1 + free_entries_after es place) (drop place es))
behind_plain es place small plain = grind (arith, free_inside, free_plain, take_one, take_two)

-- the blocks of function 0100h among them: the block alone
pub behind_made : (es : List DosEntry) (place : ℕ) → place < length es →
    made_blocks (take (1 + free_entries_after es place) (drop place es)) ≡ made_blocks (entry_of_place es place ∷ [])
behind_made es place small = grind (arith, free_inside, free_plain, take_one, take_two)

-- after them nothing is free
pub behind_right : (es : List DosEntry) (place : ℕ) → IsArena es → place + (1 + free_entries_after es place) < length es →
    is_free (entry_of_place es (place + (1 + free_entries_after es place))).state ≡ false
behind_right es place arena small = by_cases (is_free (entry_of_place es (place + 1)).state) refl
  where
    by_cases : (free : Bool) → is_free (entry_of_place es (place + 1)).state ≡ free →
        is_free (entry_of_place es (place + (1 + free_entries_after es place))).state ≡ false
    by_cases true is =
        let two : place + (1 + 1) < length es = rw is at small in
        rw is (ap (λ (n : ℕ). is_free (entry_of_place es n).state) (let same : place + 2 ≡ place + 1 + 1 = omega arith in same)
        ∙ joined_next es (place + 1) missing_entry arena.joined (omega arith) is)
    by_cases false is = rw is is

-- the block with them ends where the arena does, or before
pub possible_ends : (es : List DosEntry) (place : ℕ) → IsArena es → place < length es →
    (entry_of_place es place).at + 1 + greatest_size es place ≤ ARENA_END
possible_ends es place arena small = grind (arith, entry_within, fills_next, free_inside)

-- ---- before

-- `before` free entries of `room` paragraphs, with their headers, are before a place
pub record IsBefore (es : List DosEntry) (place before room : ℕ) : Type 0 where
  pub within : before ≤ place
  pub fits : room ≤ (entry_of_place es place).at
  pub fills : (n from to : ℕ) → Fills from (take (before + n) (drop (place - before) es)) to →
      Fills (from + room) (take n (drop place es)) to
  pub plain : (n : ℕ) → NoneMade (take n (drop place es)) → NoneMade (take (before + n) (drop (place - before) es))
  pub made : (n : ℕ) → made_blocks (take (before + n) (drop (place - before) es)) ≡ made_blocks (take n (drop place es))
  pub left : (j : ℕ) → j + 1 ≡ place - before → is_free (entry_of_place es j).state ≡ false

one_before : (es : List DosEntry) (place : ℕ) → IsArena es → place < length es → 1 ≤ place →
    is_free (entry_of_place es (place - 1)).state ≡ true → IsBefore es place 1 (1 + (entry_of_place es (place - 1)).paras)
one_before es place arena small some free = grind (arith, cases_Bool, dropped, false≢true, fills_next, free_plain, joined_next)

only_right : (a b : Bool) → a ≡ true → (a && b) ≡ false → b ≡ false
only_right true b t f = f
only_right false b t f = cc

none_before : (es : List DosEntry) (place : ℕ) → (nat_le 1 place && is_free (entry_of_place es (place - 1)).state) ≡ false →
    IsBefore es place 0 0
none_before es place none = grind (arith, le-leb, only_right, zero-add)

pub is_before : (es : List DosEntry) (place : ℕ) → IsArena es → place < length es →
    IsBefore es place (free_before es place) (room_before es place)
is_before es place arena small = grind (arith, and_parts, leb-true, none_before, one_before)
