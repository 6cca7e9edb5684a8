-- Entries that fill the paragraphs from one up to another: how many they are, where each is, and what is beside it; entries in place of
-- others, where INT 31h function 0100h made none of either: those that it made are the same, and so the descriptors of DOS blocks belong to
-- entries still.
use Rattle.std.proofs.Common.{◌≡◌, ℕ, zero, suc, ◌+◌, ◌<◌, ◌≤◌, List, [], ◌∷◌, length, get_or, ap, ◌∙◌, sym, arith, ◌⊎◌, inl, inr, true}
use Rattle.std.proofs.{Common.{◌++◌, Some, take, drop, subst}, lemmas.Option.{same_Some}, lemmas.List.{take-append-drop, drop-drop}}
use Rattle.client_world.specs.{declared.dos_memory.DosEntry.{DosEntry}, DosMemory.{Fills, is_dpmi}, Selector.{Row}, Soundness.{SoundRuns}}
use Rattle.std.specs.List.{slice_get}
use Rattle.guest_space.specs.Arena.{with_replaced_entries, NoneMade}

-- each has a paragraph at least
pub fills_long : (es : List DosEntry) (from to : ℕ) → Fills from es to → from + length es ≤ to
fills_long [] from to f = omega arith
fills_long (e ∷ es) from to f = let i = fills_long es (from + 1 + e.paras) to f.1 in omega arith

-- an entry is within them
pub record IsWithin (entry : DosEntry) (from to : ℕ) : Type 0 where
  pub starts : from ≤ entry.at
  pub ends : entry.at + 1 + entry.paras ≤ to

pub fills_at : (es : List DosEntry) (from to place : ℕ) (d : DosEntry) → Fills from es to → place < length es →
    IsWithin (get_or es place d) from to
fills_at [] from to place d f small = absurd (omega arith)
fills_at (e ∷ es) from to zero d f small = grind (arith, fills_long)
fills_at (e ∷ es) from to (suc place) d f small =
    let rest = fills_at es (from + 1 + e.paras) to place d f.1 (omega arith) in
    let starts = rest.starts in
    record { starts = omega arith; ends = rest.ends }

-- the next one follows it
pub fills_next : (es : List DosEntry) (from to place : ℕ) (d : DosEntry) → Fills from es to → place + 1 < length es →
    (get_or es (place + 1) d).at ≡ (get_or es place d).at + 1 + (get_or es place d).paras
fills_next [] from to place d f small = absurd (omega arith)
fills_next (e ∷ []) from to zero d f small = absurd (omega arith)
fills_next (e ∷ x ∷ es) from to zero d f small = f.1.0 ∙ ap (λ (at : ℕ). at + 1 + e.paras) (sym f.0)
fills_next (e ∷ es) from to (suc place) d f small =
    ap (λ (n : ℕ). (get_or (e ∷ es) n d).at) (let same : suc place + 1 ≡ suc (place + 1) = omega arith in same)
    ∙ fills_next es (from + 1 + e.paras) to place d f.1 (omega arith)

-- the entry is one of them
abbrev pub Has : DosEntry → List DosEntry → Type 0
Has entry [] = ⊥
Has entry (e ∷ es) = (e ≡ entry) ⊎ Has entry es

pub has_left : (entry : DosEntry) (xs ys : List DosEntry) → Has entry xs → Has entry (xs ++ ys)
has_left entry [] ys h = absurd h
has_left entry (x ∷ xs) ys (inl e) = inl e
has_left entry (x ∷ xs) ys (inr h) = inr (has_left entry xs ys h)

pub has_right : (entry : DosEntry) (xs ys : List DosEntry) → Has entry ys → Has entry (xs ++ ys)
has_right entry [] ys h = h
has_right entry (x ∷ xs) ys h = inr (has_right entry xs ys h)

pub has_either : (entry : DosEntry) (xs ys : List DosEntry) → Has entry (xs ++ ys) → Has entry xs ⊎ Has entry ys
has_either entry [] ys h = inr h
has_either entry (x ∷ xs) ys (inl e) = inl (inl e)
has_either entry (x ∷ xs) ys (inr h) = elim (has_either entry xs ys h) [
  | inl left ↦ inl (inr left)
  | inr right ↦ inr right
]

-- it is at a place
pub record Stands (entry : DosEntry) (es : List DosEntry) : Type 0 where
  pub place : ℕ
  pub there : slice_get es place ≡ Some entry

pub stands : (entry : DosEntry) (es : List DosEntry) → Has entry es → Stands entry es
stands entry [] h = absurd h
stands entry (e ∷ es) (inl same) = record { place = 0; there = ap (λ (x : DosEntry). Some x) same }
stands entry (e ∷ es) (inr h) = let rest = stands entry es h in record { place = suc rest.place; there = rest.there }

pub has_there : (entry : DosEntry) (es : List DosEntry) (place : ℕ) → slice_get es place ≡ Some entry → Has entry es
has_there entry [] place there = cc
has_there entry (e ∷ es) zero there = inl (same_Some e entry there)
has_there entry (e ∷ es) (suc place) there = inr (has_there entry es place there)

-- where none is made, one that is made is none of them
none_made : (entry : DosEntry) (es : List DosEntry) → NoneMade es → is_dpmi entry.state ≡ true → ¬ Has entry es
none_made entry [] none made h = h
none_made entry (e ∷ es) none made (inl same) = let plain = none.0 in cc
none_made entry (e ∷ es) none made (inr h) = none_made entry es none.1 made h

-- the entries are those before, the ones taken out, and those after
pub parts_are : (es : List DosEntry) (place old : ℕ) → take place es ++ (take old (drop place es) ++ drop (place + old) es) ≡ es
parts_are es place old =
    ap (λ (xs : List DosEntry). take place es ++ (take old (drop place es) ++ xs)) (sym (drop-drop old place es))
    ∙ ap (λ (xs : List DosEntry). take place es ++ xs) (take-append-drop old (drop place es))
    ∙ take-append-drop place es

-- one that is made stays, and none comes
kept_made : (entry : DosEntry) (es : List DosEntry) (place old : ℕ) (new : List DosEntry) → NoneMade (take old (drop place es)) →
    is_dpmi entry.state ≡ true → Has entry es → Has entry (with_replaced_entries es place old new)
kept_made entry es place old new none made h =
    let all : Has entry (take place es ++ (take old (drop place es) ++ drop (place + old) es)) =
    subst (Has entry) (sym (parts_are es place old)) h in
    elim (has_either entry (take place es) (take old (drop place es) ++ drop (place + old) es) all) [
      | inl front ↦ has_left entry (take place es) (new ++ drop (place + old) es) front
      | inr rest ↦ elim (has_either entry (take old (drop place es)) (drop (place + old) es) rest) [
        | inl out ↦ absurd (none_made entry (take old (drop place es)) none made out)
        | inr behind ↦ has_right entry (take place es) (new ++ drop (place + old) es) (has_right entry new (drop (place + old) es) behind)
      ]
    ]

was_made : (entry : DosEntry) (es : List DosEntry) (place old : ℕ) (new : List DosEntry) → NoneMade new →
    is_dpmi entry.state ≡ true → Has entry (with_replaced_entries es place old new) → Has entry es
was_made entry es place old new none made h = subst (Has entry) (parts_are es place old)
    (elim (has_either entry (take place es) (new ++ drop (place + old) es) h) [
      | inl front ↦ has_left entry (take place es) (take old (drop place es) ++ drop (place + old) es) front
      | inr rest ↦ elim (has_either entry new (drop (place + old) es) rest) [
        | inl fresh ↦ absurd (none_made entry new none made fresh)
        | inr behind ↦ grind (arith, has_right)
      ]
    ])

pub SoundRuns-spliced : (rows : List Row) (es : List DosEntry) (place old : ℕ) (new : List DosEntry) → SoundRuns rows es →
    NoneMade (take old (drop place es)) → NoneMade new → SoundRuns rows (with_replaced_entries es place old new)
SoundRuns-spliced rows es place old new sound gone none = record {
  runs = λ at entry there made.
      (let was =
      stands entry es (was_made entry es place old new none made (has_there entry (with_replaced_entries es place old new) at there)) in
      sound.runs was.place entry was.there made);
  entries = λ index segment has.
      (let was = sound.entries index segment has in
      let kept = stands was.entry (with_replaced_entries es place old new)
      (kept_made was.entry es place old new gone was.made (has_there was.entry es was.place was.there)) in
      record { place = kept.place; entry = was.entry; there = kept.there; made = was.made; starts = was.starts });
}
