-- Hits, one touch and one handle after another: those that there are, and those that are noted.
use Rattle.std.proofs.Common.{◌≡◌, ℕ, suc, ◌+◌, ◌-◌, ◌*◌, ◌^◌, ◌<◌, ◌≤◌, Bool, true, false, List, [], ◌∷◌, None, Option, refl, ap, ◌∙◌}
use Rattle.std.proofs.{Common.{drop, length, arith, zero, ◌++◌, Some, sym, append_assoc, take}, lemmas.List.{drop_all, length-drop}}
use Rattle.std.proofs.{lemmas.List.{append-nil, drop-set-lt, set-get_or}, Math.Seq.{drop-cons, take-suc-set}, Math.Nat.{pow-suc}}
use Rattle.std.proofs.{Math.Nat.{pow-le-pow_right}, Math.Bool.{and-false, or-false, or_assoc}}
use Rattle.std.specs.Prelude.{slice_index_or, cond, ◌||◌, slice_set, not, ◌&&◌}
use Rattle.client_world.specs.{declared.watchpoints.Touch.{Touch}, declared.watchpoints.Watch.{Watch}}
use Rattle.watch_run.specs.Hits.{hit_bits, slot_hit, watches_for, watches_one, watches_after_touches, has_first_hit, is_first_hit}
use Rattle.watch_run.specs.Hits.{watch_after_touches}

-- ---- touches

one_first : (x : Watch) (t : Touch) (rest : List Touch) → watches_for x t ≡ true → watches_one x (t ∷ rest) ≡ true
unfolding watches_one
one_first x t rest e = ap (λ (c : Bool). c || watches_one x rest) e

one_next : (x : Watch) (t : Touch) (rest : List Touch) → watches_for x t ≡ false → watches_one x (t ∷ rest) ≡ watches_one x rest
unfolding watches_one
one_next x t rest e = ap (λ (c : Bool). c || watches_one x rest) e

touch_from : (ts : List Touch) (i : ℕ) (d : Touch) → i < length ts → drop i ts ≡ slice_index_or ts i d ∷ drop (i + 1) ts
touch_from ts i d within =
    let next : suc i ≡ i + 1 = omega arith in
    drop-cons ts i d within ∙ ap (λ (n : ℕ). slice_index_or ts i d ∷ drop n ts) next

pub one_here : (x : Watch) (ts : List Touch) (i : ℕ) (d : Touch) → i < length ts → watches_for x (slice_index_or ts i d) ≡ true →
    watches_one x (drop i ts) ≡ true
one_here x ts i d within e = ap (watches_one x) (touch_from ts i d within) ∙ one_first x (slice_index_or ts i d) (drop (i + 1) ts) e

pub one_later : (x : Watch) (ts : List Touch) (i : ℕ) (d : Touch) → i < length ts → watches_for x (slice_index_or ts i d) ≡ false →
    watches_one x (drop i ts) ≡ watches_one x (drop (i + 1) ts)
one_later x ts i d within e = ap (watches_one x) (touch_from ts i d within) ∙ one_next x (slice_index_or ts i d) (drop (i + 1) ts) e

one_none : (x : Watch) → watches_one x [] ≡ false
unfolding watches_one
one_none x = refl

pub one_never : (x : Watch) (ts : List Touch) (i : ℕ) → length ts ≤ i → watches_one x (drop i ts) ≡ false
one_never x ts i done = ap (watches_one x) (drop_all i ts done) ∙ one_none x

-- ---- handles

pub bits_none : (at : ℕ) (slots : List (Option Watch)) → hit_bits at None slots ≡ 0
unfolding hit_bits
bits_none at [] = refl
bits_none at (slot ∷ slots) = omega (arith, bits_none at slots)

bits_nil : (at : ℕ) (touched : Option (List Touch)) → hit_bits at touched [] ≡ 0
unfolding hit_bits
bits_nil at touched = refl

bit_at_most : (c : Bool) → cond c 1 0 ≤ 1
bit_at_most true = omega arith
bit_at_most false = omega arith

bits_cons : (at : ℕ) (touched : Option (List Touch)) (slot : Option Watch) (slots : List (Option Watch)) →
    hit_bits at touched (slot ∷ slots) ≡ cond (slot_hit at touched slot) 1 0 + 2 * hit_bits at touched slots
unfolding hit_bits
bits_cons at touched slot slots = refl

bits_below : (at : ℕ) (touched : Option (List Touch)) (slots : List (Option Watch)) → hit_bits at touched slots < 2 ^ length slots
bits_below at touched [] = rw (bits_nil at touched) (omega arith)
bits_below at touched (slot ∷ slots) =
    let most = bit_at_most (slot_hit at touched slot) in
    let power = pow-suc 2 (length slots) in
    omega (arith, bits_cons at touched slot slots, bits_below at touched slots, most, power)

pub slot_from : (slots : List (Option Watch)) (i : ℕ) → i < length slots → drop i slots ≡ slice_index_or slots i None ∷ drop (i + 1) slots
slot_from slots i within =
    let next : suc i ≡ i + 1 = omega arith in
    drop-cons slots i None within ∙ ap (λ (n : ℕ). slice_index_or slots i None ∷ drop n slots) next

bits_at : (at : ℕ) (touched : Option (List Touch)) (slots : List (Option Watch)) (i : ℕ) → i < length slots →
    hit_bits at touched (drop i slots)
    ≡ 2 * hit_bits at touched (drop (i + 1) slots) + cond (slot_hit at touched (slice_index_or slots i None)) 1 0
bits_at at touched slots i within =
    let from = ap (hit_bits at touched) (slot_from slots i within) in
    omega (arith, from, bits_cons at touched (slice_index_or slots i None) (drop (i + 1) slots))

-- the bit of one more handle below those that are counted
pub bits_next : (at : ℕ) (touched : Option (List Touch)) (slots : List (Option Watch)) (k : ℕ) → length slots ≡ 16 → k < 16 →
    hit_bits at touched (drop (16 - (k + 1)) slots)
    ≡ 2 * hit_bits at touched (drop (16 - k) slots) + cond (slot_hit at touched (slice_index_or slots (16 - k - 1) None)) 1 0
bits_next at touched slots k all less =
    let within : 16 - k - 1 < length slots = omega (arith, all) in
    let same : 16 - (k + 1) ≡ 16 - k - 1 = omega arith in
    let after : 16 - k - 1 + 1 ≡ 16 - k = omega arith in
    ap (λ (n : ℕ). hit_bits at touched (drop n slots)) same
    ∙ bits_at at touched slots (16 - k - 1) within
    ∙ ap (λ (n : ℕ). 2 * hit_bits at touched (drop n slots) + cond (slot_hit at touched (slice_index_or slots (16 - k - 1) None)) 1 0) after

pub bits_room : (at : ℕ) (touched : Option (List Touch)) (slots : List (Option Watch)) (k : ℕ) → length slots ≡ 16 → k < 16 →
    hit_bits at touched (drop (16 - k) slots) < 2 ^ 15
bits_room at touched slots k all less =
    let rest = drop (16 - k) slots in
    let count : length rest ≤ 15 = omega (arith, length-drop (16 - k) slots, all) in
    let power : 2 ^ length rest ≤ 2 ^ 15 = pow-le-pow_right {n = 2} (omega arith) count in
    omega (arith, bits_below at touched rest, power)

pub bits_all : (at : ℕ) (touched : Option (List Touch)) (slots : List (Option Watch)) (k : ℕ) → 16 ≤ k →
    hit_bits at touched (drop (16 - k) slots) ≡ hit_bits at touched slots
bits_all at touched slots k done = let none : 16 - k ≡ 0 = omega arith in ap (λ (n : ℕ). hit_bits at touched (drop n slots)) none

pub bits_start : (at : ℕ) (touched : Option (List Touch)) (slots : List (Option Watch)) → length slots ≡ 16 →
    hit_bits at touched (drop (16 - 0) slots) ≡ 0
bits_start at touched slots all = ap (hit_bits at touched) (drop_all 16 slots (omega (arith, all))) ∙ bits_nil at touched

-- an event hits nothing
pub marked_none : (at : ℕ) (slots : List (Option Watch)) → watches_after_touches at None slots ≡ slots
marked_none at [] = refl
marked_none at (None ∷ slots) = cc (marked_none at slots)
marked_none at (Some x ∷ slots) =
    ap (λ (c : Bool). Some (record x { hit = c }) ∷ watches_after_touches at None slots) (or-false x.hit)
    ∙ ap (λ (rest : List (Option Watch)). Some x ∷ rest) (marked_none at slots)

first_none : (at : ℕ) (slots : List (Option Watch)) → has_first_hit at None slots ≡ false
first_none at [] = refl
first_none at (None ∷ slots) = first_none at slots
first_none at (Some x ∷ slots) = ap (λ (c : Bool). c || has_first_hit at None slots) (and-false (not x.hit)) ∙ first_none at slots

pub none_due : (at : ℕ) (slots : List (Option Watch)) (due : Bool) → (due || has_first_hit at None slots) ≡ due
none_due at slots due = ap (λ (c : Bool). due || c) (first_none at slots) ∙ or-false due

after_set : (slots : List (Option Watch)) (k : ℕ) (v : Option Watch) → drop (k + 1) (slice_set slots k v) ≡ drop (k + 1) slots
after_set slots k v = drop-set-lt (k + 1) slots k v (omega arith)

before_set : (slots : List (Option Watch)) (k : ℕ) (v : Option Watch) → k < length slots →
    take (k + 1) (slice_set slots k v) ≡ take k slots ++ v ∷ []
before_set slots k v within =
    let next : k + 1 ≡ suc k = omega arith in
    ap (λ (n : ℕ). take n (slice_set slots k v)) next ∙ take-suc-set slots k v within

-- those before place k are marked, and those from it on will be
pub step_marked : (at : ℕ) (touched : Option (List Touch)) (slots : List (Option Watch)) (k : ℕ) → k < length slots →
    take (k + 1) (slice_set slots k (watch_after_touches at touched (slice_index_or slots k None)))
    ++ watches_after_touches at touched (drop (k + 1) (slice_set slots k (watch_after_touches at touched (slice_index_or slots k None))))
    ≡ take k slots ++ watches_after_touches at touched (drop k slots)
step_marked at touched slots k within =
    let v = watch_after_touches at touched (slice_index_or slots k None) in
    let rest = watches_after_touches at touched (drop (k + 1) slots) in
    let front = before_set slots k v within in
    let back = ap (watches_after_touches at touched) (after_set slots k v) in
    let here = ap (watches_after_touches at touched) (slot_from slots k within) in
    let joined = append_assoc (take k slots) (v ∷ []) rest in
    cc (front, back, here, joined)

pub step_due : (at : ℕ) (touched : Option (List Touch)) (slots : List (Option Watch)) (k : ℕ) (due : Bool) (v : Option Watch) →
    k < length slots →
    ((due || is_first_hit at touched (slice_index_or slots k None)) || has_first_hit at touched (drop (k + 1) (slice_set slots k v)))
    ≡ (due || has_first_hit at touched (drop k slots))
step_due at touched slots k due v within =
    let x = slice_index_or slots k None in
    let rest = has_first_hit at touched (drop (k + 1) slots) in
    ap (λ (more : List (Option Watch)). (due || is_first_hit at touched x) || has_first_hit at touched more) (after_set slots k v)
    ∙ or_assoc due (is_first_hit at touched x) rest
    ∙ ap (λ (more : List (Option Watch)). due || has_first_hit at touched more) (sym (slot_from slots k within))

-- a handle that isn't hit stays as it is
slot_kept : (at : ℕ) (touched : List Touch) (slot : Option Watch) (due : Bool) → slot_hit at (Some touched) slot ≡ false →
    (watch_after_touches at (Some touched) slot ≡ slot) × ((due || is_first_hit at (Some touched) slot) ≡ due)
slot_kept at touched None due free = (refl, or-false due)
slot_kept at touched (Some x) due free = (
  ap (λ (c : Bool). Some (record x { hit = c })) (ap (λ (c : Bool). x.hit || c) free ∙ or-false x.hit),
  ap (λ (c : Bool). due || (not x.hit && c)) free ∙ ap (λ (c : Bool). due || c) (and-false (not x.hit)) ∙ or-false due,
)

pub kept_hit : (at : ℕ) (touched : List Touch) (slots : List (Option Watch)) (k : ℕ) (due : Bool) →
    let x = slice_index_or slots k None in slot_hit at (Some touched) x ≡ false →
    (slots ≡ slice_set slots k (watch_after_touches at (Some touched) x)) × (due ≡ (due || is_first_hit at (Some touched) x))
kept_hit at touched slots k due free =
    let kept = slot_kept at touched (slice_index_or slots k None) due free in
    (sym (ap (slice_set slots k) kept.0 ∙ set-get_or slots k None), sym kept.1)

take_all : (slots : List (Option Watch)) (k : ℕ) → length slots ≤ k → take k slots ≡ slots
take_all [] zero done = refl
take_all [] (suc k) done = refl
take_all (x ∷ slots) zero done = absurd (omega arith)
take_all (x ∷ slots) (suc k) done = ap (λ (rest : List (Option Watch)). x ∷ rest) (take_all slots k (omega arith))

pub end_marked : (at : ℕ) (touched : Option (List Touch)) (slots : List (Option Watch)) (k : ℕ) → length slots ≤ k →
    take k slots ++ watches_after_touches at touched (drop k slots) ≡ slots
end_marked at touched slots k done =
    let front = take_all slots k done in
    let back = ap (watches_after_touches at touched) (drop_all k slots done) in
    cc (front, back, append-nil slots)

pub end_due : (at : ℕ) (touched : Option (List Touch)) (slots : List (Option Watch)) (k : ℕ) (due : Bool) → length slots ≤ k →
    (due || has_first_hit at touched (drop k slots)) ≡ due
end_due at touched slots k due done =
    ap (λ (more : List (Option Watch)). due || has_first_hit at touched more) (drop_all k slots done) ∙ or-false due
