-- The searches over the entries of DOS memory, one entry after the other: what is found there, what the rest finds, and what the place says
-- of the entry.
use Rattle.std.proofs.Common.{◌≡◌, ℕ, suc, ◌+◌, ◌<◌, ◌≤◌, Bool, true, false, max, List, [], ◌∷◌, length, get_or, drop, drop-cons}
use Rattle.std.proofs.Common.{length-drop, refl, ap, ◌∙◌, sym, arith, Some, None, zero, ◌-◌, ◌⊎◌, inl, inr, if◌then◌else◌, subst, Option}
use Rattle.std.proofs.{lemmas.Bool.{leb-true, eqb-true, and_parts}, lemmas.Option.{none-some}}
use Rattle.client_world.specs.{declared.dos_memory.DosEntry.{DosEntry}, DosMemory.{is_free, block_segment}}
use Rattle.dos_blocks.specs.Blocks.{fits, first_fit, free_paras, largest, starts_at, place_of_block, entry_of_place, is_of_kind}

pub dropped : (es : List DosEntry) (place : ℕ) (d : DosEntry) → place < length es → drop place es ≡ get_or es place d ∷ drop (place + 1) es
dropped es place d small =
    drop-cons es place d small ∙ ap (λ (k : ℕ). get_or es place d ∷ drop k es) (let next : suc place ≡ place + 1 = omega arith in next)

pub none_left : (es : List DosEntry) (place : ℕ) → length es ≤ place → drop place es ≡ []
none_left es place past = empty (drop place es) (omega (arith, length-drop place es))
  where
    empty : (xs : List DosEntry) → length xs ≡ 0 → xs ≡ []
    empty [] long = refl
    empty (x ∷ xs) long = absurd (omega arith)

-- the rest from a place on, whose first entry was read
pub rest_is : (es : List DosEntry) (place : ℕ) (entry : DosEntry) → place < length es → entry ≡ get_or es place entry →
    drop place es ≡ entry ∷ drop (place + 1) es
rest_is es place entry small is = dropped es place entry small ∙ ap (λ (e : DosEntry). e ∷ drop (place + 1) es) (sym is)

-- an entry that fits

pub fit_here : (es : List DosEntry) (n place : ℕ) (entry : DosEntry) → place < length es → entry ≡ get_or es place entry →
    fits entry n ≡ true → first_fit (drop place es) n place ≡ Some place
unfolding first_fit
fit_here es n place entry small is test = ap (λ (xs : List DosEntry). first_fit xs n place) (rest_is es place entry small is) ∙ rw test refl

pub fit_next : (es : List DosEntry) (n place : ℕ) (entry : DosEntry) → place < length es → entry ≡ get_or es place entry →
    fits entry n ≡ false → first_fit (drop place es) n place ≡ first_fit (drop (place + 1) es) n (place + 1)
unfolding first_fit
fit_next es n place entry small is test = ap (λ (xs : List DosEntry). first_fit xs n place) (rest_is es place entry small is) ∙ rw test refl

pub fit_none : (es : List DosEntry) (n place : ℕ) → length es ≤ place → first_fit (drop place es) n place ≡ None
unfolding first_fit
fit_none es n place past = ap (λ (xs : List DosEntry). first_fit xs n place) (none_left es place past)

-- a block

pub block_here : (for_dpmi : Bool) (es : List DosEntry) (segment place : ℕ) (entry : DosEntry) → place < length es →
    entry ≡ get_or es place entry →
    starts_at for_dpmi entry segment ≡ true → place_of_block for_dpmi (drop place es) segment place ≡ Some place
unfolding place_of_block
block_here for_dpmi es segment place entry small is test =
    ap (λ (xs : List DosEntry). place_of_block for_dpmi xs segment place) (rest_is es place entry small is) ∙ rw test refl

pub block_next : (for_dpmi : Bool) (es : List DosEntry) (segment place : ℕ) (entry : DosEntry) → place < length es →
    entry ≡ get_or es place entry → starts_at for_dpmi entry segment ≡ false →
    place_of_block for_dpmi (drop place es) segment place ≡ place_of_block for_dpmi (drop (place + 1) es) segment (place + 1)
unfolding place_of_block
block_next for_dpmi es segment place entry small is test =
    ap (λ (xs : List DosEntry). place_of_block for_dpmi xs segment place) (rest_is es place entry small is) ∙ rw test refl

pub block_none : (for_dpmi : Bool) (es : List DosEntry) (segment place : ℕ) → length es ≤ place →
    place_of_block for_dpmi (drop place es) segment place ≡ None
unfolding place_of_block
block_none for_dpmi es segment place past = ap (λ (xs : List DosEntry). place_of_block for_dpmi xs segment place) (none_left es place past)

-- the largest free entry

max_in : (a b c : ℕ) → max (max a b) c ≡ max a (max b c)
max_in a b c = omega arith

pub largest_next : (es : List DosEntry) (best place : ℕ) (entry : DosEntry) → place < length es → entry ≡ get_or es place entry →
    max best (largest (drop place es)) ≡ max (max best (free_paras entry)) (largest (drop (place + 1) es))
unfolding largest
largest_next es best place entry small is = grind (arith, max_in, rest_is)

pub largest_none : (es : List DosEntry) (best place : ℕ) → length es ≤ place → max best (largest (drop place es)) ≡ best
unfolding largest
largest_none es best place past = ap (λ (xs : List DosEntry). max best (largest xs)) (none_left es place past) ∙ omega arith

abbrev pub number : Option ℕ → ℕ
number None = 0
number (Some x) = x

chosen : (test : Bool) (here place : ℕ) (rest : Option ℕ) → (if test then Some here else rest) ≡ Some place →
    ((test ≡ true) × (here ≡ place)) ⊎ (rest ≡ Some place)
chosen true here place rest h = inl (refl, ap number h)
chosen false here place rest h = inr h

-- a free entry with room
pub record HasFit (es : List DosEntry) (n place : ℕ) : Type 0 where
  pub small : place < length es
  pub free : is_free (entry_of_place es place).state ≡ true
  pub room : n ≤ (entry_of_place es place).paras

fit_tells : (es : List DosEntry) (n start place : ℕ) → first_fit es n start ≡ Some place → (start ≤ place) × HasFit es n (place - start)
unfolding first_fit
fit_tells [] n start place h = absurd (none-some place h)
fit_tells (e ∷ es) n start place h = elim (chosen (fits e n) start place (first_fit es n (start + 1)) h) [
  | inl found ↦ (omega (arith, found.1), here (place - start) (omega (arith, found.1)) found.0)
  | inr rest ↦ (let i = fit_tells es n (start + 1) place rest in
      (omega (arith, i.0), there (place - start) (place - (start + 1)) (omega (arith, i.0)) i.1))
]
  where
    here : (j : ℕ) → j ≡ 0 → fits e n ≡ true → HasFit (e ∷ es) n j
    here zero z test = grind (arith, and_parts, leb-true)
    here (suc j) z test = absurd (omega arith)

    there : (j i : ℕ) → j ≡ i + 1 → HasFit es n i → HasFit (e ∷ es) n j
    there zero i next f = absurd (omega arith)
    there (suc j) i next f =
        let same : i ≡ j = omega arith in
        let small = f.small in
        subst (λ (x : ℕ). HasFit (e ∷ es) n (suc x)) same (record { small = omega arith; free = f.free; room = f.room })

pub found_fit : (es : List DosEntry) (n place : ℕ) → Some place ≡ first_fit es n 0 → HasFit es n place
found_fit es n place h =
    subst (λ (x : ℕ). HasFit es n x) (let same : place - 0 ≡ place = omega arith in same) (fit_tells es n 0 place (sym h)).1

-- a block of the kind
pub record HasBlock (for_dpmi : Bool) (es : List DosEntry) (segment place : ℕ) : Type 0 where
  pub small : place < length es
  pub kind : is_of_kind for_dpmi (entry_of_place es place).state ≡ true
  pub starts : block_segment (entry_of_place es place) ≡ segment

block_tells : (for_dpmi : Bool) (es : List DosEntry) (segment start place : ℕ) → place_of_block for_dpmi es segment start ≡ Some place →
    (start ≤ place) × HasBlock for_dpmi es segment (place - start)
unfolding place_of_block
block_tells for_dpmi [] segment start place h = absurd (none-some place h)
block_tells for_dpmi (e ∷ es) segment start place h =
    elim (chosen (starts_at for_dpmi e segment) start place (place_of_block for_dpmi es segment (start + 1)) h) [
      | inl found ↦ (omega (arith, found.1), here (place - start) (omega (arith, found.1)) found.0)
      | inr rest ↦ (let i = block_tells for_dpmi es segment (start + 1) place rest in
          (omega (arith, i.0), there (place - start) (place - (start + 1)) (omega (arith, i.0)) i.1))
    ]
  where
    here : (j : ℕ) → j ≡ 0 → starts_at for_dpmi e segment ≡ true → HasBlock for_dpmi (e ∷ es) segment j
    here zero z test = grind (arith, and_parts, eqb-true)
    here (suc j) z test = absurd (omega arith)

    there : (j i : ℕ) → j ≡ i + 1 → HasBlock for_dpmi es segment i → HasBlock for_dpmi (e ∷ es) segment j
    there zero i next f = absurd (omega arith)
    there (suc j) i next f =
        let same : i ≡ j = omega arith in
        let small = f.small in
        subst (λ (x : ℕ). HasBlock for_dpmi (e ∷ es) segment (suc x)) same
        (record { small = omega arith; kind = f.kind; starts = f.starts })

pub found_block : (for_dpmi : Bool) (es : List DosEntry) (segment place : ℕ) → Some place ≡ place_of_block for_dpmi es segment 0 →
    HasBlock for_dpmi es segment place
found_block for_dpmi es segment place h =
    subst (λ (x : ℕ). HasBlock for_dpmi es segment x) (let same : place - 0 ≡ place = omega arith in same)
    (block_tells for_dpmi es segment 0 place (sym h)).1
