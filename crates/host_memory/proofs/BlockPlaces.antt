-- Which block a search of the list finds at a linear address.
use Rattle.std.proofs.Common.{◌≡◌, ℕ, ◌+◌, ◌-◌, ◌<◌, ◌⊎◌, inl, inr, zero, suc, true, false, List, [], ◌∷◌, None, Some, length, get_or, refl}
use Rattle.std.proofs.{Common.{ap, ◌∙◌, sym, arith, add-zero}, lemmas.Bool.{cases_Bool}}
use Rattle.std.specs.declared.option.Option.{Option}
use Rattle.client_world.specs.{declared.place.Place.TheVariants.{Block, Nothing}, Access.{block_place, covers}, World.{MemoryBlock}}

-- a block of the list covers the address, and the search from a handle on finds it
pub record FindsBlock (blocks : List (Option MemoryBlock)) (handle lin : ℕ) : Type 0 where
  pub place : ℕ
  pub block : MemoryBlock
  pub within : place < length blocks
  pub there : get_or blocks place None ≡ Some block
  pub over : covers block lin ≡ true
  pub answer : block_place blocks handle lin ≡ Block (handle + place) (lin - block.base)

-- no block covers it, and the search finds nothing
pub record FindsNothing (blocks : List (Option MemoryBlock)) (handle lin : ℕ) : Type 0 where
  pub none : (place : ℕ) (block : MemoryBlock) → place < length blocks → get_or blocks place None ≡ Some block → covers block lin ≡ false
  pub answer : block_place blocks handle lin ≡ Nothing

-- a search either finds a block that covers the address or there is none
pub search_tells : (blocks : List (Option MemoryBlock)) (handle lin : ℕ) → FindsBlock blocks handle lin ⊎ FindsNothing blocks handle lin
search_tells [] handle lin = inr (record { none = λ place block within e. absurd (omega arith); answer = refl })
search_tells (None ∷ blocks) handle lin = elim (search_tells blocks (handle + 1) lin) [
  | inl found ↦ inl (record {
    place = suc found.place;
    block = found.block;
    within = omega arith;
    there = found.there;
    over = found.over;
    answer = found.answer
        ∙ ap (λ (k : ℕ). Block k (lin - found.block.base)) (let e : handle + 1 + found.place ≡ handle + suc found.place = omega arith in e);
  })
  | inr missed ↦ inr (record { none = later blocks handle lin missed; answer = missed.answer })
]
  where
    later : (blocks : List (Option MemoryBlock)) (handle lin : ℕ) → FindsNothing blocks (handle + 1) lin →
        (place : ℕ) (block : MemoryBlock) →
        place < length (None ∷ blocks) → get_or (None ∷ blocks) place None ≡ Some block → covers block lin ≡ false
    later blocks handle lin missed zero block within e = cc
    later blocks handle lin missed (suc place) block within e = missed.none place block (omega arith) e
search_tells (Some first ∷ blocks) handle lin = elim (cases_Bool (covers first lin)) [
  | inl over ↦
      inl (record { place = 0; block = first; within = omega arith; there = refl; over = over; answer = rw (over, add-zero handle) refl })
  | inr not_over ↦ elim (search_tells blocks (handle + 1) lin) [
    | inl found ↦ inl (record {
      place = suc found.place;
      block = found.block;
      within = omega arith;
      there = found.there;
      over = found.over;
      answer = rw not_over (found.answer ∙ ap (λ (k : ℕ). Block k (lin - found.block.base))
          (let e : handle + 1 + found.place ≡ handle + suc found.place = omega arith in e));
    })
    | inr missed ↦ inr (record { none = later first blocks handle lin not_over missed; answer = rw not_over missed.answer })
  ]
]
  where
    later : (first : MemoryBlock) (blocks : List (Option MemoryBlock)) (handle lin : ℕ) → covers first lin ≡ false →
        FindsNothing blocks (handle + 1) lin →
        (place : ℕ) (block : MemoryBlock) → place < length (Some first ∷ blocks) → get_or (Some first ∷ blocks) place None ≡ Some block →
        covers block lin ≡ false
    later first blocks handle lin not_over missed zero block within e =
        let same : first ≡ block = cc in ap (λ (x : MemoryBlock). covers x lin) (sym same) ∙ not_over
    later first blocks handle lin not_over missed (suc place) block within e = missed.none place block (omega arith) e
