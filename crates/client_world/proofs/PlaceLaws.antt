-- Where linear addresses lie, what a write leaves as it was, and which places the client holds.
use Rattle.std.proofs.Common.{◌≡◌, ℕ, zero, suc, ◌+◌, ◌-◌, ◌<◌, ◌≤◌, Bool, true, false, ◌&&◌, List, [], ◌∷◌, length, get_or, set, None}
use Rattle.std.proofs.{Common.{Some, refl, ap, ◌∙◌, sym, subst, arith, zero-add, add-zero, add-one}, lemmas.List.{length-set}}
use Rattle.std.proofs.lemmas.Bool.Decides.{nat_tests}
use Rattle.std.specs.{Prelude.{nat_lt, nat_le, if◌then◌else◌, slice_index_or}, declared.option.Option.{Option}}
use Rattle.client_world.specs.{declared.place.Place.{Place}, declared.place.Place.TheVariants.{Dos, Block, Host, Nothing}}
use Rattle.client_world.specs.declared.memory_map.TheConstants.{DOS_VIEW_END, BLOCK_REGION, BLOCK_REGION_END, HOST_WINDOW, HOST_WINDOW_END}
use Rattle.client_world.specs.Access.{dos_address, covers, block_place, place_in, HasByte, IsHeld, may_touch, with_block_byte, with_byte_of}
use Rattle.client_world.specs.{Access.{linear, places_from, first_forbidden}, World.{World, MemoryBlock, block_at}}

-- what the tests of an address come to
lt_yes : (a b : ℕ) → a < b → nat_lt a b ≡ true
lt_yes a b h = grind (arith, nat_tests)

lt_no : (a b : ℕ) → b ≤ a → nat_lt a b ≡ false
lt_no a b h = grind (arith, nat_tests)

le_yes : (a b : ℕ) → a ≤ b → nat_le a b ≡ true
le_yes a b h = grind (arith, nat_tests)

le_no : (a b : ℕ) → b < a → nat_le a b ≡ false
le_no a b h = grind (arith, nat_tests)

-- one lemma for each range of the memory map, upwards
pub place-dos : (blocks : List (Option MemoryBlock)) (l : ℕ) → l < DOS_VIEW_END → place_in blocks l ≡ Dos (dos_address l)
unfolding place_in
place-dos blocks l h = rw (lt_yes l DOS_VIEW_END h) refl

pub place-gap : (blocks : List (Option MemoryBlock)) (l : ℕ) → DOS_VIEW_END ≤ l → l < BLOCK_REGION → place_in blocks l ≡ Nothing
unfolding place_in
place-gap blocks l from to = rw (lt_no l DOS_VIEW_END from, le_no BLOCK_REGION l to, le_no HOST_WINDOW l (omega arith)) refl

pub place-block : (blocks : List (Option MemoryBlock)) (l : ℕ) → BLOCK_REGION ≤ l → l < BLOCK_REGION_END →
    place_in blocks l ≡ block_place blocks 1 l
unfolding place_in
place-block blocks l from to = rw (lt_no l DOS_VIEW_END (omega arith), le_yes BLOCK_REGION l from, lt_yes l BLOCK_REGION_END to) refl

pub place-gap_above_blocks : (blocks : List (Option MemoryBlock)) (l : ℕ) → BLOCK_REGION_END ≤ l → l < HOST_WINDOW →
    place_in blocks l ≡ Nothing
unfolding place_in
place-gap_above_blocks blocks l from to =
    rw (lt_no l DOS_VIEW_END (omega arith), le_yes BLOCK_REGION l (omega arith), lt_no l BLOCK_REGION_END from, le_no HOST_WINDOW l to) refl

pub place-host : (blocks : List (Option MemoryBlock)) (l : ℕ) → HOST_WINDOW ≤ l → l < HOST_WINDOW_END → place_in blocks l ≡ Host
unfolding place_in
place-host blocks l from to =
    rw (
      lt_no l DOS_VIEW_END (omega arith),
      le_yes BLOCK_REGION l (omega arith),
      lt_no l BLOCK_REGION_END (omega arith),
      le_yes HOST_WINDOW l from,
      lt_yes l HOST_WINDOW_END to,
    ) refl

pub place-above : (blocks : List (Option MemoryBlock)) (l : ℕ) → HOST_WINDOW_END ≤ l → place_in blocks l ≡ Nothing
unfolding place_in
place-above blocks l from =
    rw (
      lt_no l DOS_VIEW_END (omega arith),
      le_yes BLOCK_REGION l (omega arith),
      lt_no l BLOCK_REGION_END (omega arith),
      le_yes HOST_WINDOW l (omega arith),
      lt_no l HOST_WINDOW_END from,
    ) refl

-- a run of n bytes has n places, each where its own linear address lies
pub length-places_from : (blocks : List (Option MemoryBlock)) (at n : ℕ) → length (places_from blocks at n) ≡ n
unfolding places_from
length-places_from blocks at zero = refl
length-places_from blocks at (suc n) = ap suc (length-places_from blocks (at + 1) n)

pub places_from-at : (blocks : List (Option MemoryBlock)) (at n i : ℕ) (p : Place) → i < n →
    slice_index_or (places_from blocks at n) i p ≡ place_in blocks (linear (at + i))
unfolding places_from
places_from-at blocks at zero i p h = absurd (omega arith)
places_from-at blocks at (suc n) zero p h = rw (add-zero at) refl
places_from-at blocks at (suc n) (suc i) p h =
    let same : at + 1 + i ≡ at + suc i = omega arith in
    places_from-at blocks (at + 1) n i p (omega arith) ∙ ap (λ (a : ℕ). place_in blocks (linear a)) same

-- where blocks have the same places, so does the memory
pub place_in-same : (a b : List (Option MemoryBlock)) (l : ℕ) → block_place a 1 l ≡ block_place b 1 l → place_in a l ≡ place_in b l
unfolding place_in
place_in-same a b l e = rw e refl

pub places_from-same : (a b : List (Option MemoryBlock)) → ((l : ℕ) → place_in a l ≡ place_in b l) → (at n : ℕ) →
    places_from a at n ≡ places_from b at n
unfolding places_from
places_from-same a b same at zero = refl
places_from-same a b same at (suc n) = rw (same (linear at), places_from-same a b same (at + 1) n) refl

-- a write keeps the length of its block, so it moves nothing
block_place-with_byte : (blocks : List (Option MemoryBlock)) (place at v handle l : ℕ) →
    block_place (set blocks place (with_block_byte (get_or blocks place None) at v)) handle l ≡ block_place blocks handle l
block_place-with_byte [] place at v handle l = refl
block_place-with_byte (None ∷ blocks) zero at v handle l = refl
block_place-with_byte (Some block ∷ blocks) zero at v handle l = rw (length-set block.bytes at v) refl
block_place-with_byte (None ∷ blocks) (suc place) at v handle l = block_place-with_byte blocks place at v (handle + 1) l
block_place-with_byte (Some block ∷ blocks) (suc place) at v handle l = rw (block_place-with_byte blocks place at v (handle + 1) l) refl

pub place_in-with_byte_of : (w : World) (p : Place) (v l : ℕ) → place_in (with_byte_of w p v).blocks l ≡ place_in w.blocks l
place_in-with_byte_of w (Dos at) v l = refl
place_in-with_byte_of w (Block zero at) v l = refl
place_in-with_byte_of w (Block (suc place) at) v l =
    place_in-same (with_byte_of w (Block (suc place) at) v).blocks w.blocks l (block_place-with_byte w.blocks place at v 1 l)
place_in-with_byte_of w Host v l = refl
place_in-with_byte_of w Nothing v l = refl

-- a covered address lies below the end of its block
covers-below : (block : MemoryBlock) (l : ℕ) → covers block l ≡ true → l - block.base < length block.bytes
covers-below block l h = grind (arith, nat_tests)

block_at-next : (blocks : List (Option MemoryBlock)) (place : ℕ) → block_at blocks (place + 1) ≡ get_or blocks place None
block_at-next blocks place = rw (add-one place) refl

-- of two places the one that is chosen
held-choice : (w : World) (c : Bool) (one other : Place) (write : Bool) → (c ≡ true → may_touch one write ≡ true → IsHeld w one) →
    (may_touch other write ≡ true → IsHeld w other) → may_touch (if c then one else other) write ≡ true →
    IsHeld w (if c then one else other)
held-choice w true one other write f g h = f refl h
held-choice w false one other write f g h = g h

held-host : (w : World) (write : Bool) → may_touch Host write ≡ true → IsHeld w Host
held-host w write h = absurd cc

held-nothing : (w : World) (write : Bool) → may_touch Nothing write ≡ true → IsHeld w Nothing
held-nothing w write h = absurd cc

-- the blocks from a handle on, which are the rest of the world's
held-block : (w : World) (blocks : List (Option MemoryBlock)) (start l : ℕ) (write : Bool) → ((i : ℕ) → get_or blocks i None ≡ get_or
    w.blocks (start + i) None) → may_touch (block_place blocks (start + 1) l) write ≡ true → IsHeld w (block_place blocks (start + 1) l)
held-block w [] start l write rest h = held-nothing w write h
held-block w (None ∷ blocks) start l write rest h = held-block w blocks (start + 1) l write (λ i.
    let same : start + suc i ≡ start + 1 + i = omega arith in
    rest (suc i) ∙ ap (λ (j : ℕ). get_or w.blocks j None) same) h
held-block w (Some block ∷ blocks) start l write rest h =
    held-choice w (covers block l) (Block (start + 1) (l - block.base)) (block_place blocks (start + 1 + 1) l) write here
    (held-block w blocks (start + 1) l write (λ i.
    let same : start + suc i ≡ start + 1 + i = omega arith in
    rest (suc i) ∙ ap (λ (j : ℕ). get_or w.blocks j None) same)) h
  where
    found : Some block ≡ block_at w.blocks (start + 1)
    found = rest 0 ∙ ap (λ (j : ℕ). get_or w.blocks j None) (add-zero start) ∙ sym (block_at-next w.blocks start)

    here : covers block l ≡ true → may_touch (Block (start + 1) (l - block.base)) write ≡ true →
        IsHeld w (Block (start + 1) (l - block.base))
    here within _ = subst (λ (o : Option MemoryBlock). HasByte o (l - block.base)) found (covers-below block l within)

-- what the client may touch is its own
pub held-place : (w : World) (l : ℕ) (write : Bool) → may_touch (place_in w.blocks l) write ≡ true → IsHeld w (place_in w.blocks l)
unfolding place_in
held-place w l write h =
    held-choice w (nat_lt l DOS_VIEW_END) (Dos (dos_address l)) beyond write (λ e allowed. tt)
    (held-choice w (nat_le BLOCK_REGION l && nat_lt l BLOCK_REGION_END) (block_place w.blocks 1 l) above write (λ e. of_block)
    (held-choice w (nat_le HOST_WINDOW l && nat_lt l HOST_WINDOW_END) Host Nothing write (λ e. held-host w write) (held-nothing w write))) h
  where
    above : Place
    above = if nat_le HOST_WINDOW l && nat_lt l HOST_WINDOW_END then Host else Nothing

    beyond : Place
    beyond = if nat_le BLOCK_REGION l && nat_lt l BLOCK_REGION_END then block_place w.blocks 1 l else above

    of_block : may_touch (block_place w.blocks 1 l) write ≡ true → IsHeld w (block_place w.blocks 1 l)
    of_block = held-block w w.blocks 0 l write (λ i. ap (λ (j : ℕ). get_or w.blocks j None) (sym (zero-add i)))

-- no place is forbidden exactly where each may be touched
pub allowed-both : (c : Bool) (rest : Option Place) (p : Place) → (if c then rest else Some p) ≡ None → (c ≡ true) × (rest ≡ None)
allowed-both true rest p h = (refl, h)
allowed-both false rest p h = absurd cc

pub first_forbidden-none : (ps : List Place) (write : Bool) → first_forbidden ps write ≡ None → (i : ℕ) → i < length ps →
    may_touch (slice_index_or ps i Nothing) write ≡ true
first_forbidden-none [] write h i within = absurd (omega arith)
first_forbidden-none (p ∷ ps) write h zero within = (allowed-both (may_touch p write) (first_forbidden ps write) p h).0
first_forbidden-none (p ∷ ps) write h (suc i) within =
    first_forbidden-none ps write (allowed-both (may_touch p write) (first_forbidden ps write) p h).1 i (omega arith)

pub first_forbidden-none_where_allowed : (ps : List Place) (write : Bool) →
    ((i : ℕ) → i < length ps → may_touch (slice_index_or ps i Nothing) write ≡ true) → first_forbidden ps write ≡ None
first_forbidden-none_where_allowed [] write h = refl
first_forbidden-none_where_allowed (p ∷ ps) write h =
    let first : may_touch p write ≡ true = h 0 (omega arith) in
    rw first (first_forbidden-none_where_allowed ps write (λ i within. h (suc i) (omega arith)))
