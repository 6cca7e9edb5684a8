-- Blocks with another block, or none, in place of one are sound, and so is the world with them.
use Rattle.std.proofs.Common.{◌≡◌, ◌≢◌, ℕ, zero, suc, ◌+◌, ◌*◌, ◌/◌, ◌<◌, ◌≤◌, ◌⊎◌, inl, inr, List, [], ◌∷◌, ◌++◌, length, take}
use Rattle.std.proofs.Common.{slice_index, slice_index_or, slice_set, refl, ap, ◌∙◌, sym, subst, arith, Option, None, Some, get_or-set_same}
use Rattle.std.proofs.{Common.{get_or-set_other, length-set}, lemmas.Bool.{cases_eq, cases_lt, eq-eqb, ne_eqb}, lemmas.List.{length-append}}
use Rattle.std.proofs.lemmas.List.{length-take-le, get_or-take, get_or_append_left, get_or-append_right, get_or_past}
use Rattle.client_world.specs.{declared.host_frames.TheConstants.{PAGE_SIZE}, declared.limits.TheConstants.{MAX_BLOCKS}}
use Rattle.client_world.specs.{declared.limits.TheConstants.{GREATEST_LOCK_COUNT}, declared.place.Place.TheVariants.{Block}}
use Rattle.client_world.specs.{declared.registers.Width.{Width}, Access.{bytes_of_block}, Soundness.{IsSound, SoundBlocks, IsBlock}}
use Rattle.client_world.specs.{Soundness.{AreApart, HoldBytes, SoundWidth, pages_of_block, pages_of_blocks}, World.{World, MemoryBlock}}
use Rattle.client_world.specs.World.{block_at, base_of_block}
use Rattle.guest_ram.specs.{Bytes.{put}, Listed.{zeros, copies}}
use Rattle.guest_ram.proofs.{ListedLaws.{length-zeros, at_zeros, length-copies, at_copies}, PutLaws.{length-put}}
use Rattle.block_memory.specs.BlockSizes.{CanHold, CanMove, HasPages, longer, shorter, at_base, with_lock, with_page_lock}
use Rattle.block_memory.specs.BlockSizes.{blocks_with_zero_page, with_zero_page, locks_of_block}
use Rattle.block_memory.proofs.PageChanges.{HasLast}

-- the pages of all blocks
pub pages_put : (blocks : List (Option MemoryBlock)) (place : ℕ) (x : Option MemoryBlock) → place < length blocks →
    pages_of_blocks (slice_set blocks place x) + pages_of_block (slice_index_or blocks place None)
    ≡ pages_of_blocks blocks + pages_of_block x
pages_put [] place x l = absurd (omega arith)
pages_put (y ∷ blocks) zero x l = omega arith
pages_put (y ∷ blocks) (suc place) x l = let rest = pages_put blocks place x (omega arith) in omega arith

-- which block is at a handle then
record IsThere (blocks : List (Option MemoryBlock)) (place : ℕ) (x : Option MemoryBlock) (handle : ℕ) (block : MemoryBlock) : Type 0 where
  at : ℕ
  is : handle ≡ suc at
  found : ((at ≡ place) × (x ≡ Some block)) ⊎ ((at ≢ place) × (slice_index_or blocks at None ≡ Some block))

is_there : (blocks : List (Option MemoryBlock)) (place : ℕ) (x : Option MemoryBlock) → place < length blocks →
    (handle : ℕ) (block : MemoryBlock) → block_at (slice_set blocks place x) handle ≡ Some block → IsThere blocks place x handle block
is_there blocks place x within zero block e = absurd cc
is_there blocks place x within (suc at) block e = grind (arith, get_or-set_other, get_or-set_same)

apart_back : (one other : MemoryBlock) → AreApart one other → AreApart other one
apart_back one other far = elim far [ inl a ↦ inr a | inr a ↦ inl a ]

same_some : (x : Option MemoryBlock) (one other : MemoryBlock) → x ≡ Some one → x ≡ Some other → one ≡ other
same_some x one other e f = cc

pub sound_put : (blocks : List (Option MemoryBlock)) (budget place : ℕ) (x : Option MemoryBlock) → SoundBlocks blocks budget →
    place < MAX_BLOCKS → ((block : MemoryBlock) → x ≡ Some block → IsBlock block) →
    ((block : MemoryBlock) → x ≡ Some block → (other : ℕ) (held : MemoryBlock) → other ≢ place →
    slice_index_or blocks other None ≡ Some held → AreApart block held) →
    pages_of_blocks blocks + pages_of_block x ≤ budget + pages_of_block (slice_index_or blocks place None) →
    SoundBlocks (slice_set blocks place x) budget
sound_put blocks budget place x sound within is apart room = record {
  handles = length-set blocks place x ∙ sound.handles;
  each = λ handle block e. (let there = is_there blocks place x inside handle block e in elim there.found [
    | inl here ↦ is block here.1
    | inr away ↦ sound.each (suc there.at) block away.1
  ]);
  apart = λ one other first second ne e f. (
      let p = is_there blocks place x inside one first e in
      let q = is_there blocks place x inside other second f in
      let p_is = p.is in let q_is = q.is in
      elim p.found [
        | inl here ↦ grind arith
        | inr away ↦ elim q.found [
          | inl here ↦ apart_back second first (apart second here.1 p.at first away.0 away.1)
          | inr too ↦ sound.apart (suc p.at) (suc q.at) first second (λ same. ne (omega arith)) away.1 too.1
        ]
      ]);
  within = (let sum = pages_put blocks place x inside in omega arith);
}
  where
    inside : place < length blocks
    inside = let long = sound.handles in omega arith

pub bytes_put : (blocks : List (Option MemoryBlock)) (place : ℕ) (x : Option MemoryBlock) → place < length blocks → HoldBytes blocks →
    ((block : MemoryBlock) → x ≡ Some block → (at : ℕ) → slice_index block.bytes at < 0x100) → HoldBytes (slice_set blocks place x)
bytes_put blocks place x within fits is = λ handle block e. (
    let there = is_there blocks place x within handle block e in elim there.found [
      | inl here ↦ is block here.1
      | inr away ↦ fits (suc there.at) block away.1
    ])

-- the world with other blocks
sound_width : (width : Option Width) (w : World) (blocks : List (Option MemoryBlock)) → width ≢ None → SoundWidth width w →
    SoundWidth width (record w { blocks = blocks })
sound_width None w blocks some s = absurd (some refl)
sound_width (Some width) w blocks some s = s

pub sound_blocks : (w : World) (blocks : List (Option MemoryBlock)) → IsSound w → w.width ≢ None → SoundBlocks blocks w.budget →
    HoldBytes blocks → IsSound (record w { blocks = blocks })
sound_blocks w blocks s some sound fits = grind (arith, sound_width)

-- a list of numbers with zeros after it
zeros_behind : (xs : List ℕ) (n at most : ℕ) → ((k : ℕ) → slice_index xs k ≤ most) → slice_index (xs ++ zeros n) at ≤ most
zeros_behind xs n at most few = grind (arith, at_zeros, get_or-append_right, get_or_append_left, get_or_past, length-zeros)

-- a block, or none, is as long as its pages
pub length-bytes : (blocks : List (Option MemoryBlock)) (budget place : ℕ) → SoundBlocks blocks budget → (o : Option MemoryBlock) →
    slice_index_or blocks place None ≡ o → length (bytes_of_block o) ≡ PAGE_SIZE * pages_of_block o
length-bytes blocks budget place sound None e = refl
length-bytes blocks budget place sound (Some block) e = (sound.each (suc place) block e).pages

pub length-locks : (o : Option MemoryBlock) → length (locks_of_block o) ≡ pages_of_block o
length-locks None = refl
length-locks (Some block) = refl

old_locks : (blocks : List (Option MemoryBlock)) (budget place : ℕ) → SoundBlocks blocks budget → (o : Option MemoryBlock) →
    slice_index_or blocks place None ≡ o → (page : ℕ) → slice_index (locks_of_block o) page ≤ GREATEST_LOCK_COUNT
old_locks blocks budget place sound None e page = omega arith
old_locks blocks budget place sound (Some block) e page = (sound.each (suc place) block e).locks page

old_fits : (blocks : List (Option MemoryBlock)) (place : ℕ) → HoldBytes blocks → (o : Option MemoryBlock) →
    slice_index_or blocks place None ≡ o → (at : ℕ) → slice_index (bytes_of_block o) at ≤ 0xFF
old_fits blocks place fits None e at = omega arith
old_fits blocks place fits (Some block) e at = let fit = fits (suc place) block e at in omega arith

-- a block that has grown by a page

abbrev held : List (Option MemoryBlock) → ℕ → Option MemoryBlock
held blocks place = slice_index_or blocks place None

pub longer_sound : (blocks : List (Option MemoryBlock)) (budget place base n to : ℕ) → SoundBlocks blocks budget →
    CanHold blocks budget place base n to → n < to →
    SoundBlocks (slice_set blocks place (Some (longer base (slice_index_or blocks place None) 1))) budget
longer_sound blocks budget place base n to sound can more =
    sound_put blocks budget place (Some (longer base (held blocks place) 1)) sound can.within
    (λ block e. subst IsBlock (same_some _ _ block refl e) is)
    (λ block e other there ne f. subst (λ (x : MemoryBlock). AreApart x there) (same_some _ _ block refl e) (apart other there ne f))
    (let pages = can.pages in let room = can.room in
    omega (arith, length-append (locks_of_block (held blocks place)) (zeros 1), length-zeros 1, length-locks (held blocks place)))
  where
    long : length (bytes_of_block (held blocks place) ++ zeros (PAGE_SIZE * 1)) ≡ PAGE_SIZE * (n + 1)
    long =
        let pages = can.pages in
        omega (
          arith,
          length-append (bytes_of_block (held blocks place)) (zeros (PAGE_SIZE * 1)),
          length-zeros (PAGE_SIZE * 1),
          length-bytes blocks budget place sound (held blocks place) refl,
        )

    count : length (locks_of_block (held blocks place) ++ zeros 1) ≡ n + 1
    count = grind (arith, length-append, length-locks, length-zeros)

    is : IsBlock (longer base (held blocks place) 1)
    is =
        let below = can.below in
        record {
          some = omega (arith, long);
          pages = omega (arith, long, count);
          whole = can.whole;
          from = can.above;
          to = omega (arith, long);
          locks = λ page. zeros_behind (locks_of_block (held blocks place)) 1 page GREATEST_LOCK_COUNT
              (old_locks blocks budget place sound (held blocks place) refl);
        }

    apart : (other : ℕ) (there : MemoryBlock) → other ≢ place → slice_index_or blocks other None ≡ Some there →
        AreApart (longer base (held blocks place) 1) there
    apart other there ne f = elim (can.apart other there ne f) [
      | inl far ↦ inl (omega (arith, long))
      | inr near ↦ inr near
    ]

pub longer_fits : (blocks : List (Option MemoryBlock)) (budget place base n to : ℕ) → SoundBlocks blocks budget → HoldBytes blocks →
    CanHold blocks budget place base n to → HoldBytes (slice_set blocks place (Some (longer base (slice_index_or blocks place None) 1)))
longer_fits blocks budget place base n to sound fits can = grind (arith, bytes_put, old_fits, same_some, zeros_behind)

-- it may grow further
pub can_hold_next : (blocks : List (Option MemoryBlock)) (budget place base n to : ℕ) → CanHold blocks budget place base n to → n < to →
    CanHold (slice_set blocks place (Some (longer base (slice_index_or blocks place None) 1))) budget place base (n + 1) to
can_hold_next blocks budget place base n to can more =
    grind (arith, get_or-set_other, get_or-set_same, length-append, length-locks, length-set, length-zeros, pages_put)

-- what a block that has shrunk is
record IsCut (o : Option MemoryBlock) (n : ℕ) (block : MemoryBlock) : Type 0 where
  was : MemoryBlock
  there : o ≡ Some was
  some : n ≢ 0
  base : block.base ≡ was.base
  bytes : block.bytes ≡ take (PAGE_SIZE * n) was.bytes
  locks : block.locks ≡ take n was.locks

is_cut : (o : Option MemoryBlock) (n : ℕ) (block : MemoryBlock) → shorter o n ≡ Some block → IsCut o n block
is_cut None n block e = absurd cc
is_cut (Some was) n block e = grind (arith, eq-eqb, ne_eqb, same_some)

pub last_of : (blocks : List (Option MemoryBlock)) (place base n : ℕ) → HasPages blocks place base (n + 1) → HasLast blocks place base n
last_of blocks place base n has = record { within = has.within; pages = has.count; based = has.based (omega arith) }

-- its sizes
record CutSizes (was block : MemoryBlock) (n : ℕ) : Type 0 where
  bytes : length block.bytes ≡ PAGE_SIZE * n
  locks : length block.locks ≡ n
  within : PAGE_SIZE * n ≤ length was.bytes

cut_sizes : (blocks : List (Option MemoryBlock)) (budget place base n : ℕ) → SoundBlocks blocks budget → HasLast blocks place base n →
    (block : MemoryBlock) (c : IsCut (held blocks place) n block) → CutSizes c.was block n
cut_sizes blocks budget place base n sound has block c =
    let was = sound.each (suc place) c.was c.there in
    let size = was.pages in
    let pages : length c.was.locks ≡ n + 1 = sym (ap pages_of_block c.there) ∙ has.pages in
    grind (arith, length-take-le)

front_few : (xs : List ℕ) (n at most : ℕ) → n ≤ length xs → ((k : ℕ) → slice_index xs k ≤ most) → slice_index (take n xs) at ≤ most
front_few xs n at most inside few = grind (arith, get_or-take, get_or_past, length-take-le)

pub shorter_pages : (o : Option MemoryBlock) (n : ℕ) → n ≤ pages_of_block o → pages_of_block (shorter o n) ≡ n
shorter_pages None n few = omega arith
shorter_pages (Some block) n few = grind (arith, eq-eqb, length-take-le, ne_eqb)

shorter_base : (o : Option MemoryBlock) (n : ℕ) → n ≢ 0 → base_of_block (shorter o n) ≡ base_of_block o
shorter_base None n some = refl
shorter_base (Some block) n some = rw (ne_eqb n 0 some) refl

pub shorter_sound : (blocks : List (Option MemoryBlock)) (budget place base n : ℕ) → SoundBlocks blocks budget →
    HasLast blocks place base n → SoundBlocks (slice_set blocks place (shorter (slice_index_or blocks place None) n)) budget
shorter_sound blocks budget place base n sound has =
    sound_put blocks budget place (shorter (held blocks place) n) sound has.within is apart
    (let pages = has.pages in let within = sound.within in omega (arith, shorter_pages (held blocks place) n (omega arith)))
  where
    is : (block : MemoryBlock) → shorter (held blocks place) n ≡ Some block → IsBlock block
    is block e =
        let c = is_cut (held blocks place) n block e in
        let size = cut_sizes blocks budget place base n sound has block c in
        let was = sound.each (suc place) c.was c.there in
        let bytes = size.bytes in let locks = size.locks in let some = c.some in let within = size.within in
        let base_is = c.base in let whole = was.whole in let from = was.from in let to = was.to in
        let long : length c.was.locks ≡ n + 1 = sym (ap pages_of_block c.there) ∙ has.pages in
        grind (arith, front_few)

    apart : (block : MemoryBlock) → shorter (held blocks place) n ≡ Some block → (other : ℕ) (there : MemoryBlock) → other ≢ place →
        slice_index_or blocks other None ≡ Some there → AreApart block there
    apart block e other there ne f =
        let c = is_cut (held blocks place) n block e in
        let size = cut_sizes blocks budget place base n sound has block c in
        let bytes = size.bytes in let within = size.within in let base_is = c.base in
        elim (sound.apart (suc place) (suc other) c.was there (λ same. ne (omega arith)) c.there f) [
          | inl far ↦ inl (omega arith)
          | inr near ↦ inr (omega arith)
        ]

pub shorter_fits : (blocks : List (Option MemoryBlock)) (budget place base n : ℕ) → SoundBlocks blocks budget → HoldBytes blocks →
    HasLast blocks place base n → HoldBytes (slice_set blocks place (shorter (slice_index_or blocks place None) n))
shorter_fits blocks budget place base n sound fits has =
    bytes_put blocks place (shorter (held blocks place) n) (let long = sound.handles in let within = has.within in omega arith) fits
    (λ block e at.
    let c = is_cut (held blocks place) n block e in
    let size = cut_sizes blocks budget place base n sound has block c in
    let fit : slice_index (take (PAGE_SIZE * n) c.was.bytes) at ≤ 0xFF = front_few c.was.bytes (PAGE_SIZE * n) at 0xFF size.within (λ k.
    let old = fits (suc place) c.was c.there k in omega arith) in
    let same : slice_index block.bytes at ≡ slice_index (take (PAGE_SIZE * n) c.was.bytes) at =
    ap (λ (xs : List ℕ). slice_index xs at) c.bytes in
    omega arith)

-- it has its first pages
pub has_pages_next : (blocks : List (Option MemoryBlock)) (place base n : ℕ) → HasPages blocks place base (n + 1) →
    HasPages (slice_set blocks place (shorter (slice_index_or blocks place None) n)) place base n
has_pages_next blocks place base n has = grind (arith, get_or-set_same, length-set, shorter_base, shorter_pages)

-- a block that has moved

moved_sound_at : (blocks : List (Option MemoryBlock)) (budget place base n : ℕ) → SoundBlocks blocks budget → CanMove blocks place base n →
    (o : Option MemoryBlock) → held blocks place ≡ o → SoundBlocks (slice_set blocks place (at_base base o)) budget
moved_sound_at blocks budget place base n sound can None e = absurd (can.some (sym can.count ∙ ap pages_of_block e))
moved_sound_at blocks budget place base n sound can (Some block) e =
    let was = sound.each (suc place) block e in
    let long = was.pages in
    let count : length block.locks ≡ n = sym (ap pages_of_block e) ∙ can.count in
    let below = can.below in let sum = sound.within in
    let moved : MemoryBlock = record { base = base; bytes = block.bytes; locks = block.locks } in
    let is : IsBlock moved =
    record { some = was.some; pages = was.pages; whole = can.whole; from = can.above; to = omega arith; locks = was.locks } in
    sound_put blocks budget place (Some moved) sound can.within
    (λ other f. subst IsBlock (same_some _ _ other refl f) is)
    (λ other f at there ne g. subst (λ (x : MemoryBlock). AreApart x there) (same_some _ _ other refl f) (grind arith))
    (let pages : pages_of_block (held blocks place) ≡ length block.locks = ap pages_of_block e in omega arith)

pub moved_sound : (blocks : List (Option MemoryBlock)) (budget place base n : ℕ) → SoundBlocks blocks budget → CanMove blocks place base n →
    SoundBlocks (slice_set blocks place (at_base base (slice_index_or blocks place None))) budget
moved_sound blocks budget place base n sound can = moved_sound_at blocks budget place base n sound can (held blocks place) refl

moved_fits_at : (blocks : List (Option MemoryBlock)) (place base : ℕ) → place < length blocks → HoldBytes blocks →
    (o : Option MemoryBlock) → held blocks place ≡ o → HoldBytes (slice_set blocks place (at_base base o))
moved_fits_at blocks place base within fits None e = bytes_put blocks place None within fits (λ block f at. absurd cc)
moved_fits_at blocks place base within fits (Some was) e =
    bytes_put blocks place (at_base base (Some was)) within fits (λ block f at.
    subst (λ (x : MemoryBlock). slice_index x.bytes at < 0x100) (same_some _ _ block refl f) (fits (suc place) was e at))

pub moved_fits : (blocks : List (Option MemoryBlock)) (place base n : ℕ) → HoldBytes blocks → CanMove blocks place base n →
    HoldBytes (slice_set blocks place (at_base base (slice_index_or blocks place None)))
moved_fits blocks place base n fits can =
    moved_fits_at blocks place base (let long = can.handles in let within = can.within in omega arith) fits (held blocks place) refl

-- a block with another lock count

locked_sound_at : (blocks : List (Option MemoryBlock)) (budget place page n : ℕ) → SoundBlocks blocks budget → place < MAX_BLOCKS →
    n ≤ GREATEST_LOCK_COUNT → (o : Option MemoryBlock) →
    held blocks place ≡ o → SoundBlocks (slice_set blocks place (with_page_lock o page n)) budget
locked_sound_at blocks budget place page n sound within few None e =
    sound_put blocks budget place None sound within (λ block f. absurd cc) (λ block f other there ne g. absurd cc)
    (let sum = sound.within in omega arith)
locked_sound_at blocks budget place page n sound within few (Some block) e =
    let was = sound.each (suc place) block e in
    let sum = sound.within in
    let x : MemoryBlock = record { base = block.base; bytes = block.bytes; locks = slice_set block.locks page n } in
    let size : length x.locks ≡ length block.locks = length-set block.locks page n in
    let is : IsBlock x = grind (arith, get_or-set_other, get_or-set_same, get_or_past) in
    sound_put blocks budget place (Some x) sound within
    (λ other f. subst IsBlock (same_some _ _ other refl f) is)
    (λ other f at there ne g. subst (λ (y : MemoryBlock). AreApart y there) (same_some _ _ other refl f)
    (sound.apart (suc place) (suc at) block there (λ same. ne (omega arith)) e g))
    (let pages : pages_of_block (held blocks place) ≡ length block.locks = ap pages_of_block e in omega arith)

pub locked_sound : (blocks : List (Option MemoryBlock)) (budget place at n : ℕ) → SoundBlocks blocks budget → place < MAX_BLOCKS →
    n ≤ GREATEST_LOCK_COUNT → SoundBlocks (with_lock blocks (Block (suc place) at) n) budget
locked_sound blocks budget place at n sound within few =
    locked_sound_at blocks budget place (at / PAGE_SIZE) n sound within few (held blocks place) refl

locked_fits_at : (blocks : List (Option MemoryBlock)) (place page n : ℕ) → place < length blocks → HoldBytes blocks →
    (o : Option MemoryBlock) → held blocks place ≡ o → HoldBytes (slice_set blocks place (with_page_lock o page n))
locked_fits_at blocks place page n within fits None e = bytes_put blocks place None within fits (λ block f at. absurd cc)
locked_fits_at blocks place page n within fits (Some was) e =
    bytes_put blocks place (with_page_lock (Some was) page n) within fits (λ block f at.
    subst (λ (x : MemoryBlock). slice_index x.bytes at < 0x100) (same_some _ _ block refl f) (fits (suc place) was e at))

pub locked_fits : (blocks : List (Option MemoryBlock)) (place at n : ℕ) → place < length blocks → HoldBytes blocks →
    HoldBytes (with_lock blocks (Block (suc place) at) n)
locked_fits blocks place at n within fits = locked_fits_at blocks place (at / PAGE_SIZE) n within fits (held blocks place) refl

-- where there is a block there is a width
pub held_width : (w : World) (handle : ℕ) (block : MemoryBlock) → IsSound w → block_at w.blocks handle ≡ Some block → w.width ≢ None
held_width w handle block s e none = grind arith

pub some_width : (w : World) (handle : ℕ) → IsSound w → block_at w.blocks handle ≢ None → w.width ≢ None
some_width w handle s held = grind (arith, held_width)

-- a block with a page of zeros

put_few : (b : List ℕ) (at : ℕ) (xs : List ℕ) (most : ℕ) → ((k : ℕ) → slice_index b k ≤ most) → ((k : ℕ) → slice_index xs k ≤ most) →
    (k : ℕ) → slice_index (put b at xs) k ≤ most
put_few b at [] most few small k = few k
put_few b at (x ∷ xs) most few small k = put_few (slice_set b at x) (at + 1) xs most set_few (λ i. small (suc i)) k
  where
    set_few : (i : ℕ) → slice_index (slice_set b at x) i ≤ most
    set_few i = elim (cases_eq i at) [
      | inl same ↦ elim (cases_lt at (length b)) [
        | inl inside ↦ (
            let here : slice_index (slice_set b at x) i ≡ x = ap (slice_index (slice_set b at x)) same ∙ get_or-set_same b at x 0 inside in
            let first = small 0 in omega arith)
        | inr past ↦ (let none : slice_index (slice_set b at x) i ≡ 0 =
            get_or_past (slice_set b at x) i 0 (omega (arith, length-set b at x)) in omega arith)
      ]
      | inr ne ↦ (let other = get_or-set_other b at i x 0 ne in let old = few i in omega arith)
    ]

copies_few : (n most k : ℕ) → slice_index (copies n 0) k ≤ most
copies_few n most k = grind (arith, at_copies, get_or_past, length-copies)

zeroed_sound_at : (blocks : List (Option MemoryBlock)) (budget place page : ℕ) → SoundBlocks blocks budget → place < MAX_BLOCKS →
    (o : Option MemoryBlock) → held blocks place ≡ o → SoundBlocks (slice_set blocks place (with_zero_page o page)) budget
zeroed_sound_at blocks budget place page sound within None e =
    sound_put blocks budget place None sound within (λ block f. absurd cc) (λ block f other there ne g. absurd cc)
    (let sum = sound.within in omega arith)
zeroed_sound_at blocks budget place page sound within (Some block) e =
    let was = sound.each (suc place) block e in
    let sum = sound.within in
    let x : MemoryBlock =
    record { base = block.base; bytes = put block.bytes (PAGE_SIZE * page) (copies PAGE_SIZE 0); locks = block.locks } in
    let size : length x.bytes ≡ length block.bytes = length-put block.bytes (PAGE_SIZE * page) (copies PAGE_SIZE 0) in
    let some = was.some in let pages = was.pages in let to = was.to in
    let is : IsBlock x =
    record { some = omega arith; pages = omega arith; whole = was.whole; from = was.from; to = omega arith; locks = was.locks } in
    sound_put blocks budget place (Some x) sound within
    (λ other f. subst IsBlock (same_some _ _ other refl f) is)
    (λ other f at there ne g. subst (λ (y : MemoryBlock). AreApart y there) (same_some _ _ other refl f)
    (elim (sound.apart (suc place) (suc at) block there (λ same. ne (omega arith)) e
    g) [ inl far ↦ inl (omega arith) | inr near ↦ inr near ]))
    (let count : pages_of_block (held blocks place) ≡ length block.locks = ap pages_of_block e in omega arith)

pub zeroed_sound : (blocks : List (Option MemoryBlock)) (budget place at : ℕ) → SoundBlocks blocks budget → place < MAX_BLOCKS →
    SoundBlocks (blocks_with_zero_page blocks (Block (suc place) at)) budget
zeroed_sound blocks budget place at sound within =
    zeroed_sound_at blocks budget place (at / PAGE_SIZE) sound within (held blocks place) refl

zeroed_fits_at : (blocks : List (Option MemoryBlock)) (place page : ℕ) → place < length blocks → HoldBytes blocks →
    (o : Option MemoryBlock) → held blocks place ≡ o → HoldBytes (slice_set blocks place (with_zero_page o page))
zeroed_fits_at blocks place page within fits None e = bytes_put blocks place None within fits (λ block f at. absurd cc)
zeroed_fits_at blocks place page within fits (Some was) e =
    bytes_put blocks place (with_zero_page (Some was) page) within fits (λ block f at.
    subst (λ (x : MemoryBlock). slice_index x.bytes at < 0x100) (same_some _ _ block refl f)
    (let few = put_few was.bytes (PAGE_SIZE * page) (copies PAGE_SIZE 0) 0xFF (λ k. let old = fits (suc place) was e k in omega arith)
    (copies_few PAGE_SIZE 0xFF) at in omega arith))

pub zeroed_fits : (blocks : List (Option MemoryBlock)) (place at : ℕ) → place < length blocks → HoldBytes blocks →
    HoldBytes (blocks_with_zero_page blocks (Block (suc place) at))
zeroed_fits blocks place at within fits = zeroed_fits_at blocks place (at / PAGE_SIZE) within fits (held blocks place) refl
