-- Words that were put on a real stack are read there again: different offsets of a segment lie at different bytes of the megabyte; one word
-- more of a stack; and a word can be written exactly where a push of real mode could write it.
use Rattle.std.proofs.Common.{◌≡◌, ◌≢◌, ℕ, ◌+◌, ◌*◌, ◌%◌, ◌<◌, Bool, true, false, ◌&&◌, not, List, [], ◌∷◌, ◌++◌, length, slice_index}
use Rattle.std.proofs.Common.{slice_set, refl, ap, ◌∙◌, arith, get_or-set_same, get_or-set_other, length-set, zero, suc, ◌-◌, ◌≤◌, drop}
use Rattle.std.proofs.{Common.{get_or, append_assoc, drop-cons, add-one, Option}, lemmas.Bool.Decides.{nat_tests}, lemmas.Bool.{and_parts}}
use Rattle.std.proofs.lemmas.Bool.{le-leb}
use Rattle.std.specs.{Prelude.{nat_eq, nat_lt, if◌then◌else◌, is_ok, is_none, nat_le}, Int.{w16, from_le_bytes}}
use Rattle.client_world.specs.{declared.limits.TheConstants.{GREATEST_DEPTH}, declared.memory_map.TheConstants.{DOS_SIZE}}
use Rattle.client_world.specs.declared.memory_map.TheConstants.{REAL_STACK_SEGMENT, REAL_STACK_SIZE, ROM_START, SEGMENT_SIZE}
use Rattle.client_world.specs.{declared.memory_map.TheConstants.{PARAGRAPH_SIZE}, Access.{real_address, access, linear, may_touch}}
use Rattle.client_world.specs.{Access.{place_in, places_from, segment_base, touched_places}, World.{World, MemoryBlock}}
use Rattle.client_world.specs.{declared.place.Place.{Place}, declared.place.Place.TheVariants.{Dos}}
use Rattle.client_world.specs.{declared.registers.Mode.TheVariants.{Real}, declared.segments.SegReg.TheVariants.{Ss}}
use Rattle.guest_space.specs.{Dos.{with_dos_byte}, Transfer.{access_fault, fault_of}}
use Rattle.translation.specs.RealStack.{are_writable_words, is_writable_word, next_word, stack_word, stack_words, with_word_at}
use Rattle.translation.specs.{RealStack.{with_words_at}, SimulatedCall.{are_readable_words, client_word, client_words, word_read}}
use Rattle.guest_ram.specs.Bytes.{word_of}
use Rattle.client_world.proofs.PlaceLaws.{place-dos}

pub addresses_apart : (segment a b : ℕ) → a % SEGMENT_SIZE ≢ b % SEGMENT_SIZE → real_address segment a ≢ real_address segment b
addresses_apart segment a b other = λ e. other (omega (arith, e))

-- a byte of the megabyte
set_low : (low : Bool) (dos : List ℕ) (at x other : ℕ) → other ≢ at →
    slice_index (if low then slice_set dos at x else dos) other ≡ slice_index dos other
set_low true dos at x other apart = get_or-set_other dos at other x 0 apart
set_low false dos at x other apart = refl

other_byte : (dos : List ℕ) (at x other : ℕ) → other ≢ at → slice_index (with_dos_byte dos at x) other ≡ slice_index dos other
other_byte dos at x other apart = set_low (nat_lt at ROM_START) dos at x other apart

same_low : (low : Bool) (dos : List ℕ) (at x : ℕ) → low ≡ true → at < length dos →
    slice_index (if low then slice_set dos at x else dos) at ≡ x
same_low true dos at x e inside = get_or-set_same dos at x 0 inside
same_low false dos at x e inside = absurd cc

same_byte : (dos : List ℕ) (at x : ℕ) → nat_lt at ROM_START ≡ true → at < length dos → slice_index (with_dos_byte dos at x) at ≡ x
same_byte dos at x low inside = same_low (nat_lt at ROM_START) dos at x low inside

set_size : (low : Bool) (dos : List ℕ) (at x : ℕ) → length (if low then slice_set dos at x else dos) ≡ length dos
set_size true dos at x = length-set dos at x
set_size false dos at x = refl

word_size : (dos : List ℕ) (segment offset v : ℕ) → length (with_word_at dos segment offset v) ≡ length dos
unfolding with_word_at
word_size dos segment offset v = grind (arith, set_size)

-- a word that is put elsewhere changes no byte
word_kept : (dos : List ℕ) (segment offset v k : ℕ) → offset % SEGMENT_SIZE ≢ k % SEGMENT_SIZE →
    (offset + 1) % SEGMENT_SIZE ≢ k % SEGMENT_SIZE →
    slice_index (with_word_at dos segment offset v) (real_address segment k) ≡ slice_index dos (real_address segment k)
unfolding with_word_at
word_kept dos segment offset v k first second = grind (arith, addresses_apart, other_byte)

pub words_kept : (dos : List ℕ) (segment offset : ℕ) (vs : List ℕ) (k : ℕ) →
    ((i : ℕ) → i < 2 * length vs → (offset + i) % SEGMENT_SIZE ≢ k % SEGMENT_SIZE) →
    slice_index (with_words_at dos segment offset vs) (real_address segment k) ≡ slice_index dos (real_address segment k)
words_kept dos segment offset [] k apart = refl
words_kept dos segment offset (v ∷ vs) k apart =
    let zero_is : offset + 0 ≡ offset = omega arith in
    words_kept (with_word_at dos segment offset v) segment (next_word offset) vs k
    (λ i inside e. (let same : (offset + (2 + i)) % SEGMENT_SIZE ≡ k % SEGMENT_SIZE = omega (arith, e) in apart (2 + i) (omega arith) same))
    ∙ word_kept dos segment offset v k (λ e. apart 0 (omega arith) (ap (λ (n : ℕ). n % SEGMENT_SIZE) zero_is ∙ e)) (apart 1 (omega arith))

-- where a word can be written
pub record CanPut (segment offset : ℕ) : Type 0 where
  pub inside : offset ≢ 0xFFFF
  pub low : nat_lt (real_address segment offset) ROM_START ≡ true
  pub high : nat_lt (real_address segment (offset + 1)) ROM_START ≡ true

three : (a b c : Bool) → (a && b && c) ≡ true → (a ≡ true) × (b ≡ true) × (c ≡ true)
three true true c e = (refl, refl, e)
three true false c e = absurd cc
three false b c e = absurd cc

not_last : (offset : ℕ) → not (nat_eq offset 0xFFFF) ≡ true → offset ≢ 0xFFFF
not_last offset e = grind (arith, nat_tests)

can_put : (segment offset : ℕ) → is_writable_word segment offset ≡ true → CanPut segment offset
unfolding is_writable_word
can_put segment offset e = grind (arith, not_last, three)

address_inside : (segment offset : ℕ) → real_address segment offset < DOS_SIZE
address_inside segment offset = omega arith

-- a word that was put is read
word_back : (dos : List ℕ) (segment offset v : ℕ) → length dos ≡ DOS_SIZE → CanPut segment offset → v < 0x10000 →
    stack_word (with_word_at dos segment offset v) segment offset ≡ v
unfolding with_word_at
word_back dos segment offset v size can small = grind (arith, address_inside, addresses_apart, other_byte, same_byte, set_size)

-- the words of a list
abbrev pub AreWords : List ℕ → Type 0
AreWords [] = Unit {0}
AreWords (v ∷ vs) = (v < 0x10000) × AreWords vs

pub join_words : (xs ys : List ℕ) → AreWords xs → AreWords ys → AreWords (xs ++ ys)
join_words [] ys one other = other
join_words (x ∷ xs) ys one other = (one.0, join_words xs ys one.1 other)

pub words_back : (dos : List ℕ) (segment offset : ℕ) (vs : List ℕ) → length dos ≡ DOS_SIZE → length vs < 0x8000 →
    are_writable_words segment offset (length vs) ≡ true → AreWords vs →
    stack_words (with_words_at dos segment offset vs) segment offset (length vs) ≡ vs
words_back dos segment offset [] size few can small = refl
words_back dos segment offset (v ∷ vs) size few can small =
    let puts = and_parts (is_writable_word segment offset) (are_writable_words segment (next_word offset) (length vs)) can in
    let first = with_word_at dos segment offset v in
    let all = with_words_at first segment (next_word offset) vs in
    let low : slice_index all (real_address segment offset) ≡ slice_index first (real_address segment offset) =
    words_kept first segment (next_word offset) vs offset (λ i inside e. absurd (omega (arith, e))) in
    let high : slice_index all (real_address segment (offset + 1)) ≡ slice_index first (real_address segment (offset + 1)) =
    words_kept first segment (next_word offset) vs (offset + 1) (λ i inside e. absurd (omega (arith, e))) in
    let here : stack_word all segment offset ≡ v =
    ap (λ (x : ℕ). x + 0x100 * slice_index all (real_address segment (offset + 1))) low
    ∙ ap (λ (x : ℕ). slice_index first (real_address segment offset) + 0x100 * x) high
    ∙ word_back dos segment offset v size (can_put segment offset puts.0) small.0 in
    ap (λ (x : ℕ). x ∷ stack_words all segment (next_word offset) (length vs)) here
    ∙ ap (λ (xs : List ℕ). v ∷ xs)
    (words_back first segment (next_word offset) vs (word_size dos segment offset v ∙ size) (omega arith) puts.1 small.1)

-- the host's stacks can be written
pub low_word : (offset : ℕ) → offset < GREATEST_DEPTH * REAL_STACK_SIZE → is_writable_word REAL_STACK_SEGMENT offset ≡ true
unfolding is_writable_word
low_word offset small = grind (arith, nat_tests)

one_less : (k n : ℕ) → k < n → n - k ≡ suc (n - (k + 1))
one_less k n h = omega arith

pub writable_step : (segment offset k n : ℕ) → k < n → are_writable_words segment offset (n - k)
    ≡ (is_writable_word segment offset && are_writable_words segment (next_word offset) (n - (k + 1)))
writable_step segment offset k n h = ap (are_writable_words segment offset) (one_less k n h)

pub writable_end : (segment offset k n : ℕ) → n ≤ k → are_writable_words segment offset (n - k) ≡ true
writable_end segment offset k n h = let e : n - k ≡ zero = omega arith in ap (are_writable_words segment offset) e

pub put_step : (dos : List ℕ) (segment offset i : ℕ) (xs : List ℕ) → i < length xs → with_words_at dos segment offset (drop i xs)
    ≡ with_words_at (with_word_at dos segment offset (get_or xs i 0)) segment (next_word offset) (drop (i + 1) xs)
put_step dos segment offset i xs h = grind (arith, add-one, drop-cons)

pub readable_step : (w : World) (k n : ℕ) → k < n →
    are_readable_words w k (n - k) ≡ (is_ok (client_word w k) && are_readable_words w (k + 1) (n - (k + 1)))
readable_step w k n h = ap (are_readable_words w k) (one_less k n h)

pub readable_end : (w : World) (k n : ℕ) → n ≤ k → are_readable_words w k (n - k) ≡ true
readable_end w k n h = let e : n - k ≡ zero = omega arith in ap (are_readable_words w k) e

pub words_step : (w : World) (k n : ℕ) → k < n →
    client_words w k (n - k) ≡ word_read (client_word w k) ∷ client_words w (k + 1) (n - (k + 1))
words_step w k n h = ap (client_words w k) (one_less k n h)

pub words_end : (w : World) (k n : ℕ) → n ≤ k → client_words w k (n - k) ≡ []
words_end w k n h = let e : n - k ≡ zero = omega arith in ap (client_words w k) e

pub word_of_two : (bytes : List ℕ) → length bytes ≡ 2 → word_of bytes 0 ≡ from_le_bytes w16 bytes
word_of_two [] e = absurd (omega (arith, e))
word_of_two (a ∷ []) e = absurd (omega (arith, e))
word_of_two (a ∷ b ∷ []) e = omega arith
word_of_two (a ∷ b ∷ c ∷ bytes) e = absurd (omega (arith, e))

-- one word more that is read
pub readable_more : (w : World) (k n : ℕ) (all : Bool) → k < n → is_ok (client_word w k) ≡ true → all ≡ are_readable_words w k (n - k) →
    all ≡ are_readable_words w (k + 1) (n - (k + 1))
readable_more w k n all h ok e = e ∙ readable_step w k n h ∙ ap (λ (b : Bool). b && are_readable_words w (k + 1) (n - (k + 1))) ok

pub words_more : (w : World) (k n word : ℕ) (before after all : List ℕ) → k < n → word_read (client_word w k) ≡ word →
    after ≡ before ++ word ∷ [] → before ++ client_words w k (n - k) ≡ all → after ++ client_words w (k + 1) (n - (k + 1)) ≡ all
words_more w k n word before after all h is pushed e = grind (arith, append_assoc, words_step)

-- ---- the rules of real mode

-- two places, asked one after the other
two_places : (p q : Place) → is_none (fault_of (touched_places (p ∷ q ∷ []) true)) ≡ (may_touch p true && may_touch q true)
two_places p q = grind arith

two_from : (blocks : List (Option MemoryBlock)) (at : ℕ) →
    places_from blocks at 2 ≡ place_in blocks (linear at) ∷ place_in blocks (linear (at + 1)) ∷ []
unfolding places_from
two_from blocks at = refl

-- the place of a byte of a real segment
real_place : (blocks : List (Option MemoryBlock)) (segment offset : ℕ) → segment < 0x10000 → offset < SEGMENT_SIZE →
    place_in blocks (linear (segment * PARAGRAPH_SIZE + offset)) ≡ Dos (real_address segment offset)
real_place blocks segment offset small within = grind (arith, place-dos)

word_places : (blocks : List (Option MemoryBlock)) (segment offset : ℕ) → segment < 0x10000 → offset + 1 < SEGMENT_SIZE →
    places_from blocks (segment * PARAGRAPH_SIZE + offset) 2 ≡ Dos (real_address segment offset) ∷
    Dos (real_address segment (offset + 1)) ∷ []
word_places blocks segment offset small within =
    let next : segment * PARAGRAPH_SIZE + offset + 1 ≡ segment * PARAGRAPH_SIZE + (offset + 1) = omega arith in
    two_from blocks (segment * PARAGRAPH_SIZE + offset)
    ∙ ap (λ (p : Place). p ∷ place_in blocks (linear (segment * PARAGRAPH_SIZE + offset + 1)) ∷ [])
    (real_place blocks segment offset small (omega arith))
    ∙ ap (λ (a : ℕ). Dos (real_address segment offset) ∷ place_in blocks (linear a) ∷ []) next
    ∙ ap (λ (p : Place). Dos (real_address segment offset) ∷ p ∷ []) (real_place blocks segment (offset + 1) small within)

before_last : (offset : ℕ) → offset + 1 < SEGMENT_SIZE → not (nat_eq offset 0xFFFF) ≡ true
before_last offset within = grind (arith, nat_tests)

last : (offset : ℕ) → offset < SEGMENT_SIZE → SEGMENT_SIZE ≤ offset + 1 → not (nat_eq offset 0xFFFF) ≡ false
last offset small past = grind (arith, nat_tests)

too_far : (offset : ℕ) → SEGMENT_SIZE ≤ offset + 1 → nat_le (offset + 2) SEGMENT_SIZE ≡ false
too_far offset past = grind (arith, nat_tests)

pub writable_by_rules : (w : World) (offset : ℕ) → w.mode ≡ Real → w.regs.ss < 0x10000 → offset < SEGMENT_SIZE →
    is_writable_word w.regs.ss offset ≡ is_none (access_fault w Ss offset 2 true)
unfolding is_writable_word access_fault access segment_base
writable_by_rules w offset real small within = grind (arith, last, le-leb, before_last, too_far, two_places, word_places)
