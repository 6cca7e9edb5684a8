-- The bytes that a list of entries of DOS memory has in its frames, and that the entries are read from them again, where they lie one after
-- another.
use Rattle.std.proofs.Common.{◌≡◌, ◌≢◌, ℕ, zero, suc, ◌+◌, ◌-◌, ◌*◌, ◌/◌, ◌%◌, ◌<◌, ◌≤◌, ◌⊎◌, inl, inr, List, [], ◌∷◌, ◌++◌, length, get_or}
use Rattle.std.proofs.{Common.{take, drop, refl, ap, ◌∙◌, sym, arith, add-zero, zero-add, add_assoc, length-append}, lemmas.Bool.{cases_lt}}
use Rattle.std.proofs.{lemmas.Bool.{eq-eqb, ne_eqb}, lemmas.Grind.{same_number_lists}, lemmas.List.{length-take, take-append-drop}}
use Rattle.std.proofs.lemmas.List.{get_or_append_left, get_or-append_right, get_or_past}
use Rattle.client_world.specs.{declared.dos_memory.DosEntry.{DosEntry}, declared.dos_memory.DosState.{DosState}}
use Rattle.client_world.specs.{declared.dos_memory.DosState.TheVariants.{Free, Used, Dpmi}, declared.host_frames.TheConstants.{PAGE_SIZE}}
use Rattle.client_world.specs.declared.host_frames.TheConstants.{BUDGET_FRAMES, DOS_LIST}
use Rattle.guest_ram.specs.Listed.{zeros}
use Rattle.guest_ram.proofs.{ListedLaws.{at_listed, is_listed, length-zeros, at_zeros}, ByteLists.{word_back}, PutLaws.{at_region}}
use Rattle.host_memory.specs.DosList.{entry_at, entry_bytes, state_of, state_code, entries_from, entry_count, entry_room, entry_size}
use Rattle.host_memory.specs.{DosList.{list_size, arena_in, KeepsArena}, Layout.{arena_part}}
use Rattle.guest_space.specs.Arena.{list_bytes, arena_bytes}
use Rattle.host_memory.proofs.ListsClaim.{length-arena_in, entries_few}

-- eight bytes that are the same are the same entry
pub same_entry : (a b : List ℕ) (p q : ℕ) → ((i : ℕ) → i < entry_size → get_or a (p + i) 0 ≡ get_or b (q + i) 0) →
    entry_at a p ≡ entry_at b q
unfolding entry_at
same_entry a b p q h = grind (arith, add-zero, add_assoc)

state_back : (state : DosState) → state_of (state_code state) ≡ state
state_back Free = refl
state_back Used = refl
state_back Dpmi = refl

-- an entry is read from its bytes
entry_back : (entry : DosEntry) → entry_at (entry_bytes entry) 0 ≡ entry
unfolding entry_at
entry_back entry = rw (word_back entry.at, word_back entry.paras, state_back entry.state) refl

-- and none has the state 0
code_some : (entry : DosEntry) → get_or (entry_bytes entry) 4 0 ≢ 0
code_some entry = grind arith

-- the bytes of entries, one after another
pub length-list_bytes : (es : List DosEntry) → length (list_bytes es) ≡ entry_size * length es
length-list_bytes [] = refl
length-list_bytes (e ∷ es) = let rest = length-list_bytes es in omega arith

first_byte : (e : DosEntry) (bytes : List ℕ) (at : ℕ) → at < entry_size → get_or (entry_bytes e ++ bytes) at 0 ≡ get_or (entry_bytes e) at 0
first_byte e bytes zero small = refl
first_byte e bytes (suc zero) small = refl
first_byte e bytes (suc (suc zero)) small = refl
first_byte e bytes (suc (suc (suc zero))) small = refl
first_byte e bytes (suc (suc (suc (suc zero)))) small = refl
first_byte e bytes (suc (suc (suc (suc (suc zero))))) small = refl
first_byte e bytes (suc (suc (suc (suc (suc (suc zero)))))) small = refl
first_byte e bytes (suc (suc (suc (suc (suc (suc (suc zero))))))) small = refl
first_byte e bytes (suc (suc (suc (suc (suc (suc (suc (suc n)))))))) small = absurd (omega arith)

at_list_bytes : (es : List DosEntry) (place at : ℕ) (d : DosEntry) → place < length es → at < entry_size →
    get_or (list_bytes es) (entry_size * place + at) 0 ≡ get_or (entry_bytes (get_or es place d)) at 0
at_list_bytes [] place at d within small = absurd (omega arith)
at_list_bytes (e ∷ es) zero at d within small =
    ap (λ (n : ℕ). get_or (entry_bytes e ++ list_bytes es) n 0) (zero-add at) ∙ first_byte e (list_bytes es) at small
at_list_bytes (e ∷ es) (suc place) at d within small =
    let behind : entry_size * suc place + at ≡ suc (suc (suc (suc (suc (suc (suc (suc (entry_size * place + at)))))))) = omega arith in
    ap (λ (n : ℕ). get_or (entry_bytes e ++ list_bytes es) n 0) behind ∙ at_list_bytes es place at d (omega arith) small

-- those of two lists together
list_bytes-append : (xs ys : List DosEntry) → list_bytes (xs ++ ys) ≡ list_bytes xs ++ list_bytes ys
list_bytes-append [] ys = refl
list_bytes-append (x ∷ xs) ys = ap (λ (bytes : List ℕ). entry_bytes x ++ bytes) (list_bytes-append xs ys)

pub bytes_left : (xs ys : List DosEntry) (at : ℕ) → at < entry_size * length xs →
    get_or (list_bytes (xs ++ ys)) at 0 ≡ get_or (list_bytes xs) at 0
bytes_left xs ys at small = grind (arith, get_or_append_left, length-list_bytes, list_bytes-append)

pub bytes_right : (xs ys : List DosEntry) (at : ℕ) → entry_size * length xs ≤ at →
    get_or (list_bytes (xs ++ ys)) at 0 ≡ get_or (list_bytes ys) (at - entry_size * length xs) 0
bytes_right xs ys at from = grind (arith, get_or-append_right, length-list_bytes, list_bytes-append)

-- those of a list's first part, and of what follows it
pub bytes_take : (es : List DosEntry) (n at : ℕ) → n ≤ length es → at < entry_size * n →
    get_or (list_bytes (take n es)) at 0 ≡ get_or (list_bytes es) at 0
bytes_take es n at few small =
    sym (bytes_left (take n es) (drop n es) at (omega (arith, length-take n es)))
    ∙ ap (λ (xs : List DosEntry). get_or (list_bytes xs) at 0) (take-append-drop n es)

pub bytes_drop : (es : List DosEntry) (n at : ℕ) → n ≤ length es →
    get_or (list_bytes (drop n es)) at 0 ≡ get_or (list_bytes es) (entry_size * n + at) 0
bytes_drop es n at few =
    let long : length (take n es) ≡ n = omega (arith, length-take n es) in
    ap (λ (k : ℕ). get_or (list_bytes (drop n es)) k 0) (let same : at ≡ entry_size * n + at - entry_size * length (take n es) =
    omega arith in same)
    ∙ sym (bytes_right (take n es) (drop n es) (entry_size * n + at) (omega arith))
    ∙ ap (λ (xs : List DosEntry). get_or (list_bytes xs) (entry_size * n + at) 0) (take-append-drop n es)

-- the bytes of the frames: those of the entries, and zeros
pub length-arena_bytes : (es : List DosEntry) → length es ≤ entry_room → length (arena_bytes es) ≡ list_size
unfolding arena_bytes
length-arena_bytes es few = grind (arith, length-append, length-list_bytes, length-zeros)

past_zeros : (n at : ℕ) → get_or (zeros n) at 0 ≡ 0
past_zeros n at = grind (arith, at_zeros, cases_lt, get_or_past, length-zeros)

pub at_arena_bytes : (es : List DosEntry) (at : ℕ) → get_or (arena_bytes es) at 0 ≡ get_or (list_bytes es) at 0
unfolding arena_bytes
at_arena_bytes es at = grind (arith, cases_lt, get_or-append_right, get_or_append_left, get_or_past, past_zeros)

pub past_arena_bytes : (es : List DosEntry) (at : ℕ) → entry_size * length es ≤ at → get_or (arena_bytes es) at 0 ≡ 0
past_arena_bytes es at past = at_arena_bytes es at ∙ get_or_past (list_bytes es) at 0 (omega (arith, length-list_bytes es))

byte_of_entry : (es : List DosEntry) (place at : ℕ) (d : DosEntry) → place < length es → at < entry_size →
    get_or (arena_bytes es) (entry_size * place + at) 0 ≡ get_or (entry_bytes (get_or es place d)) at 0
byte_of_entry es place at d within small = at_arena_bytes es (entry_size * place + at) ∙ at_list_bytes es place at d within small

entry_read : (es : List DosEntry) (place : ℕ) (d : DosEntry) → place < length es →
    entry_at (arena_bytes es) (entry_size * place) ≡ get_or es place d
entry_read es place d within =
    same_entry (arena_bytes es) (entry_bytes (get_or es place d)) (entry_size * place) 0
    (λ i small. byte_of_entry es place i d within small ∙ ap (λ (k : ℕ). get_or (entry_bytes (get_or es place d)) k 0) (sym (zero-add i)))
    ∙ entry_back (get_or es place d)

-- where n states aren't 0, and the next one is or the room ends, there are n entries
pub entries_are : (part : List ℕ) (place room n : ℕ) → n ≤ room → ((j : ℕ) → j < n → get_or part (entry_size * (place + j) + 4) 0 ≢ 0) →
    (room ≡ n) ⊎ (get_or part (entry_size * (place + n) + 4) 0 ≡ 0) → entries_from part place room ≡ n
unfolding entries_from
entries_are part place zero n few some ends = omega arith
entries_are part place (suc room) zero few some ends = grind (arith, add-zero, eq-eqb)
entries_are part place (suc room) (suc n) few some ends =
    let here : get_or part (entry_size * place + 4) 0 ≢ 0 =
    λ e. some 0 (omega arith) (ap (λ (j : ℕ). get_or part (entry_size * j + 4) 0) (add-zero place) ∙ e) in
    let next : (j : ℕ) → place + 1 + j ≡ place + suc j = λ j. omega arith in
    let rest = entries_are part (place + 1) room n (omega arith)
    (λ j small e. some (suc j) (omega arith) (ap (λ (x : ℕ). get_or part (entry_size * x + 4) 0) (sym (next j)) ∙ e))
    (grind arith) in
    rw (ne_eqb (get_or part (entry_size * place + 4) 0) 0 here) (omega (arith, rest))

count_back : (es : List DosEntry) → length es ≤ entry_room → entry_count (arena_bytes es) ≡ length es
count_back es few = entries_are (arena_bytes es) 0 entry_room (length es) few
    (λ j small e. (let d = entry_at (arena_bytes es) 0 in
    code_some (get_or es j d) (sym (byte_of_entry es j 4 d small (omega arith))
    ∙ ap (λ (x : ℕ). get_or (arena_bytes es) (entry_size * x + 4) 0) (sym (zero-add j)) ∙ e)))
    (inr (past_arena_bytes es (entry_size * (0 + length es) + 4) (omega arith)))

-- the entries are read from these bytes, which are exactly theirs
pub arena_back : (es : List DosEntry) → length es ≤ entry_room → arena_in (arena_bytes es) ≡ es
unfolding arena_in
arena_back es few = grind (arith, count_back, entry_read, is_listed)

pub arena_keeps : (es : List DosEntry) → length es ≤ entry_room → KeepsArena (arena_bytes es)
arena_keeps es few =
    let count = count_back es few in
    record {
      each = λ place at within small. (let d = entry_at (arena_bytes es) 0 in
          byte_of_entry es place at d (omega arith) small
          ∙ ap (λ (x : DosEntry). get_or (entry_bytes x) at 0) (sym (entry_read es place d (omega arith))));
      rest = λ at from to. past_arena_bytes es at (omega arith);
    }

pub at_arena_in : (part : List ℕ) (place : ℕ) (d : DosEntry) → place < entry_count part →
    get_or (arena_in part) place d ≡ entry_at part (entry_size * place)
unfolding arena_in
at_arena_in part place d small = at_listed (entry_count part) (λ n. entry_at part (entry_size * n)) place d small

-- bytes that are exactly those of their entries are these
pub arena_bytes_are : (part : List ℕ) → length part ≡ list_size → entry_count part ≤ entry_room → KeepsArena part →
    part ≡ arena_bytes (arena_in part)
arena_bytes_are part size few keeps = same_number_lists part (arena_bytes (arena_in part)) (size ∙ sym long) each
  where
    count : length (arena_in part) ≡ entry_count part
    count = length-arena_in part

    long : length (arena_bytes (arena_in part)) ≡ list_size
    long = length-arena_bytes (arena_in part) (omega (arith, count))

    each : (at : ℕ) → at < length part → get_or part at 0 ≡ get_or (arena_bytes (arena_in part)) at 0
    each at within = elim (cases_lt at (entry_size * entry_count part)) [
      | inl inside ↦ (let d = entry_at part 0 in
          let split : at ≡ entry_size * (at / 8) + at % 8 = omega arith in
          ap (λ (k : ℕ). get_or part k 0) split
          ∙ keeps.each (at / 8) (at % 8) (omega (arith, count)) (omega (arith, count))
          ∙ ap (λ (x : DosEntry). get_or (entry_bytes x) (at % 8) 0) (sym (at_arena_in part (at / 8) d (omega (arith, count))))
          ∙ sym (byte_of_entry (arena_in part) (at / 8) (at % 8) d (omega (arith, count)) (omega (arith, count)))
          ∙ ap (λ (k : ℕ). get_or (arena_bytes (arena_in part)) k 0) (sym split))
      | inr past ↦ keeps.rest at past (omega (arith, count)) ∙ sym (past_arena_bytes (arena_in part) at (omega (arith, count)))
    ]

-- the memory has the host's frames
abbrev pub HasFrames : List ℕ → Type 0
HasFrames b = PAGE_SIZE * BUDGET_FRAMES ≤ length b

-- where the list is
abbrev pub list_start : ℕ
list_start = PAGE_SIZE * DOS_LIST

pub few_entries : (part : List ℕ) → entry_count part ≤ entry_room
few_entries part = entries_few part 0 entry_room

entry_here : (c : List ℕ) (place : ℕ) → place < entry_room →
    entry_at c (list_start + entry_size * place) ≡ entry_at (arena_part c) (entry_size * place)
entry_here c place small = grind (arith, add_assoc, at_region, same_entry)

-- an entry is read where the list is as it was
pub entry_there : (b c : List ℕ) (place : ℕ) (d : DosEntry) → arena_part c ≡ arena_part b → place < entry_count (arena_part b) →
    entry_at c (list_start + entry_size * place) ≡ get_or (arena_in (arena_part b)) place d
entry_there b c place d same small = grind (arith, at_arena_in, entry_here, few_entries)

-- where n states aren't 0, and the next one is or the room ends, there are n entries
pub counted : (b : List ℕ) (n : ℕ) → n ≤ entry_room → ((k : ℕ) → k < n → get_or b (list_start + entry_size * k + 4) 0 ≢ 0) →
    (entry_room ≡ n) ⊎ (get_or b (list_start + entry_size * n + 4) 0 ≡ 0) → entry_count (arena_part b) ≡ n
counted b n few some ends = grind (arith, byte, cases_lt, entries_are)
  where
    byte : (k : ℕ) → k < entry_room → get_or (arena_part b) (entry_size * (0 + k) + 4) 0 ≡ get_or b (list_start + entry_size * k + 4) 0
    byte k small = grind (arith, at_region)
