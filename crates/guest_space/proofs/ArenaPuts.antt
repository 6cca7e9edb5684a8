-- The three writes that put entries of DOS memory in place of others: moving the entries after, writing the new ones, and filling up with
-- zeros; they stay in the frames of the list, and leave there the bytes of the entries after them.
use Rattle.std.proofs.Common.{◌≡◌, ℕ, ◌+◌, ◌-◌, ◌*◌, ◌<◌, ◌≤◌, inl, inr, List, length, get_or, ◌∙◌, sym, arith, length-append, length-drop}
use Rattle.std.proofs.{Common.{◌⊎◌, refl, ap, zero-add, add_assoc}, lemmas.Bool.{cases_lt}, lemmas.Grind.{same_number_lists}}
use Rattle.std.proofs.lemmas.List.{length-take}
use Rattle.client_world.specs.declared.dos_memory.DosEntry.{DosEntry}
use Rattle.guest_ram.specs.{Bytes.{put, region}, Listed.{copies}}
use Rattle.guest_ram.proofs.{ListedLaws.{length-copies, at_copies}, PutLaws.{length-put, put_above, put_below, put_within, length-region}}
use Rattle.guest_ram.proofs.PutLaws.{at_region, region-put}
use Rattle.host_memory.specs.{DosList.{entry_room, list_size, entry_size, entry_count, arena_in, KeepsArena}, Layout.{arena_part}}
use Rattle.guest_space.specs.Arena.{with_replaced_entries, list_bytes, arena_bytes}
use Rattle.guest_space.proofs.ArenaLists.{length-list_bytes, length-arena_bytes, at_arena_bytes, past_arena_bytes, bytes_left, bytes_right}
use Rattle.guest_space.proofs.ArenaLists.{bytes_take, bytes_drop, arena_bytes_are, HasFrames, list_start}
use Rattle.host_memory.proofs.ListsClaim.{entries_few, length-arena_in}

pub length-spliced : (es : List DosEntry) (place old : ℕ) (new : List DosEntry) → place + old ≤ length es →
    length (with_replaced_entries es place old new) + old ≡ length es + length new
length-spliced es place old new within = grind (arith, length-append, length-drop, length-take)

-- n entries are there from `start` on
abbrev pub spliced_bytes : List ℕ → ℕ → ℕ → ℕ → ℕ → List DosEntry → List ℕ
spliced_bytes b start n place old new =
    put (put (put b (start + entry_size * (place + length new))
    (region b (start + entry_size * (place + old)) (entry_size * (n - (place + old)))))
    (start + entry_size * place) (list_bytes new))
    (start + entry_size * (n - old + length new)) (copies (entry_size * (old - length new)) 0)

-- the bytes of the entries after it, by those of the old ones and of the new ones
bytes_before : (es : List DosEntry) (place old : ℕ) (new : List DosEntry) (at : ℕ) → place + old ≤ length es → at < entry_size * place →
    get_or (arena_bytes (with_replaced_entries es place old new)) at 0 ≡ get_or (arena_bytes es) at 0
bytes_before es place old new at within small = grind (arith, at_arena_bytes, bytes_left, bytes_take, length-take)

bytes_new : (es : List DosEntry) (place old : ℕ) (new : List DosEntry) (at i : ℕ) → place + old ≤ length es → at ≡ entry_size * place + i →
    i < entry_size * length new → get_or (arena_bytes (with_replaced_entries es place old new)) at 0 ≡ get_or (list_bytes new) i 0
bytes_new es place old new at i within e small = grind (arith, at_arena_bytes, bytes_left, bytes_right, length-take)

bytes_behind : (es : List DosEntry) (place old : ℕ) (new : List DosEntry) (at i : ℕ) → place + old ≤ length es →
    entry_size * (place + length new) ≤ at → at + entry_size * old ≡ i + entry_size * length new →
    get_or (arena_bytes (with_replaced_entries es place old new)) at 0 ≡ get_or (arena_bytes es) i 0
bytes_behind es place old new at i within from e = grind (arith, at_arena_bytes, bytes_drop, bytes_right, length-take)

-- so they are the bytes that the three writes leave
pub splice_is : (es : List DosEntry) (place old : ℕ) (new : List DosEntry) → place + old ≤ length es → length es ≤ entry_room →
    length es + length new ≤ entry_room + old →
    spliced_bytes (arena_bytes es) 0 (length es) place old new ≡ arena_bytes (with_replaced_entries es place old new)
splice_is es place old new within few fits =
    let n = length es in
    let count = length new in
    let a = arena_bytes es in
    let after = arena_bytes (with_replaced_entries es place old new) in
    let size : length a ≡ list_size = length-arena_bytes es few in
    let total : length (with_replaced_entries es place old new) + old ≡ n + count = length-spliced es place old new within in
    let long : length after ≡ list_size = length-arena_bytes (with_replaced_entries es place old new) (omega arith) in
    let from = 0 + entry_size * (place + old) in
    let to = 0 + entry_size * (place + count) in
    let moved = region a from (entry_size * (n - (place + old))) in
    let size-moved : length moved ≡ entry_size * (n - (place + old)) =
    length-region a from (entry_size * (n - (place + old))) (omega arith) in
    let a1 = put a to moved in
    let size1 : length a1 ≡ list_size = length-put a to moved ∙ size in
    let bytes = list_bytes new in
    let size-new : length bytes ≡ entry_size * count = length-list_bytes new in
    let here = 0 + entry_size * place in
    let a2 = put a1 here bytes in
    let size2 : length a2 ≡ list_size = length-put a1 here bytes ∙ size1 in
    let end = 0 + entry_size * (n - old + count) in
    let none = copies (entry_size * (old - count)) 0 in
    let size-none : length none ≡ entry_size * (old - count) = length-copies (entry_size * (old - count)) 0 in
    let size3 : length (put a2 end none) ≡ list_size = length-put a2 end none ∙ size2 in
    same_number_lists (put a2 end none) after (size3 ∙ sym long) (λ at small. elim (cases_lt at (entry_size * place)) [
      | inl low ↦ grind (arith, bytes_before, put_below)
      | inr high ↦ elim (cases_lt at (entry_size * (place + count))) [
        | inl fresh ↦
            put_below a2 end none at (omega arith)
            ∙ put_within a1 here bytes (at - entry_size * place) at (omega arith) (omega arith) (omega arith)
            ∙ sym (bytes_new es place old new at (at - entry_size * place) within (omega arith) (omega arith))
        | inr above ↦ elim (cases_lt at end) [
          | inl kept ↦
              put_below a2 end none at kept ∙ put_above a1 here bytes at (omega arith)
              ∙ put_within a to moved (at - entry_size * (place + count)) at (omega arith) (omega arith) (omega arith)
              ∙ at_region a from (entry_size * (n - (place + old))) (at - entry_size * (place + count)) (omega arith)
              ∙ sym (bytes_behind es place old new at (from + (at - entry_size * (place + count))) within above (omega arith))
          | inr past ↦ elim (cases_lt at (end + entry_size * (old - count))) [
            | inl filled ↦
                put_within a2 end none (at - end) at (omega arith) (omega arith) (omega arith)
                ∙ at_copies (entry_size * (old - count)) 0 (at - end) (omega arith)
                ∙ sym (past_arena_bytes (with_replaced_entries es place old new) at (omega arith))
            | inr behind ↦ grind (arith, past_arena_bytes, put_above)
          ]
        ]
      ]
    ])

-- ---- the writes

-- a memory that differs in a part alone is the one in which that part is put
is_put : (b c xs : List ℕ) (lo n : ℕ) → length xs ≡ n → length c ≡ length b → lo + n ≤ length b → region c lo n ≡ xs →
    ((at : ℕ) → (at < lo) ⊎ (lo + n ≤ at) → get_or c at 0 ≡ get_or b at 0) → c ≡ put b lo xs
is_put b c xs lo n long size room part others = same_number_lists c (put b lo xs) (size ∙ sym (length-put b lo xs)) (λ at small.
    elim (cases_lt at lo) [
      | inl low ↦ others at (inl low) ∙ sym (put_below b lo xs at low)
      | inr high ↦ elim (cases_lt at (lo + n)) [
        | inl inside ↦
            ap (λ (k : ℕ). get_or c k 0) (let same : at ≡ lo + (at - lo) = omega arith in same)
            ∙ sym (at_region c lo n (at - lo) (omega arith))
            ∙ ap (λ (ys : List ℕ). get_or ys (at - lo) 0) part
            ∙ sym (put_within b lo xs (at - lo) at (omega arith) (omega arith) (omega arith))
        | inr past ↦ others at (inr past) ∙ sym (put_above b lo xs at (omega arith))
      ]
    ])

region-region : (b : List ℕ) (lo n at m : ℕ) → lo + n ≤ length b → at + m ≤ n → region (region b lo n) at m ≡ region b (lo + at) m
region-region b lo n at m room within = grind (arith, add_assoc, at_region, length-region, same_number_lists)

-- the three writes stay in the part of the list
record IsSplice (b c : List ℕ) (n place old : ℕ) (new : List DosEntry) : Type 0 where
  pub size : length c ≡ length b
  pub part : arena_part c ≡ spliced_bytes (arena_part b) 0 n place old new
  pub others : (at : ℕ) → (at < list_start) ⊎ (list_start + list_size ≤ at) → get_or c at 0 ≡ get_or b at 0

is_splice : (b : List ℕ) (n place old : ℕ) (new : List DosEntry) → HasFrames b → n ≤ entry_room → place + old ≤ n →
    n + length new ≤ entry_room + old → IsSplice b (spliced_bytes b list_start n place old new) n place old new
is_splice b n place old new frames few within fits =
    let count = length new in
    let from = list_start + entry_size * (place + old) in
    let moved = region b from (entry_size * (n - (place + old))) in
    let long : length moved ≡ entry_size * (n - (place + old)) = length-region b from (entry_size * (n - (place + old))) (omega arith) in
    let b1 = put b (list_start + entry_size * (place + count)) moved in
    let size1 : length b1 ≡ length b = length-put b (list_start + entry_size * (place + count)) moved in
    let bytes = list_bytes new in
    let long-new : length bytes ≡ entry_size * count = length-list_bytes new in
    let b2 = put b1 (list_start + entry_size * place) bytes in
    let size2 : length b2 ≡ length b1 = length-put b1 (list_start + entry_size * place) bytes in
    let none = copies (entry_size * (old - count)) 0 in
    let long-none : length none ≡ entry_size * (old - count) = length-copies (entry_size * (old - count)) 0 in
    let end = list_start + entry_size * (n - old + count) in
    record {
      size = length-put b2 end none ∙ size2 ∙ size1;
      part = region-put b2 end none list_start list_size (entry_size * (n - old + count)) refl (omega arith)
          ∙ ap (λ (a : List ℕ). put a (entry_size * (n - old + count)) none)
          (region-put b1 (list_start + entry_size * place) bytes list_start list_size (entry_size * place) refl (omega arith)
          ∙ ap (λ (a : List ℕ). put a (entry_size * place) bytes)
          (region-put b (list_start + entry_size * (place + count)) moved list_start list_size (entry_size * (place + count)) refl
          (omega arith)
          ∙ ap (λ (xs : List ℕ). put (arena_part b) (entry_size * (place + count)) xs)
          (sym (region-region b list_start list_size (entry_size * (place + old)) (entry_size * (n - (place + old))) (omega arith)
          (omega arith)))))
          ∙ no_start (arena_part b) (entry_size * (place + old)) (entry_size * (place + count)) (entry_size * place)
          (entry_size * (n - old + count)) (entry_size * (n - (place + old))) bytes none;
      others = grind (arith, list_start, put_above, put_below);
    }
  where
    no_start : (a : List ℕ) (from to here end n : ℕ) (bytes none : List ℕ) →
        put (put (put a to (region a from n)) here bytes) end none
        ≡ put (put (put a (0 + to) (region a (0 + from) n)) (0 + here) bytes) (0 + end) none
    no_start a from to here end n bytes none = rw (zero-add to, zero-add from, zero-add here, zero-add end) refl

-- so they put the bytes of the entries after it
pub splice_put : (b : List ℕ) (n place old : ℕ) (new : List DosEntry) → HasFrames b → KeepsArena (arena_part b) →
    n ≡ entry_count (arena_part b) → place + old ≤ n → n + length new ≤ entry_room + old → spliced_bytes b list_start n place old new
    ≡ put b list_start (arena_bytes (with_replaced_entries (arena_in (arena_part b)) place old new))
splice_put b n place old new frames keeps count within fits =
    let few = entries_few (arena_part b) 0 entry_room in
    let es = arena_in (arena_part b) in
    let long : length es ≡ n = length-arena_in (arena_part b) ∙ sym count in
    let size : length (arena_part b) ≡ list_size = length-region b list_start list_size (omega arith) in
    let total = length-spliced es place old new (omega arith) in
    let done = is_splice b n place old new frames (omega arith) within fits in
    is_put b (spliced_bytes b list_start n place old new) (arena_bytes (with_replaced_entries es place old new)) list_start list_size
    (length-arena_bytes (with_replaced_entries es place old new) (omega arith)) done.size (omega arith)
    (done.part
    ∙ ap (λ (a : List ℕ). spliced_bytes a 0 n place old new) (arena_bytes_are (arena_part b) size few keeps)
    ∙ ap (λ (k : ℕ). spliced_bytes (arena_bytes es) 0 k place old new) (sym long)
    ∙ splice_is es place old new (omega arith) (omega arith) (omega arith))
    done.others
