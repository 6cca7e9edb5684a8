-- How many frames are taken, how many pages the blocks have together, and how many of them are locked, counted row by row.
use Rattle.std.proofs.Common.{◌≡◌, ◌≢◌, ℕ, zero, suc, ◌+◌, ◌<◌, ◌≤◌, inl, inr, List, [], ◌∷◌, length, get_or, refl, ◌∙◌, arith, Option, ◌-◌}
use Rattle.std.proofs.{Common.{◌++◌, ap, add-one}, lemmas.Bool.{cases_eq, ne_eqb, eq-eqb}, lemmas.Grind.{same_number_lists}}
use Rattle.std.specs.{Prelude.{map, nat_eq, if◌then◌else◌}, List.{range_with_len}}
use Rattle.client_world.specs.{declared.limits.TheConstants.{MAX_BLOCKS}, Soundness.{pages_of_block, pages_of_blocks}, World.{MemoryBlock}}
use Rattle.guest_ram.specs.{Count.{used, total}, Listed.{listed}}
use Rattle.host_memory.specs.{Holds.{all_pages}, Layout.{pages_of, block_in, blocks_in, first_page_of, lock_of}}
use Rattle.host_memory.proofs.BlockRows.{row_there, row_free, length-held_locks}
use Rattle.guest_ram.proofs.ListedLaws.{listed_next, length-listed}
use Rattle.block_memory.specs.BlockSizes.{locks_of_block, locked_pages, locked_run, locked_of, all_locked}
use Rattle.block_memory.proofs.BlockMore.{locks_are}

-- where the first n bytes aren't 0, n are used
pub used_front : (xs : List ℕ) (n : ℕ) → n ≤ length xs → ((k : ℕ) → k < n → get_or xs k 0 ≢ 0) → n ≤ used xs
used_front xs zero room h = omega arith
used_front [] (suc n) room h = absurd (omega arith)
used_front (x ∷ xs) (suc n) room h =
    let first : x ≢ 0 = h 0 (omega arith) in
    let others = used_front xs n (omega arith) (λ k l. h (suc k) (omega arith)) in
    rw (ne_eqb x 0 first) (omega arith)

-- one byte more is used
pub used_more : (xs ys : List ℕ) (i : ℕ) → length xs ≡ length ys → i < length xs → get_or xs i 0 ≡ 0 → get_or ys i 0 ≢ 0 →
    ((k : ℕ) → k ≢ i → get_or ys k 0 ≡ get_or xs k 0) → used ys ≡ used xs + 1
used_more [] ys i size within none some others = absurd (omega arith)
used_more (x ∷ xs) [] i size within none some others = absurd (omega arith)
used_more (x ∷ xs) (y ∷ ys) zero size within none some others =
    let first : x ≡ 0 = none in
    let second : y ≢ 0 = some in
    let rest : ys ≡ xs = same_number_lists ys xs (omega arith) (λ k l. others (suc k) (omega arith)) in
    rw (first, ne_eqb y 0 second, rest) (omega arith)
used_more (x ∷ xs) (y ∷ ys) (suc i) size within none some others =
    let first : y ≡ x = others 0 (omega arith) in
    let rest = used_more xs ys i (omega arith) (omega arith) none some (λ k ne. others (suc k) (omega arith)) in
    rw (first, rest) (omega arith)

-- sums over a run of places
same_totals : (f g : ℕ → ℕ) (from n : ℕ) → ((k : ℕ) → from ≤ k → k < from + n → g k ≡ f k) →
    total g (range_with_len from n) ≡ total f (range_with_len from n)
same_totals f g from zero h = refl
same_totals f g from (suc n) h =
    let first = h from (omega arith) (omega arith) in
    let others = same_totals f g (from + 1) n (λ k low high. h k (omega arith) (omega arith)) in
    omega arith

one_more_total : (f g : ℕ → ℕ) (from n i : ℕ) → from ≤ i → i < from + n → g i ≡ f i + 1 →
    ((k : ℕ) → from ≤ k → k < from + n → k ≢ i → g k ≡ f k) → total g (range_with_len from n) ≡ total f (range_with_len from n) + 1
one_more_total f g from zero i low high here others = absurd (omega arith)
one_more_total f g from (suc n) i low high here others = elim (cases_eq from i) [
  | inl same ↦ (grind (arith, same_totals))
  | inr ne ↦ (
      let first = others from (omega arith) (omega arith) ne in
      let rest = one_more_total f g (from + 1) n i (omega arith) (omega arith) here
      (λ k above below other. others k (omega arith) (omega arith) other) in
      omega arith)
]

pub one_page_more : (handles more : List ℕ) (place : ℕ) → place < MAX_BLOCKS → pages_of more place ≡ pages_of handles place + 1 →
    ((other : ℕ) → other < MAX_BLOCKS → other ≢ place → pages_of more other ≡ pages_of handles other) →
    all_pages more ≡ all_pages handles + 1
unfolding all_pages
one_page_more handles more place within here others =
    one_more_total (pages_of handles) (pages_of more) 0 MAX_BLOCKS place (omega arith) (omega arith) here
    (λ k low high ne. others k (omega arith) ne)

pub same_pages : (handles other : List ℕ) → ((place : ℕ) → place < MAX_BLOCKS → pages_of other place ≡ pages_of handles place) →
    all_pages other ≡ all_pages handles
unfolding all_pages
same_pages handles other same = same_totals (pages_of handles) (pages_of other) 0 MAX_BLOCKS (λ k low high. same k (omega arith))

-- the pages of the rows are those of the blocks
pages_of_map : (f : ℕ → Option MemoryBlock) (xs : List ℕ) → pages_of_blocks (map f xs) ≡ total (λ k. pages_of_block (f k)) xs
pages_of_map f [] = refl
pages_of_map f (x ∷ xs) = let rest = pages_of_map f xs in omega arith

pages_of_listed : (n : ℕ) (f : ℕ → Option MemoryBlock) →
    pages_of_blocks (listed n f) ≡ total (λ k. pages_of_block (f k)) (range_with_len 0 n)
unfolding listed
pages_of_listed n f = pages_of_map f (range_with_len 0 n)

pub pages_of_row : (handles tables locks frames : List ℕ) (place : ℕ) →
    pages_of_block (block_in handles tables locks frames place) ≡ pages_of handles place
pages_of_row handles tables locks frames place = grind (arith, length-held_locks, row_free, row_there)

pub all_pages_are : (handles tables locks frames : List ℕ) → pages_of_blocks (blocks_in handles tables locks frames) ≡ all_pages handles
unfolding all_pages
all_pages_are handles tables locks frames =
    pages_of_listed MAX_BLOCKS (block_in handles tables locks frames)
    ∙ same_totals (pages_of handles) (λ k. pages_of_block (block_in handles tables locks frames k)) 0 MAX_BLOCKS
    (λ k low high. pages_of_row handles tables locks frames k)

-- sums over the first places
next_total : (f : ℕ → ℕ) (from n : ℕ) → total f (range_with_len from (suc n)) ≡ total f (range_with_len from n) + f (from + n)
next_total f from zero = ap (λ (k : ℕ). f k + 0) (let e : from ≡ from + 0 = omega arith in e)
    ∙ (let e : f (from + 0) + 0 ≡ 0 + f (from + 0) = omega arith in e)
next_total f from (suc n) =
    let rest = next_total f (from + 1) n in
    let same : from + 1 + n ≡ from + suc n = omega arith in
    let last : f (from + 1 + n) ≡ f (from + suc n) = ap f same in
    omega arith

pub sum_next : (f : ℕ → ℕ) (n : ℕ) → total f (range_with_len 0 (n + 1)) ≡ total f (range_with_len 0 n) + f n
sum_next f n =
    ap (λ (k : ℕ). total f (range_with_len 0 k)) (add-one n) ∙ next_total f 0 n
    ∙ ap (λ (k : ℕ). total f (range_with_len 0 n) + f k) (let e : 0 + n ≡ n = omega arith in e)

pub sum_front : (f : ℕ → ℕ) (n more : ℕ) → total f (range_with_len 0 n) ≤ total f (range_with_len 0 (n + more))
sum_front f n zero = let e : total f (range_with_len 0 n) ≡ total f (range_with_len 0 (n + 0)) =
    ap (λ (k : ℕ). total f (range_with_len 0 k)) (let s : n ≡ n + 0 = omega arith in s) in omega arith
sum_front f n (suc more) =
    let rest = sum_front f n more in
    let next = sum_next f (n + more) in
    let e : total f (range_with_len 0 (n + more + 1)) ≡ total f (range_with_len 0 (n + suc more)) =
    ap (λ (k : ℕ). total f (range_with_len 0 k)) (let s : n + more + 1 ≡ n + suc more = omega arith in s) in
    omega arith

pub sum_part : (f : ℕ → ℕ) (n all : ℕ) → n < all → total f (range_with_len 0 n) + f n ≤ total f (range_with_len 0 all)
sum_part f n all less =
    let front = sum_front f (n + 1) (all - (n + 1)) in
    let next = sum_next f n in
    let e : total f (range_with_len 0 (n + 1 + (all - (n + 1)))) ≡ total f (range_with_len 0 all) =
    ap (λ (k : ℕ). total f (range_with_len 0 k)) (let s : n + 1 + (all - (n + 1)) ≡ all = omega arith in s) in
    omega arith

pub all_pages_is : (handles : List ℕ) → total (pages_of handles) (range_with_len 0 MAX_BLOCKS) ≡ all_pages handles
unfolding all_pages
all_pages_is handles = refl

-- one more number in a list
used_behind : (xs : List ℕ) (x : ℕ) → used (xs ++ x ∷ []) ≡ used xs + (if nat_eq x 0 then 0 else 1)
used_behind [] x = omega arith
used_behind (y ∷ xs) x = let rest = used_behind xs x in omega arith

pub run_next : (locks : List ℕ) (first n : ℕ) →
    locked_run locks first (n + 1) ≡ locked_run locks first n + (if nat_eq (lock_of locks (first + n)) 0 then 0 else 1)
unfolding locked_run
run_next locks first n =
    ap used (listed_next n (λ page. lock_of locks (first + page)))
    ∙ used_behind (listed n (λ page. lock_of locks (first + page))) (lock_of locks (first + n))

pub run_none : (locks : List ℕ) (first : ℕ) → locked_run locks first 0 ≡ 0
unfolding locked_run listed
run_none locks first = refl

-- the locked pages of the blocks are those of the rows
locked_of_map : (f : ℕ → Option MemoryBlock) (xs : List ℕ) → locked_pages (map f xs) ≡ total (λ k. used (locks_of_block (f k))) xs
locked_of_map f [] = refl
locked_of_map f (x ∷ xs) = let rest = locked_of_map f xs in omega arith

locked_of_listed : (n : ℕ) (f : ℕ → Option MemoryBlock) →
    locked_pages (listed n f) ≡ total (λ k. used (locks_of_block (f k))) (range_with_len 0 n)
unfolding listed
locked_of_listed n f = locked_of_map f (range_with_len 0 n)

same_sums : (f g : ℕ → ℕ) (from n : ℕ) → ((k : ℕ) → g k ≡ f k) → total g (range_with_len from n) ≡ total f (range_with_len from n)
same_sums f g from zero h = refl
same_sums f g from (suc n) h = let first = h from in let rest = same_sums f g (from + 1) n h in omega arith

row_locked : (handles tables locks frames : List ℕ) (place : ℕ) →
    used (locks_of_block (block_in handles tables locks frames place)) ≡ locked_of handles locks place
unfolding locked_run
row_locked handles tables locks frames place =
    ap used (locks_are (record { handles = handles; tables = tables; taken = []; locks = locks; frames = frames }) place)

pub locked_are : (handles tables locks frames : List ℕ) → locked_pages (blocks_in handles tables locks frames) ≡ all_locked handles locks
unfolding all_locked
locked_are handles tables locks frames =
    locked_of_listed MAX_BLOCKS (block_in handles tables locks frames)
    ∙ same_sums (locked_of handles locks) (λ k. used (locks_of_block (block_in handles tables locks frames k))) 0 MAX_BLOCKS
    (row_locked handles tables locks frames)

-- and no more than all pages
used_few : (xs : List ℕ) → used xs ≤ length xs
used_few [] = omega arith
used_few (x ∷ xs) = let rest = used_few xs in grind (arith, eq-eqb, ne_eqb)

less_sums : (f g : ℕ → ℕ) (from n : ℕ) → ((k : ℕ) → g k ≤ f k) → total g (range_with_len from n) ≤ total f (range_with_len from n)
less_sums f g from zero h = omega arith
less_sums f g from (suc n) h = let first = h from in let rest = less_sums f g (from + 1) n h in omega arith

pub run_few : (locks : List ℕ) (first n : ℕ) → locked_run locks first n ≤ n
unfolding locked_run
run_few locks first n = grind (arith, length-listed, used_few)

pub all_locked_is : (handles locks : List ℕ) → total (locked_of handles locks) (range_with_len 0 MAX_BLOCKS) ≡ all_locked handles locks
unfolding all_locked
all_locked_is handles locks = refl

pub locked_few : (handles locks : List ℕ) → total (locked_of handles locks) (range_with_len 0 MAX_BLOCKS) ≤ all_pages handles
unfolding all_pages
locked_few handles locks =
    less_sums (pages_of handles) (locked_of handles locks) 0 MAX_BLOCKS (λ k. run_few locks (first_page_of handles k) (pages_of handles k))

-- the rows up to a place, and its own row, have no more pages than all rows have; nor are more of theirs locked. `all_pages` stays closed
-- here, since a sum over so many rows is too long to compute
at_most : (a b c : ℕ) → a ≤ b → b ≤ c → a ≤ c
at_most a b c first second = omega arith

pub pages_part : (handles : List ℕ) (place : ℕ) → place < MAX_BLOCKS →
    total (pages_of handles) (range_with_len 0 place) + pages_of handles place ≤ all_pages handles
unfolding all_pages
pages_part handles place within = sum_part (pages_of handles) place MAX_BLOCKS within

pub locked_part : (handles locks : List ℕ) (place : ℕ) → place < MAX_BLOCKS →
    total (locked_of handles locks) (range_with_len 0 place) + locked_of handles locks place ≤ all_pages handles
locked_part handles locks place within =
    at_most (total (locked_of handles locks) (range_with_len 0 place) + locked_of handles locks place)
    (total (locked_of handles locks) (range_with_len 0 MAX_BLOCKS)) (all_pages handles)
    (sum_part (locked_of handles locks) place MAX_BLOCKS within) (locked_few handles locks)
