-- The slices of a run, and the lines of two clients that make theirs in turns.
use Rattle.std.proofs.Common.{arith, inl, inr, ◌⊎◌, ◌≡◌, ◌≤◌, ◌<◌, ◌+◌, ◌-◌, ◌*◌, ◌/◌, ◌++◌, ◌∷◌, ℕ, zero, suc, List, [], None, Some, false}
use Rattle.std.proofs.Common.{refl, sym, ◌∙◌, ap, subst, add-zero, add-suc, add-one, append_assoc, append-nil, length, drop}
use Rattle.std.proofs.{Math.Nat.{div-lt_iff_lt-mul, eq-or-lt_of_le, le-max_left, le-max_right}, Math.Seq.{drop-append_seam, drop-length}}
use Rattle.std.proofs.lemmas.List.Elements.{filter-append}
use Rattle.std.specs.{Prelude.{IsSome, min, max}, List.{filter}, declared.option.Option.{Option}}
use Rattle.client_world.specs.{declared.outcome.Exit.{Exit}, WatchWorld.{WatchWorld}}
use Rattle.pair_run.specs.{declared.lines.Letter.{Letter}, declared.lines.Letter.TheVariants.{A, B}, Run.{closed_by, run_of, turns_of}}
use Rattle.pair_run.specs.Slices.{OwnRun, SliceLine, own_run, gain, slices, line_if_any, slice_line, both_lines, lines_up_to, own_lines}
use Rattle.pair_run.specs.Slices.{pair_lines, line_text, lines_text, is_letter, is_of, all_bytes}
use Rattle.pair_run.proofs.OwnRuns.{Client, few_turns, grown, last_turns, past, turns_add, turns_none}

-- ---- where slices begin and end

-- slice k + 1 begins n turns after slice k
pub next_start : (k n : ℕ) → (k + 1) * n ≡ k * n + n
next_start k n = grind arith

-- slices of n turns reach the last turn, and no fewer do
pub reached : (n turns k : ℕ) → 0 < n → (turns + (n - 1)) / n ≤ k → turns ≤ k * n
reached n turns k some le =
    let below : (turns + (n - 1)) / n < k + 1 = omega arith in
    let small = (div-lt_iff_lt-mul some).0 below in
    let next = next_start k n in
    omega arith

pub not_fewer : (n turns k : ℕ) → 0 < n → turns ≤ k * n → (turns + (n - 1)) / n ≤ k
not_fewer n turns k some le =
    let next = next_start k n in
    let small : turns + (n - 1) < (k + 1) * n = omega arith in
    let below = (div-lt_iff_lt-mul some).1 small in
    omega arith

-- a slice after the last one gains nothing
no_gain : {turn : WatchWorld → WatchWorld} {console : WatchWorld → List ℕ} {exit : WatchWorld → Option Exit} {steps : WatchWorld → ℕ}
    (c : Client turn console exit steps) (w : WatchWorld) (n bound k : ℕ) → 0 < n → steps w ≡ 0 →
    slices n (own_run turn console steps bound w) ≤ k → gain n (own_run turn console steps bound w) k ≡ []
no_gain {turn = turn} {console = console} {steps = steps} c w n bound k some first le =
    let all = reached n (steps (turns_of turn bound w)) k some le in
    let few = few_turns c w bound first in
    let next = next_start k n in
    let here : turns_of turn (min (k * n) bound) w ≡ turns_of turn bound w =
    last_turns c w (min (k * n) bound) bound first (omega arith) (omega arith) in
    let there : turns_of turn (min ((k + 1) * n) bound) w ≡ turns_of turn bound w =
    last_turns c w (min ((k + 1) * n) bound) bound first (omega arith) (omega arith) in
    rw (here, there) (drop-length (console (turns_of turn bound w)))

pub no_line : {turn : WatchWorld → WatchWorld} {console : WatchWorld → List ℕ} {exit : WatchWorld → Option Exit} {steps : WatchWorld → ℕ}
    (c : Client turn console exit steps) (w : WatchWorld) (n bound : ℕ) (client : Letter) (k : ℕ) → 0 < n → steps w ≡ 0 →
    slices n (own_run turn console steps bound w) ≤ k → slice_line n client (own_run turn console steps bound w) k ≡ []
no_line c w n bound client k some first le = ap (line_if_any k client) (no_gain c w n bound k some first le)

-- what the console gains from one place of the run to a later one
gained_between : {turn : WatchWorld → WatchWorld} {console : WatchWorld → List ℕ} {exit : WatchWorld → Option Exit} {steps : WatchWorld → ℕ}
    (c : Client turn console exit steps) (w : WatchWorld) (i j : ℕ) → i ≤ j →
    console (turns_of turn j w) ≡ console (turns_of turn i w) ++ drop (length (console (turns_of turn i w))) (console (turns_of turn j w))
gained_between {turn = turn} {console = console} c w i j le =
    let split : i + (j - i) ≡ j = omega arith in
    let there : turns_of turn j w ≡ turns_of turn (j - i) (turns_of turn i w) = ap (λ k. turns_of turn k w) (sym split)
    ∙ turns_add turn i (j - i) w in
    let more = grown c (turns_of turn i w) (j - i) in
    let is : console (turns_of turn j w) ≡ console (turns_of turn i w) ++ more.0 = ap console there ∙ more.1 in
    subst (λ l. l ≡ console (turns_of turn i w) ++ drop (length (console (turns_of turn i w))) l) (sym is)
    (ap (λ l. console (turns_of turn i w) ++ l) (sym (drop-append_seam (console (turns_of turn i w)) more.0)))

-- after a slice the console has what it had before it, and the gain
pub slice_appends : {turn : WatchWorld → WatchWorld} {console : WatchWorld → List ℕ} {exit : WatchWorld → Option Exit}
    {steps : WatchWorld → ℕ} (c : Client turn console exit steps) (w : WatchWorld) (n bound k : ℕ) →
    (own_run turn console steps bound w).console ((k + 1) * n)
    ≡ (own_run turn console steps bound w).console (k * n) ++ gain n (own_run turn console steps bound w) k
slice_appends c w n bound k = let next = next_start k n in gained_between c w (min (k * n) bound) (min ((k + 1) * n) bound) (omega arith)

-- ---- lines one after another

pub lines_none : (f : ℕ → List SliceLine) → lines_up_to f 0 ≡ []
unfolding lines_up_to
lines_none f = refl

pub lines_next : (f : ℕ → List SliceLine) (c : ℕ) → lines_up_to f (c + 1) ≡ lines_up_to f c ++ f c
unfolding lines_up_to
lines_next f c = rw add-one refl

silent_on : (f : ℕ → List SliceLine) (m k : ℕ) → ((i : ℕ) → m ≤ i → f i ≡ []) → lines_up_to f (m + k) ≡ lines_up_to f m
unfolding lines_up_to
silent_on f m zero none = rw add-zero refl
silent_on f m (suc k) none =
    rw add-suc (ap (λ l. lines_up_to f (m + k) ++ l) (none (m + k) (omega arith)) ∙ append-nil (lines_up_to f (m + k))
    ∙ silent_on f m k none)

-- slices that write nothing change nothing
pub silent : (f : ℕ → List SliceLine) (m n : ℕ) → m ≤ n → ((i : ℕ) → m ≤ i → f i ≡ []) → lines_up_to f n ≡ lines_up_to f m
silent f m n le none =
    let split : m + (n - m) ≡ n = omega arith in
    subst (λ k. lines_up_to f k ≡ lines_up_to f m) split (silent_on f m (n - m) none)

pub text_append : (xs ys : List SliceLine) → lines_text (xs ++ ys) ≡ lines_text xs ++ lines_text ys
text_append [] ys = refl
text_append (x ∷ xs) ys = ap (λ l. line_text x ++ l) (text_append xs ys) ∙ sym (append_assoc (line_text x) (lines_text xs) (lines_text ys))

bytes_append : (xs ys : List SliceLine) → all_bytes (xs ++ ys) ≡ all_bytes xs ++ all_bytes ys
bytes_append [] ys = refl
bytes_append (x ∷ xs) ys = ap (λ l. x.bytes ++ l) (bytes_append xs ys) ∙ sym (append_assoc x.bytes (all_bytes xs) (all_bytes ys))

bytes_of_line : (k : ℕ) (client : Letter) (bytes : List ℕ) → all_bytes (line_if_any k client bytes) ≡ bytes
bytes_of_line k client [] = refl
bytes_of_line k client (x ∷ xs) = append-nil (x ∷ xs)

-- ---- each client's own lines

own_kept : (client : Letter) (k : ℕ) (bytes : List ℕ) → filter (is_of client) (line_if_any k client bytes) ≡ line_if_any k client bytes
own_kept client k [] = refl
own_kept A k (x ∷ xs) = refl
own_kept B k (x ∷ xs) = refl

-- a client's lines are not the other one's
other_left : (client other : Letter) (k : ℕ) (bytes : List ℕ) → is_letter client other ≡ false →
    filter (is_of client) (line_if_any k other bytes) ≡ []
other_left client other k [] differ = refl
other_left A A k (x ∷ xs) differ = cc
other_left A B k (x ∷ xs) differ = refl
other_left B A k (x ∷ xs) differ = refl
other_left B B k (x ∷ xs) differ = cc

own_of_a : (n : ℕ) (a b : OwnRun) (k : ℕ) → filter (is_of A) (both_lines n a b k) ≡ slice_line n A a k
own_of_a n a b k =
    filter-append (is_of A) (slice_line n A a k) (slice_line n B b k)
    ∙ ap (λ l. filter (is_of A) (slice_line n A a k) ++ l) (other_left A B k (gain n b k) refl)
    ∙ append-nil (filter (is_of A) (slice_line n A a k))
    ∙ own_kept A k (gain n a k)

own_of_b : (n : ℕ) (a b : OwnRun) (k : ℕ) → filter (is_of B) (both_lines n a b k) ≡ slice_line n B b k
own_of_b n a b k =
    filter-append (is_of B) (slice_line n A a k) (slice_line n B b k)
    ∙ ap (λ l. l ++ filter (is_of B) (slice_line n B b k)) (other_left B A k (gain n a k) refl)
    ∙ own_kept B k (gain n b k)

filtered : (client : Letter) (f own : ℕ → List SliceLine) → ((k : ℕ) → filter (is_of client) (f k) ≡ own k) → (c : ℕ) →
    filter (is_of client) (lines_up_to f c) ≡ lines_up_to own c
unfolding lines_up_to
filtered client f own each zero = refl
filtered client f own each (suc c) =
    filter-append (is_of client) (lines_up_to f c) (f c)
    ∙ ap (λ l. l ++ filter (is_of client) (f c)) (filtered client f own each c)
    ∙ ap (λ l. lines_up_to own c ++ l) (each c)

own_to : {turn : WatchWorld → WatchWorld} {console : WatchWorld → List ℕ} {exit : WatchWorld → Option Exit} {steps : WatchWorld → ℕ}
    (c : Client turn console exit steps) (w : WatchWorld) (n bound : ℕ) (client : Letter) (count : ℕ) → 0 < n → steps w ≡ 0 →
    slices n (own_run turn console steps bound w) ≤ count →
    lines_up_to (slice_line n client (own_run turn console steps bound w)) count ≡ own_lines n client (own_run turn console steps bound w)
own_to {turn = turn} {console = console} {steps = steps} c w n bound client count some first le =
    silent (slice_line n client (own_run turn console steps bound w)) (slices n (own_run turn console steps bound w)) count le
    (λ i reached. no_line c w n bound client i some first reached)

-- of the lines of two clients those of the first one are its own, whatever the other one does
pub lines_of_a : {turn : WatchWorld → WatchWorld} {console : WatchWorld → List ℕ} {exit : WatchWorld → Option Exit} {steps : WatchWorld → ℕ}
    (c : Client turn console exit steps) (w : WatchWorld) (n bound : ℕ) (b : OwnRun) → 0 < n → steps w ≡ 0 →
    filter (is_of A) (pair_lines n (own_run turn console steps bound w) b) ≡ own_lines n A (own_run turn console steps bound w)
lines_of_a {turn = turn} {console = console} {steps = steps} c w n bound b some first =
    let a = own_run turn console steps bound w in
    filtered A (both_lines n a b) (slice_line n A a) (own_of_a n a b) (max (slices n a) (slices n b))
    ∙ own_to c w n bound A (max (slices n a) (slices n b)) some first (le-max_left (slices n a) (slices n b))

pub lines_of_b : {turn : WatchWorld → WatchWorld} {console : WatchWorld → List ℕ} {exit : WatchWorld → Option Exit} {steps : WatchWorld → ℕ}
    (c : Client turn console exit steps) (w : WatchWorld) (n bound : ℕ) (a : OwnRun) → 0 < n → steps w ≡ 0 →
    filter (is_of B) (pair_lines n a (own_run turn console steps bound w)) ≡ own_lines n B (own_run turn console steps bound w)
lines_of_b {turn = turn} {console = console} {steps = steps} c w n bound a some first =
    let b = own_run turn console steps bound w in
    filtered B (both_lines n a b) (slice_line n B b) (own_of_b n a b) (max (slices n a) (slices n b))
    ∙ own_to c w n bound B (max (slices n a) (slices n b)) some first (le-max_right (slices n a) (slices n b))

-- the bytes of the first slices are what the console gained in them
bytes_so_far : {turn : WatchWorld → WatchWorld} {console : WatchWorld → List ℕ} {exit : WatchWorld → Option Exit} {steps : WatchWorld → ℕ}
    (c : Client turn console exit steps) (w : WatchWorld) (n bound : ℕ) (client : Letter) (count : ℕ) → console w ≡ [] →
    all_bytes (lines_up_to (slice_line n client (own_run turn console steps bound w)) count)
    ≡ (own_run turn console steps bound w).console (count * n)
unfolding lines_up_to
bytes_so_far {turn = turn} {console = console} c w n bound client zero empty =
    let start : min (0 * n) bound ≡ 0 = grind arith in
    sym (ap (λ k. console (turns_of turn k w)) start ∙ ap console (turns_none turn w) ∙ empty)
bytes_so_far {turn = turn} {console = console} {steps = steps} c w n bound client (suc count) empty =
    let r = own_run turn console steps bound w in
    bytes_append (lines_up_to (slice_line n client r) count) (slice_line n client r count)
    ∙ ap (λ l. l ++ all_bytes (slice_line n client r count)) (bytes_so_far c w n bound client count empty)
    ∙ ap (λ l. r.console (count * n) ++ l) (bytes_of_line count client (gain n r count))
    ∙ sym (slice_appends c w n bound count)
    ∙ ap (λ k. r.console (k * n)) (add-one count)

-- a client's own lines hold all that it writes in its run
pub own_bytes : {turn : WatchWorld → WatchWorld} {console : WatchWorld → List ℕ} {exit : WatchWorld → Option Exit} {steps : WatchWorld → ℕ}
    (c : Client turn console exit steps) (w : WatchWorld) (n bound : ℕ) (client : Letter) → 0 < n → steps w ≡ 0 → console w ≡ [] →
    all_bytes (own_lines n client (own_run turn console steps bound w)) ≡ console (turns_of turn bound w)
own_bytes {turn = turn} {console = console} {steps = steps} c w n bound client some first empty =
    let r = own_run turn console steps bound w in
    let all = reached n (steps (turns_of turn bound w)) (slices n r) some (omega arith) in
    let few = few_turns c w bound first in
    bytes_so_far c w n bound client (slices n r) empty
    ∙ ap console (last_turns c w (min (slices n r * n) bound) bound first (omega arith) (omega arith))

console_closed : (close : WatchWorld → WatchWorld) (console : WatchWorld → List ℕ) (exit : WatchWorld → Option Exit) →
    ((w : WatchWorld) → console (close w) ≡ console w) → (w : WatchWorld) (o : Option Exit) → exit w ≡ o →
    console (closed_by close exit w) ≡ console w
console_closed close console exit same w None none =
    ap console (let is : closed_by close exit w ≡ close w = rw (none, closed_by) refl in is) ∙ same w
console_closed close console exit same w (Some e) some = ap console (let is : closed_by close exit w ≡ w = rw (some, closed_by) refl in is)

-- the console of a closed world is the one before
pub run_console : (turn close : WatchWorld → WatchWorld) (console : WatchWorld → List ℕ) (exit : WatchWorld → Option Exit) →
    ((w : WatchWorld) → console (close w) ≡ console w) → (n : ℕ) (w : WatchWorld) →
    console (run_of turn close exit n w) ≡ console (turns_of turn n w)
run_console turn close console exit same n w = console_closed close console exit same (turns_of turn n w) (exit (turns_of turn n w)) refl

-- a client that has ended before a slice
pub silent_slice : {turn : WatchWorld → WatchWorld} {console : WatchWorld → List ℕ} {exit : WatchWorld → Option Exit}
    {steps : WatchWorld → ℕ}
    (c : Client turn console exit steps) (w : WatchWorld) (n bound k m : ℕ) → m ≤ k * n → IsSome (exit (turns_of turn m w)) →
    gain n (own_run turn console steps bound w) k ≡ []
silent_slice {turn = turn} {console = console} c w n bound k m le ended =
    let next = next_start k n in
    let none : 0 ≤ bound - m = omega arith in
    let place : m ≤ min (k * n) bound ⊎ (min ((k + 1) * n) bound ≤ min (k * n) bound) = elim (eq-or-lt_of_le none) [
      | inl past_bound ↦ inr (omega arith)
      | inr before ↦ inl (omega arith)
    ] in
    let same : turns_of turn (min ((k + 1) * n) bound) w ≡ turns_of turn (min (k * n) bound) w =
    past c w m (min (k * n) bound) (min ((k + 1) * n) bound) (omega arith) ended place in
    rw same (drop-length (console (turns_of turn (min (k * n) bound) w)))
