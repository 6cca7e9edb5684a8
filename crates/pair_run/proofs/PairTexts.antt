-- The loop over the slices: where it is in each run, and what it has written.
use Rattle.std.proofs.Common.{arith, ◌≡◌, ◌≤◌, ◌<◌, ◌+◌, ◌-◌, ◌*◌, ◌++◌, ◌∷◌, ℕ, zero, suc, List, [], false, Ok, Err, refl, sym, ◌∙◌, ap}
use Rattle.std.proofs.{Common.{subst, add-zero, append_assoc, append-nil, length, drop}, Math.Nat.{max-le}}
use Rattle.std.specs.{Prelude.{OnErr, min, max, ◌==◌}, declared.option.Option.{Option}, declared.result.Result.{Result}}
use Rattle.client_world.specs.{declared.outcome.Exit.{Exit}, WatchWorld.{WatchWorld}}
use Rattle.dpmi_io.specs.{Content.{Shown, Gains, GainsPart}, LineEnd.{line_end}}
use Rattle.dpmi_io.proofs.Output.{gained-none, gains_then, part_then, part_longer}
use Rattle.pair_run.specs.{declared.lines.Letter.{Letter}, declared.lines.Letter.TheVariants.{A, B}, Run.{turns_of}, Slices.{OwnRun}}
use Rattle.pair_run.specs.Slices.{SliceLine, own_run, gain, slices, line_if_any, slice_line, both_lines, lines_up_to, pair_lines}
use Rattle.pair_run.specs.Slices.{slice_head, lines_text}
use Rattle.pair_run.proofs.{OwnRuns.{Client, few_turns, turns_add}, SliceTexts.{lines_next, lines_none, next_start, no_line, not_fewer}}
use Rattle.pair_run.proofs.SliceTexts.{silent, text_append}

-- slice k begins after `done` turns of a run that is cut at its bound
abbrev pub Begins : ℕ → ℕ → ℕ → ℕ → Type 0
Begins n bound k done = done ≡ min (k * n) bound

-- a slice makes as many turns as its length, or those that are left
pub next_begins : (n bound k done turns : ℕ) → Begins n bound k done → done < bound → turns ≡ min n (bound - done) →
    Begins n bound (k + 1) (done + turns)
next_begins n bound k done turns begins lt is = let next = next_start k n in omega arith

-- where a client is after a slice
pub slice_ends : (turn : WatchWorld → WatchWorld) (first before after : WatchWorld) (done turns : ℕ) →
    before ≡ turns_of turn done first → after ≡ turns_of turn turns before → after ≡ turns_of turn (done + turns) first
slice_ends turn first before after done turns was is = is ∙ ap (turns_of turn turns) was ∙ sym (turns_add turn done turns first)

-- a slice as the loop makes it: where it begins and ends, and the client's worlds there
pub record Made (turn : WatchWorld → WatchWorld) (first before after : WatchWorld) (n bound k done turns : ℕ) : Type 0 where
  pub begins : Begins n bound k done
  pub ends : Begins n bound (k + 1) (done + turns)
  pub was : before ≡ turns_of turn done first
  pub is : after ≡ turns_of turn turns before

-- what its console gained is the gain of that slice
slice_gains : {turn : WatchWorld → WatchWorld} {first before after : WatchWorld} {n bound k done turns : ℕ}
    (console : WatchWorld → List ℕ) (steps : WatchWorld → ℕ) → Made turn first before after n bound k done turns →
    drop (length (console before)) (console after) ≡ gain n (own_run turn console steps bound first) k
slice_gains {turn = turn} {first = first} {before = before} {after = after} {n = n} {bound = bound} {k = k} {done = done} {turns = turns}
    console steps s =
    let here : before ≡ turns_of turn (min (k * n) bound) first = s.was ∙ ap (λ i. turns_of turn i first) s.begins in
    let there : after ≡ turns_of turn (min ((k + 1) * n) bound) first =
    slice_ends turn first before after done turns s.was s.is ∙ ap (λ i. turns_of turn i first) s.ends in
    rw (here, there) refl

-- ---- what is written

-- a fact holds in particular where a call failed
pub when_err : {T E P : Type 0} (r : Result T E) → P → OnErr r P
when_err (Ok v) p = tt
when_err (Err e) p = p

-- the line of bytes that there are
pub line_if_any-text : (k : ℕ) (client : Letter) (bytes : List ℕ) → (length bytes == 0) ≡ false →
    lines_text (line_if_any k client bytes) ≡ (slice_head k client (length bytes) ++ bytes) ++ line_end
line_if_any-text k client [] some = cc
line_if_any-text k client (x ∷ xs) some = append-nil ((slice_head k client (length (x ∷ xs)) ++ (x ∷ xs)) ++ line_end)

-- nothing, before the first slice
pub pair_none : (n : ℕ) (a b : OwnRun) (x : Shown) → Gains x x (lines_text (lines_up_to (both_lines n a b) 0))
pair_none n a b x = rw lines_none (gained-none x)

slice_text : (n : ℕ) (a b : OwnRun) (k : ℕ) →
    lines_text (lines_up_to (both_lines n a b) k) ++ lines_text (slice_line n A a k) ++ lines_text (slice_line n B b k)
    ≡ lines_text (lines_up_to (both_lines n a b) (k + 1))
slice_text n a b k =
    append_assoc (lines_text (lines_up_to (both_lines n a b) k)) (lines_text (slice_line n A a k)) (lines_text (slice_line n B b k))
    ∙ ap (λ l. lines_text (lines_up_to (both_lines n a b) k) ++ l) (sym (text_append (slice_line n A a k) (slice_line n B b k)))
    ∙ sym (text_append (lines_up_to (both_lines n a b) k) (both_lines n a b k))
    ∙ ap lines_text (sym (lines_next (both_lines n a b) k))

-- one slice more, of both
pub pair_more : (n : ℕ) (a b : OwnRun) (k : ℕ) (x y z u : Shown) → Gains x y (lines_text (lines_up_to (both_lines n a b) k)) →
    Gains y z (lines_text (slice_line n A a k)) → Gains z u (lines_text (slice_line n B b k)) →
    Gains x u (lines_text (lines_up_to (both_lines n a b) (k + 1)))
pair_more n a b k x y z u before first second =
    subst (λ l. Gains x u l) (slice_text n a b k)
    (gains_then x z u _ _ (gains_then x y z _ _ before first) second)

longer : (f : ℕ → List SliceLine) (x y : Shown) (n more : ℕ) → GainsPart x y (lines_text (lines_up_to f n)) →
    GainsPart x y (lines_text (lines_up_to f (n + more)))
longer f x y n zero part = rw add-zero part
longer f x y n (suc more) part =
    let next : lines_text (lines_up_to f (n + more)) ++ lines_text (f (n + more)) ≡ lines_text (lines_up_to f (n + suc more)) =
    sym (text_append (lines_up_to f (n + more)) (f (n + more))) ∙ ap lines_text (sym (lines_next f (n + more)))
    ∙ ap (λ i. lines_text (lines_up_to f i)) (omega arith) in
    subst (λ l. GainsPart x y l) next
    (part_longer x y (lines_text (lines_up_to f (n + more))) (lines_text (f (n + more))) (longer f x y n more part))

-- in slices after the last one of either nothing is written
both_silent : {turn : WatchWorld → WatchWorld} {console : WatchWorld → List ℕ} {exit : WatchWorld → Option Exit} {steps : WatchWorld → ℕ}
    (c : Client turn console exit steps) (v w : WatchWorld) (n bound k : ℕ) → 0 < n → steps v ≡ 0 → steps w ≡ 0 →
    max (slices n (own_run turn console steps bound v)) (slices n (own_run turn console steps bound w)) ≤ k →
    both_lines n (own_run turn console steps bound v) (own_run turn console steps bound w) k ≡ []
both_silent c v w n bound k some first_v first_w le =
    rw (no_line c v n bound A k some first_v (omega arith), no_line c w n bound B k some first_w (omega arith)) refl

-- a part of the first slices is a part of all
pub pair_part : {turn : WatchWorld → WatchWorld} {console : WatchWorld → List ℕ} {exit : WatchWorld → Option Exit} {steps : WatchWorld → ℕ}
    (c : Client turn console exit steps) (v w : WatchWorld) (n bound k : ℕ) (x y : Shown) → 0 < n → steps v ≡ 0 → steps w ≡ 0 →
    GainsPart x y (lines_text (lines_up_to (both_lines n (own_run turn console steps bound v) (own_run turn console steps bound w)) k)) →
    GainsPart x y (lines_text (pair_lines n (own_run turn console steps bound v) (own_run turn console steps bound w)))
pair_part {turn = turn} {console = console} {steps = steps} c v w n bound k x y some first_v first_w part =
    let a = own_run turn console steps bound v in
    let b = own_run turn console steps bound w in
    let all = max (slices n a) (slices n b) in
    let same : lines_up_to (both_lines n a b) (k + all) ≡ lines_up_to (both_lines n a b) all =
    silent (both_lines n a b) all (k + all) (omega arith) (λ i le. both_silent c v w n bound i some first_v first_w le) in
    subst (λ l. GainsPart x y (lines_text l)) same (longer (both_lines n a b) x y k all part)

-- a slice of A that failed
pub a_failed : {turn : WatchWorld → WatchWorld} {console : WatchWorld → List ℕ} {exit : WatchWorld → Option Exit} {steps : WatchWorld → ℕ}
    (c : Client turn console exit steps) (v w : WatchWorld) (n bound k : ℕ) (x y z : Shown) → 0 < n → steps v ≡ 0 → steps w ≡ 0 →
    Gains x y (lines_text (lines_up_to (both_lines n (own_run turn console steps bound v) (own_run turn console steps bound w)) k)) →
    GainsPart y z (lines_text (slice_line n A (own_run turn console steps bound v) k)) →
    GainsPart x z (lines_text (pair_lines n (own_run turn console steps bound v) (own_run turn console steps bound w)))
a_failed {turn = turn} {console = console} {steps = steps} c v w n bound k x y z some first_v first_w before part =
    let a = own_run turn console steps bound v in
    let b = own_run turn console steps bound w in
    pair_part c v w n bound (k + 1) x z some first_v first_w
    (subst (λ l. GainsPart x z l) (slice_text n a b k)
    (part_longer x z _ (lines_text (slice_line n B b k)) (part_then x y z _ _ before part)))

-- a slice of B that failed
pub b_failed : {turn : WatchWorld → WatchWorld} {console : WatchWorld → List ℕ} {exit : WatchWorld → Option Exit} {steps : WatchWorld → ℕ}
    (c : Client turn console exit steps) (v w : WatchWorld) (n bound k : ℕ) (x y z u : Shown) → 0 < n → steps v ≡ 0 → steps w ≡ 0 →
    Gains x y (lines_text (lines_up_to (both_lines n (own_run turn console steps bound v) (own_run turn console steps bound w)) k)) →
    Gains y z (lines_text (slice_line n A (own_run turn console steps bound v) k)) →
    GainsPart z u (lines_text (slice_line n B (own_run turn console steps bound w) k)) →
    GainsPart x u (lines_text (pair_lines n (own_run turn console steps bound v) (own_run turn console steps bound w)))
b_failed {turn = turn} {console = console} {steps = steps} c v w n bound k x y z u some first_v first_w before first part =
    let a = own_run turn console steps bound v in
    let b = own_run turn console steps bound w in
    pair_part c v w n bound (k + 1) x u some first_v first_w
    (subst (λ l. GainsPart x u l) (slice_text n a b k) (part_then x z u _ _ (gains_then x y z _ _ before first) part))

-- where neither run goes on, all lines are written
pub pair_whole : {turn : WatchWorld → WatchWorld} {console : WatchWorld → List ℕ} {exit : WatchWorld → Option Exit} {steps : WatchWorld → ℕ}
    (c : Client turn console exit steps) (v w : WatchWorld) (n bound k done : ℕ) (x y : Shown) → 0 < n → steps v ≡ 0 → steps w ≡ 0 →
    Begins n bound k done → turns_of turn bound v ≡ turns_of turn done v → turns_of turn bound w ≡ turns_of turn done w →
    Gains x y (lines_text (lines_up_to (both_lines n (own_run turn console steps bound v) (own_run turn console steps bound w)) k)) →
    Gains x y (lines_text (pair_lines n (own_run turn console steps bound v) (own_run turn console steps bound w)))
pair_whole {turn = turn} {console = console} {steps = steps} c v w n bound k done x y some first_v first_w begins end_v end_w gains =
    let a = own_run turn console steps bound v in
    let b = own_run turn console steps bound w in
    let few_v = few_turns c v done first_v in
    let few_w = few_turns c w done first_w in
    let count_v = ap steps end_v in
    let count_w = ap steps end_w in
    let all_v = not_fewer n (steps (turns_of turn bound v)) k some (omega arith) in
    let all_w = not_fewer n (steps (turns_of turn bound w)) k some (omega arith) in
    let same : lines_up_to (both_lines n a b) k ≡ pair_lines n a b =
    silent (both_lines n a b) (max (slices n a) (slices n b)) k (max-le all_v all_w)
    (λ i le. both_silent c v w n bound i some first_v first_w le) in
    subst (λ l. Gains x y (lines_text l)) same gains

-- the line of a slice as the loop makes it is that of the client's own run
pub line_gained : {turn : WatchWorld → WatchWorld} {first before after : WatchWorld} {n bound k done turns : ℕ}
    (console : WatchWorld → List ℕ) (steps : WatchWorld → ℕ) (client : Letter) (x y : Shown) →
    Made turn first before after n bound k done turns →
    Gains x y (lines_text (line_if_any k client (drop (length (console before)) (console after)))) →
    Gains x y (lines_text (slice_line n client (own_run turn console steps bound first) k))
line_gained {k = k} console steps client x y s gains =
    subst (λ l. Gains x y (lines_text (line_if_any k client l))) (slice_gains console steps s) gains

pub line_failed : {turn : WatchWorld → WatchWorld} {first before after : WatchWorld} {n bound k done turns : ℕ}
    (console : WatchWorld → List ℕ) (steps : WatchWorld → ℕ) (client : Letter) (x y : Shown) →
    Made turn first before after n bound k done turns →
    GainsPart x y (lines_text (line_if_any k client (drop (length (console before)) (console after)))) →
    GainsPart x y (lines_text (slice_line n client (own_run turn console steps bound first) k))
line_failed {k = k} console steps client x y s part =
    subst (λ l. GainsPart x y (lines_text (line_if_any k client l))) (slice_gains console steps s) part
