-- What the laws of a client say of its own run: it stays once it has ended, its turns are counted, and its console only grows.
use Rattle.std.proofs.Common.{arith, inl, inr, ◌⊎◌, ◌≡◌, ◌≤◌, ◌+◌, ◌-◌, ◌++◌, ℕ, zero, suc, List, [], None, Some, refl, sym, ◌∙◌, ap, subst}
use Rattle.std.proofs.Common.{add-zero, add-suc, add-one, append_assoc, append-nil, length, length-append}
use Rattle.std.specs.{Prelude.{IsSome}, declared.option.Option.{Option}}
use Rattle.client_world.specs.{declared.outcome.Exit.{Exit}, Console.{Extends}, WatchWorld.{WatchWorld}}
use Rattle.pair_run.specs.Run.{closed_by, run_of, turns_of}

-- the laws of a client
pub record Client (turn : WatchWorld → WatchWorld) (console : WatchWorld → List ℕ) (exit : WatchWorld → Option Exit)
    (steps : WatchWorld → ℕ) : Type 0 where
  pub stays : (w : WatchWorld) → IsSome (exit w) → turn w ≡ w
  pub counted : (w : WatchWorld) → exit w ≡ None → steps (turn w) ≡ steps w + 1
  pub extends : (w : WatchWorld) → Extends (console w) (console (turn w))

pub client_of : {turn : WatchWorld → WatchWorld} {console : WatchWorld → List ℕ} {exit : WatchWorld → Option Exit}
    {steps : WatchWorld → ℕ} →
    ((w : WatchWorld) → IsSome (exit w) → turn w ≡ w) → ((w : WatchWorld) → exit w ≡ None → steps (turn w) ≡ steps w + 1) →
    ((w : WatchWorld) → Extends (console w) (console (turn w))) → Client turn console exit steps
client_of stays counted extends = record { stays = stays; counted = counted; extends = extends }

pub turns_none : (turn : WatchWorld → WatchWorld) (w : WatchWorld) → turns_of turn 0 w ≡ w
unfolding turns_of
turns_none turn w = refl

pub turns_more : (turn : WatchWorld → WatchWorld) (n : ℕ) (w : WatchWorld) → turns_of turn (n + 1) w ≡ turn (turns_of turn n w)
unfolding turns_of
turns_more turn n w = rw add-one refl

-- m turns and then n
pub turns_add : (turn : WatchWorld → WatchWorld) (m n : ℕ) (w : WatchWorld) → turns_of turn (m + n) w ≡ turns_of turn n (turns_of turn m w)
unfolding turns_of
turns_add turn m zero w = rw add-zero refl
turns_add turn m (suc n) w = rw add-suc (ap turn (turns_add turn m n w))

-- whether there is an exit
either : (o : Option Exit) → IsSome o ⊎ (o ≡ None)
either None = inr refl
either (Some e) = inl refl

is_none : (o : Option Exit) → IsSome o → o ≡ None → ⊥
is_none None is none = cc
is_none (Some e) is none = cc

stay_on : {turn : WatchWorld → WatchWorld} {console : WatchWorld → List ℕ} {exit : WatchWorld → Option Exit} {steps : WatchWorld → ℕ}
    (c : Client turn console exit steps) (w : WatchWorld) (m k : ℕ) →
    IsSome (exit (turns_of turn m w)) → turns_of turn (m + k) w ≡ turns_of turn m w
unfolding turns_of
stay_on c w m zero is = rw add-zero refl
stay_on {turn = turn} c w m (suc k) is = rw add-suc (ap turn (stay_on c w m k is) ∙ c.stays (turns_of turn m w) is)

-- once there is an exit, further turns change nothing
pub stay : {turn : WatchWorld → WatchWorld} {console : WatchWorld → List ℕ} {exit : WatchWorld → Option Exit} {steps : WatchWorld → ℕ}
    (c : Client turn console exit steps) (w : WatchWorld) (m n : ℕ) →
    m ≤ n → IsSome (exit (turns_of turn m w)) → turns_of turn n w ≡ turns_of turn m w
stay {turn = turn} c w m n le is =
    let split : m + (n - m) ≡ n = omega arith in
    subst (λ k. turns_of turn k w ≡ turns_of turn m w) split (stay_on c w m (n - m) is)

-- places of a run that is cut at a bound are one, where they lie after an exit or are both the bound
pub past : {turn : WatchWorld → WatchWorld} {console : WatchWorld → List ℕ} {exit : WatchWorld → Option Exit} {steps : WatchWorld → ℕ}
    (c : Client turn console exit steps) (w : WatchWorld) (m i j : ℕ) → i ≤ j → IsSome (exit (turns_of turn m w)) →
    m ≤ i ⊎ (j ≤ i) → turns_of turn j w ≡ turns_of turn i w
past {turn = turn} c w m i j le ended (inl after) = stay c w m j (omega arith) ended ∙ sym (stay c w m i after ended)
past {turn = turn} c w m i j le ended (inr same) = let is : j ≡ i = omega arith in ap (λ k. turns_of turn k w) is

-- a client that has ended is at the end of its run
pub over : {turn : WatchWorld → WatchWorld} {console : WatchWorld → List ℕ} {exit : WatchWorld → Option Exit} {steps : WatchWorld → ℕ}
    (c : Client turn console exit steps) (w now : WatchWorld) (done bound : ℕ) →
    now ≡ turns_of turn done w → done ≤ bound → IsSome (exit now) → turns_of turn bound w ≡ turns_of turn done w
over {exit = exit} c w now done bound is le ended = stay c w done bound le (subst (λ u. IsSome (exit u)) is ended)

-- a turn that ends no client follows one that ended none
on_before : {turn : WatchWorld → WatchWorld} {console : WatchWorld → List ℕ} {exit : WatchWorld → Option Exit} {steps : WatchWorld → ℕ}
    (c : Client turn console exit steps) (w : WatchWorld) → exit (turn w) ≡ None → exit w ≡ None
on_before {exit = exit} c w none = elim (either (exit w)) [
  | inl is ↦ absurd (is_none (exit w) is (ap exit (sym (c.stays w is)) ∙ none))
  | inr before ↦ before
]

-- without an exit each turn was counted
pub counted_turns : {turn : WatchWorld → WatchWorld} {console : WatchWorld → List ℕ} {exit : WatchWorld → Option Exit}
    {steps : WatchWorld → ℕ} (c : Client turn console exit steps) (w : WatchWorld) (n : ℕ) →
    steps w ≡ 0 → exit (turns_of turn n w) ≡ None → steps (turns_of turn n w) ≡ n
unfolding turns_of
counted_turns c w zero first none = first
counted_turns {turn = turn} c w (suc n) first none =
    let before = on_before c (turns_of turn n w) none in
    let count = counted_turns c w n first before in
    let one = c.counted (turns_of turn n w) before in
    omega arith

-- a client that goes on may make as many turns as are left
pub room : {turn : WatchWorld → WatchWorld} {console : WatchWorld → List ℕ} {exit : WatchWorld → Option Exit} {steps : WatchWorld → ℕ}
    (c : Client turn console exit steps) (w now : WatchWorld) (done turns most : ℕ) →
    now ≡ turns_of turn done w → steps w ≡ 0 → done + turns ≤ most → exit now ≡ None → steps now + turns ≤ most
room {exit = exit} {steps = steps} c w now done turns most is first le none =
    let count = counted_turns c w done first (ap exit (sym is) ∙ none) in
    let same = ap steps is in
    omega arith

-- there are no more turns than these
pub few_turns : {turn : WatchWorld → WatchWorld} {console : WatchWorld → List ℕ} {exit : WatchWorld → Option Exit} {steps : WatchWorld → ℕ}
    (c : Client turn console exit steps) (w : WatchWorld) (n : ℕ) → steps w ≡ 0 → steps (turns_of turn n w) ≤ n
unfolding turns_of
few_turns c w zero first = omega (arith, first)
few_turns {turn = turn} {exit = exit} {steps = steps} c w (suc n) first =
    let few = few_turns c w n first in
    elim (either (exit (turns_of turn n w))) [
      | inl is ↦ (let same = ap steps (c.stays (turns_of turn n w) is) in omega arith)
      | inr none ↦ (let one = c.counted (turns_of turn n w) none in omega arith)
    ]

-- after as many turns as were counted the world is the last one
pub settled : {turn : WatchWorld → WatchWorld} {console : WatchWorld → List ℕ} {exit : WatchWorld → Option Exit} {steps : WatchWorld → ℕ}
    (c : Client turn console exit steps) (w : WatchWorld) (n : ℕ) →
    steps w ≡ 0 → turns_of turn (steps (turns_of turn n w)) w ≡ turns_of turn n w
unfolding turns_of
settled {turn = turn} c w zero first = ap (λ k. turns_of turn k w) first
settled {turn = turn} {exit = exit} {steps = steps} c w (suc n) first = elim (either (exit (turns_of turn n w))) [
  | inl is ↦ subst (λ u. turns_of turn (steps u) w ≡ u) (sym (c.stays (turns_of turn n w) is)) (settled c w n first)
  | inr none ↦ (
      let one = c.counted (turns_of turn n w) none in
      let count = counted_turns c w n first none in
      let all : steps (turns_of turn (suc n) w) ≡ suc n = omega arith in
      ap (λ k. turns_of turn k w) all
      )
]

-- the turns that were counted, and no more, lead to the end of a run that is cut at a bound
pub last_turns : {turn : WatchWorld → WatchWorld} {console : WatchWorld → List ℕ} {exit : WatchWorld → Option Exit} {steps : WatchWorld → ℕ}
    (c : Client turn console exit steps) (w : WatchWorld) (m bound : ℕ) →
    steps w ≡ 0 → steps (turns_of turn bound w) ≤ m → m ≤ bound → turns_of turn m w ≡ turns_of turn bound w
last_turns {turn = turn} {exit = exit} {steps = steps} c w m bound first low high = elim (either (exit (turns_of turn bound w))) [
  | inl is ↦ (
      let end = settled c w bound first in
      stay c w (steps (turns_of turn bound w)) m low (subst (λ u. IsSome (exit u)) (sym end) is) ∙ end
      )
  | inr none ↦ (
      let all = counted_turns c w bound first none in
      let same : m ≡ bound = omega arith in
      ap (λ k. turns_of turn k w) same
      )
]

-- the console after more turns
pub grown : {turn : WatchWorld → WatchWorld} {console : WatchWorld → List ℕ} {exit : WatchWorld → Option Exit} {steps : WatchWorld → ℕ}
    (c : Client turn console exit steps) (w : WatchWorld) (n : ℕ) → Extends (console w) (console (turns_of turn n w))
unfolding turns_of
grown {console = console} c w zero = ([], sym (append-nil (console w)))
grown {turn = turn} {console = console} c w (suc n) =
    let so_far = grown c w n in
    let more = c.extends (turns_of turn n w) in
    (so_far.0 ++ more.0, more.1 ∙ ap (λ l. l ++ more.0) so_far.1 ∙ append_assoc (console w) so_far.0 more.0)

pub no_shorter : {turn : WatchWorld → WatchWorld} {console : WatchWorld → List ℕ} {exit : WatchWorld → Option Exit} {steps : WatchWorld → ℕ}
    (c : Client turn console exit steps) (w : WatchWorld) (n : ℕ) → length (console w) ≤ length (console (turns_of turn n w))
no_shorter {console = console} c w n = let more = grown c w n in omega (arith, ap length more.1, length-append (console w) more.0)

by_exit : (close : WatchWorld → WatchWorld) (exit : WatchWorld → Option Exit) (e : Exit) → ((w : WatchWorld) → exit (close w) ≡ Some e) →
    (w : WatchWorld) (o : Option Exit) → exit w ≡ o → IsSome (exit (closed_by close exit w))
by_exit close exit e ends w None none =
    let same : closed_by close exit w ≡ close w = rw (none, closed_by) refl in
    subst (λ v. IsSome (exit v)) (sym same) (subst (λ o. IsSome o) (sym (ends w)) refl)
by_exit close exit e ends w (Some x) some =
    let same : closed_by close exit w ≡ w = rw (some, closed_by) refl in
    subst (λ v. IsSome (exit v)) (sym same) (subst (λ o. IsSome o) (sym some) refl)

-- a closed world has an exit, and a world that had one keeps it
pub closed_ends : (close : WatchWorld → WatchWorld) (exit : WatchWorld → Option Exit) (e : Exit) →
    ((w : WatchWorld) → exit (close w) ≡ Some e) → (w : WatchWorld) → IsSome (exit (closed_by close exit w))
closed_ends close exit e ends w = by_exit close exit e ends w (exit w) refl

-- the end of a run, from its turns on
pub run_ends : (turn close : WatchWorld → WatchWorld) (exit : WatchWorld → Option Exit) (n : ℕ) (w now after : WatchWorld) →
    now ≡ turns_of turn n w → after ≡ run_of turn close exit 0 now → after ≡ run_of turn close exit n w
run_ends turn close exit n w now after was is = is ∙ ap (closed_by close exit) (turns_none turn now ∙ was)
