-- Lists of stops, the first byte that changed, and the turns of a search.
use Rattle.std.proofs.Common.{arith, ◌≡◌, ◌≤◌, ◌<◌, ◌+◌, ◌-◌, ◌++◌, ◌∷◌, [], ℕ, Bool, true, false, List, map, refl, sym, subst, inl, inr}
use Rattle.std.proofs.{Common.{◌∙◌, ap, length, length-take, take, None, Some, add-one}, Math.Nat.{eq-or-lt_of_le, sub_self}}
use Rattle.std.proofs.lemmas.Iterator.Adapters.{position_from-zero}
use Rattle.std.specs.{Prelude.{◌⊎◌, nat_eq, not, if◌then◌else◌}, List.{position, position_from}, declared.option.Option.{Option}}
use Rattle.client_world.specs.World.{HostWorld, World}
use Rattle.dpmi_calls.specs.{Memory.{seen}, Stops.{GoesOn, WantedStops, first_change, first_place, is_changed, is_outside, last_of}}
use Rattle.dpmi_calls.specs.{Stops.{reason_at, reason_of, last_by, stops_by, stops_of}, declared.stops.Stop.{Stop}}
use Rattle.dpmi_calls.specs.{declared.wanted.Reason.{Reason}, declared.wanted.Reason.TheVariants.{Change, Place, Outside}}

-- ---- the first byte that changed

same_from : (f g : ℕ → ℕ) (i : ℕ) (xs : List ℕ) → position_from (λ x. not (nat_eq (f x) (g x))) i xs ≡ None → map f xs ≡ map g xs
same_from f g i [] none = refl
same_from f g i (x ∷ xs) none = by (same_from f g (i + 1) xs) (nat_eq (f x) (g x)) refl
  where
    by : (position_from (λ y. not (nat_eq (f y) (g y))) (i + 1) xs ≡ None → map f xs ≡ map g xs) → (b : Bool) → nat_eq (f x) (g x) ≡ b →
        map f (x ∷ xs) ≡ map g (x ∷ xs)
    by rest true is =
        let head : f x ≡ g x = grind (arith, is) in
        let tail : position_from (λ y. not (nat_eq (f y) (g y))) (i + 1) xs ≡ None = rw (← none) (rw is refl) in
        ap (λ y. y ∷ map f xs) head ∙ ap (λ ys. g x ∷ ys) (rest tail)
    by rest false is = let some : Some i ≡ None = rw (← none) (rw is refl) in cc

-- where none changed, what is seen is the same
pub unchanged : (w v : World) (bytes : List ℕ) → position (is_changed w v) bytes ≡ None → map (seen w) bytes ≡ map (seen v) bytes
unchanged w v bytes none = same_from (seen w) (seen v) 0 bytes (sym (position_from-zero (is_changed w v) bytes) ∙ none)

-- no byte changed, and the client is at no place: it is outside, or there is no reason
by_parts : WantedStops → Option ℕ → Option ℕ → Bool → Option Reason
by_parts s change place outside = elim change [
  | Some k ↦ Some (Change k)
  | None ↦ elim place [ Some k ↦ Some (Place k) | None ↦ if outside then Some Outside else None ]
]

pub at_no_place : (s : WantedStops) (w v : World) (outside : Bool) → None ≡ first_change s w v → None ≡ first_place s v →
    outside ≡ is_outside s v → (if outside then Some Outside else None) ≡ reason_of s w v
unfolding by_parts
at_no_place s w v outside change place is =
    ap (λ (o : Option ℕ). by_parts s o None outside) change ∙ ap (λ (o : Option ℕ). by_parts s (first_change s w v) o outside) place
    ∙ ap (by_parts s (first_change s w v) (first_place s v)) is

-- ---- one more turn

one_more : (s : WantedStops) (host : ℕ → HostWorld) (start k : ℕ) →
    stops_of s host start k ++ stops_by (start + k + 1) (reason_at s host (start + k)) ≡ stops_of s host start (k + 1)
unfolding stops_of
one_more s host start k = sym (ap (stops_of s host start) (add-one k))

one_more_last : (s : WantedStops) (host : ℕ → HostWorld) (start k : ℕ) →
    last_by (last_of s host start k) (start + k + 1) (reason_at s host (start + k)) ≡ last_of s host start (k + 1)
unfolding last_of
one_more_last s host start k = sym (ap (last_of s host start) (add-one k))

-- ---- up to a turn, for a search that began at another one

pub none_yet : (s : WantedStops) (host : ℕ → HostWorld) (start : ℕ) → [] ≡ stops_of s host start (start - start)
unfolding stops_of
none_yet s host start = rw (sub_self start) refl

pub no_last_yet : (s : WantedStops) (host : ℕ → HostWorld) (start : ℕ) → None ≡ last_of s host start (start - start)
unfolding last_of
no_last_yet s host start = rw (sub_self start) refl

at : (start done : ℕ) → start ≤ done → start + (done - start) ≡ done
at start done le = omega (arith, le)

next : (start done : ℕ) → start ≤ done → (done - start) + 1 ≡ done + 1 - start
next start done le = omega (arith, le)

pub noted : (s : WantedStops) (host : ℕ → HostWorld) (start done : ℕ) (so_far after : List Stop) → start ≤ done →
    so_far ≡ stops_of s host start (done - start) → after ≡ so_far ++ stops_by (done + 1) (reason_at s host done) →
    after ≡ stops_of s host start (done + 1 - start)
noted s host start done so_far after le is put =
    put ∙ ap (λ xs. xs ++ stops_by (done + 1) (reason_at s host done)) is
    ∙ sym (ap (λ n. stops_of s host start (done - start) ++ stops_by (n + 1) (reason_at s host n)) (at start done le))
    ∙ one_more s host start (done - start) ∙ ap (stops_of s host start) (next start done le)

pub last_noted : (s : WantedStops) (host : ℕ → HostWorld) (start done : ℕ) (so_far after : Option Stop) → start ≤ done →
    so_far ≡ last_of s host start (done - start) → after ≡ last_by so_far (done + 1) (reason_at s host done) →
    after ≡ last_of s host start (done + 1 - start)
last_noted s host start done so_far after le is put =
    put ∙ ap (λ (o : Option Stop). last_by o (done + 1) (reason_at s host done)) is
    ∙ sym (ap (λ n. last_by (last_of s host start (done - start)) (n + 1) (reason_at s host n)) (at start done le))
    ∙ one_more_last s host start (done - start) ∙ ap (last_of s host start) (next start done le)

-- ---- the turns after which the search goes on

-- what holds of each turn before one and of that one holds of each turn before the next
pub one_more_turn : (P : ℕ → Type 0) (start done : ℕ) → P done → ((n : ℕ) → start ≤ n → n < done → P n) →
    (n : ℕ) → start ≤ n → n < done + 1 → P n
one_more_turn P start done here old n le lt = by (eq-or-lt_of_le (omega (arith, lt)))
  where
    by : (n ≡ done) ⊎ (n < done) → P n
    by (inl same) = subst P (sym same) here
    by (inr less) = old n le less

-- one more turn before which the client had not ended and there was room
pub still_goes_on : (s : WantedStops) (host : ℕ → HostWorld) (start done made room : ℕ) (stops : List Stop) → room ≡ length stops →
    (host done).exit ≡ None → made < length stops → take made stops ≡ stops_of s host start (done - start) →
    ((n : ℕ) → start ≤ n → n < done → GoesOn s host start (length stops) n) →
    (n : ℕ) → start ≤ n → n < done + 1 → GoesOn s host start room n
still_goes_on s host start done made room stops same exit few is old =
    rw same (one_more_turn (GoesOn s host start (length stops)) start done
    (record { no_exit = exit; space = omega (arith, few, ap length is, length-take made stops) }) old)
