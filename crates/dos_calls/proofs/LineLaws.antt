-- The first line of the keys, one key after the other.
use Rattle.std.proofs.Common.{◌≡◌, ◌≢◌, ℕ, suc, ◌+◌, ◌<◌, ◌≤◌, false, List, [], ◌∷◌, ◌++◌, length, get_or, take, drop, append_assoc}
use Rattle.std.proofs.{Common.{append-nil, refl, ap, ◌∙◌, sym, arith, Some, None}, lemmas.Bool.Decides.{nat_tests}, Math.Seq.{drop-cons}}
use Rattle.std.proofs.lemmas.List.{take_more, drop_all}
use Rattle.std.specs.{Prelude.{nat_eq}, declared.option.Option.{Option}}
use Rattle.dos_calls.specs.Calls.{line_of}

-- a line with keys before it
abbrev pub behind : List ℕ → Option (List ℕ × List ℕ) → Option (List ℕ × List ℕ)
behind front None = None
behind front (Some line) = Some (front ++ line.0, line.1)

behind_twice : (a b : List ℕ) (o : Option (List ℕ × List ℕ)) → behind a (behind b o) ≡ behind (a ++ b) o
behind_twice a b None = refl
behind_twice a b (Some line) = ap (λ (xs : List ℕ). Some (xs, line.1)) (sym (append_assoc a b line.0))

-- the rest from a place on
pub rest_is : (keys : List ℕ) (n : ℕ) → n < length keys → drop n keys ≡ get_or keys n 0 ∷ drop (n + 1) keys
rest_is keys n small =
    drop-cons keys n 0 small ∙ ap (λ (k : ℕ). get_or keys n 0 ∷ drop k keys) (let next : suc n ≡ n + 1 = omega arith in next)

other : (key : ℕ) (keys : List ℕ) → nat_eq key 0x0D ≡ false → line_of (key ∷ keys) ≡ behind (key ∷ []) (line_of keys)
unfolding line_of
other key keys test = rw test (cases (line_of keys))
  where
    cases : (o : Option (List ℕ × List ℕ)) → elim o [ None ↦ None | Some line ↦ Some (key ∷ line.0, line.1) ] ≡ behind (key ∷ []) o
    cases None = refl
    cases (Some line) = refl

-- a return
pub line_here : (keys : List ℕ) (n : ℕ) → n < length keys → get_or keys n 0 ≡ 0x0D →
    line_of keys ≡ behind (take n keys) (line_of (drop n keys)) → line_of keys ≡ Some (take n keys, drop (n + 1) keys)
unfolding line_of
line_here keys n small return line =
    line ∙ ap (λ (xs : List ℕ). behind (take n keys) (line_of xs)) (rest_is keys n small ∙ ap (λ (x : ℕ). x ∷ drop (n + 1) keys) return)
    ∙ ap (λ (xs : List ℕ). Some (xs, drop (n + 1) keys)) (append-nil (take n keys))

other_key : (key : ℕ) → key ≢ 0x0D → nat_eq key 0x0D ≡ false
other_key key ne = grind (arith, nat_tests)

-- another key
pub line_next : (keys : List ℕ) (n : ℕ) → n < length keys → get_or keys n 0 ≢ 0x0D →
    line_of keys ≡ behind (take n keys) (line_of (drop n keys)) → line_of keys ≡ behind (take (n + 1) keys) (line_of (drop (n + 1) keys))
line_next keys n small ne line =
    line ∙ ap (λ (xs : List ℕ). behind (take n keys) (line_of xs)) (rest_is keys n small)
    ∙ ap (λ (o : Option (List ℕ × List ℕ)). behind (take n keys) o)
    (other (get_or keys n 0) (drop (n + 1) keys) (other_key (get_or keys n 0) ne))
    ∙ behind_twice (take n keys) (get_or keys n 0 ∷ []) (line_of (drop (n + 1) keys))
    ∙ ap (λ (xs : List ℕ). behind xs (line_of (drop (n + 1) keys))) (sym (take_more keys n 0 small))

-- none is left
pub line_none : (keys : List ℕ) (n : ℕ) → length keys ≤ n → line_of keys ≡ behind (take n keys) (line_of (drop n keys)) →
    line_of keys ≡ None
unfolding line_of
line_none keys n past line = line ∙ ap (λ (xs : List ℕ). behind (take n keys) (line_of xs)) (drop_all n keys past)
