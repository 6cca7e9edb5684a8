-- Counts of bytes, and sums over a list. Source: own.
use Rattle.std.specs.Prelude.{ℕ, ◌+◌, List, [], ◌∷◌, nat_eq, if◌then◌else◌}

-- how many of the bytes aren't 0
abbrev pub used : List ℕ → ℕ
used [] = 0
used (x ∷ xs) = (if nat_eq x 0 then 0 else 1) + used xs

-- the numbers that f gives to the items, added up
abbrev pub total : {X : Type 0} → (X → ℕ) → List X → ℕ
total f [] = 0
total f (x ∷ xs) = f x + total f xs
