-- Long lists, given by a length and by what is at each place. They stay closed, since the length may be large.
-- Source: own.
use Rattle.std.specs.{Prelude.{ℕ, List, map, replicate}, List.{range_with_len}}

-- f 0, f 1 and so on, n of them
unfoldable pub listed : {X : Type 0} → ℕ → (ℕ → X) → List X
listed n f = map f (range_with_len 0 n)

-- n zero bytes
unfoldable pub zeros : ℕ → List ℕ
zeros n = replicate n 0

-- n copies of a byte
unfoldable pub copies : ℕ → ℕ → List ℕ
copies n v = replicate n v
