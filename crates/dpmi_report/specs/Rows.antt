-- Lines written one after another. Source: own.
use Rattle.std.specs.Prelude.{ℕ, zero, suc, List, [], ◌++◌}

-- what is written for 0, 1 and so on, n of them. It stays closed, since n may be large
unfoldable pub up_to : (ℕ → List ℕ) → ℕ → List ℕ
up_to row zero = []
up_to row (suc n) = up_to row n ++ row n
