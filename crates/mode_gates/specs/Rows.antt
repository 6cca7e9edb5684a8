-- Free rows of the client's table, for contracts of private functions alone.
use Rattle.std.specs.Prelude.{◌≡◌, ◌≤◌, ℕ, List, None}
use Rattle.client_world.specs.Selector.{Row, row_at_index}

-- from an index on there are none
abbrev pub AreFreeFrom : List Row → ℕ → Type 0
AreFreeFrom rows first = (index : ℕ) → first ≤ index → row_at_index rows index ≡ None
