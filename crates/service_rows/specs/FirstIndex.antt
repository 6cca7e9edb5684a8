-- The first index that passes a test: a first gap of pages, the lowest free handle. Source: own.
use Rattle.std.specs.{Prelude.{ℕ, zero, suc, ◌+◌, Bool, None, Some, if◌then◌else◌}, declared.option.Option.{Option}}

-- the first such index of a run, given its first index and its length
unfoldable pub first_index : (ℕ → Bool) → ℕ → ℕ → Option ℕ
first_index test index zero = None
first_index test index (suc left) = if test index then Some index else first_index test (index + 1) left
