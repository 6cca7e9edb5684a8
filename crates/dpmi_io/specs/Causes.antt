-- When a count of faults has risen. Source: own.
use Rattle.std.specs.Prelude.{◌≤◌, ◌+◌, ◌-◌, ◌^◌, ℕ, min}

-- the greatest number of a count: the greatest u64
abbrev pub greatest : ℕ
greatest = 2 ^ 64 - 1

-- the count is greater now than before, or is at its end
abbrev pub Rose : ℕ → ℕ → Type 0
Rose before now = min (before + 1) greatest ≤ now
