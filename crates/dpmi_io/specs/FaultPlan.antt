-- Which calls of a shelf or a sink in memory are to fail. Source: own.
use Rattle.std.specs.{Prelude.{◌+◌, ◌++◌, ◌∷◌, [], ℕ, List, min, Bool, nat_eq}, List.{list_any}}
use Rattle.dpmi_io.specs.Causes.{greatest}

-- the numbers of the calls that are to fail, how many calls there were, and how many of them failed
pub record Plan : Type 0 where
  pub listed : List ℕ
  pub calls : ℕ
  pub faults : ℕ

-- the plan with no call listed and none counted
abbrev pub new_plan : Plan
new_plan = record { listed = []; calls = 0; faults = 0 }

-- the plan with one call listed more
abbrev pub after_listing : Plan → ℕ → Plan
after_listing p call = record p { listed = p.listed ++ call ∷ [] }

-- the number of the next call: they count from 1, up to the greatest u64
abbrev pub next_call : Plan → ℕ
next_call p = min (p.calls + 1) greatest

-- the next call is one of those listed
abbrev pub is_listed : Plan → Bool
is_listed p = list_any (λ call. nat_eq call (next_call p)) p.listed

-- the plan after a call that did not fail
abbrev pub after_success : Plan → Plan
after_success p = record p { calls = next_call p }

-- the plan after one failure more
abbrev pub after_fault : Plan → Plan
after_fault p = record p { faults = min (p.faults + 1) greatest }
