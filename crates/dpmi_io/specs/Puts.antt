-- What a call puts into an output. Source: own.
use Rattle.std.specs.Prelude.{ℕ, ◌≡◌, List, Result, OnOk, OnErr}
use Rattle.dpmi_io.specs.{Causes.{Rose}, Content.{Shown, Gains, GainsPart}}

-- the call put this text, and the count of faults stayed; or it failed, put some first bytes of the text, and the count rose. What the
-- output shows of what it took and its count are functions of the output, which is given before and after the call
pub record Puts {O A E : Type 0} (result : Result A E) (taken : O → Shown) (faults : O → ℕ) (before now : O) (text : List ℕ) : Type 0 where
  pub whole : OnOk result (Gains (taken before) (taken now) text)
  pub part : OnErr result (GainsPart (taken before) (taken now) text)
  pub quiet : OnOk result (faults now ≡ faults before)
  pub failed : OnErr result (Rose (faults before) (faults now))
