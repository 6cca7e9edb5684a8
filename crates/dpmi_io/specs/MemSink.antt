-- What a sink in memory holds, and which of its calls fail. Source: own.
use Rattle.std.specs.Prelude.{◌||◌, ◌++◌, ◌-◌, [], ℕ, List, length, min, Bool, nat_eq}
use Rattle.dpmi_io.specs.FaultPlan.{Plan, new_plan, is_listed, after_success, after_fault}

-- the bytes taken, for how many more there is room, how many a put takes at most,
-- and the calls that are to fail
pub record MemSinkState : Type 0 where
  pub taken : List ℕ
  pub room : ℕ
  pub piece : ℕ
  pub plan : Plan

-- a sink that has taken nothing, with so much room and pieces of that length
abbrev pub new_sink : ℕ → ℕ → MemSinkState
new_sink room piece = record { taken = []; room = room; piece = piece; plan = new_plan }

-- the next put is to fail, or has no room
abbrev pub put_fails : MemSinkState → Bool
put_fails s = is_listed s.plan || nat_eq s.room 0

-- how many of these bytes a put takes that does not fail
abbrev pub put_count : MemSinkState → List ℕ → ℕ
put_count s bytes = min s.piece (min s.room (length bytes))

-- the sink after a put that took these bytes
abbrev pub after_put : MemSinkState → List ℕ → MemSinkState
after_put s more =
    record s { taken = s.taken ++ more; room = s.room - length more; plan = after_success s.plan }

-- the sink after a put that failed
abbrev pub after_failed_put : MemSinkState → MemSinkState
after_failed_put s = record s { plan = after_fault (after_success s.plan) }
