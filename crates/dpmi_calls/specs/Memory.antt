-- Bytes of memory as the client sees them. Source: own.
use Rattle.std.specs.Prelude.{ℕ, false, if◌then◌else◌}
use Rattle.client_world.specs.{Access.{byte_of, may_touch, place_of}, World.{World}}
use Rattle.dpmi_calls.specs.declared.memory.TheConstants.{NOT_THERE}

-- the byte at a linear address; or that the client may read none there
abbrev pub seen : World → ℕ → ℕ
seen w linear = if may_touch (place_of w linear) false then byte_of w (place_of w linear) else NOT_THERE
