-- The handles of watchpoints. Source: DPMI 0.9, "Debug Register Support".
use Rattle.std.specs.Prelude.{ℕ, ◌-◌, Bool, List, None, is_none, ◌||◌, nat_eq, nat_lt, if◌then◌else◌, slice_index_or}
use Rattle.std.specs.declared.option.Option.{Option}
use Rattle.client_world.specs.{declared.limits.TheConstants.{WATCHES}, declared.watchpoints.Watch.{Watch}}
use Rattle.service_rows.specs.FirstIndex.{first_index}

-- the watchpoint of a handle; the handles are 1 to 16
abbrev pub watch_at : List (Option Watch) → ℕ → Option Watch
watch_at watches handle = if nat_eq handle 0 || nat_lt WATCHES handle then None else slice_index_or watches (handle - 1) None

-- the handle is free
abbrev pub is_free_handle : List (Option Watch) → ℕ → Bool
is_free_handle watches handle = is_none (watch_at watches handle)

-- the lowest handle that is free
unfoldable pub lowest_free : List (Option Watch) → Option ℕ
lowest_free watches = first_index (is_free_handle watches) 1 WATCHES
