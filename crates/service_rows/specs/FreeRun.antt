-- The first free run as a function. Source: DPMI 0.9, INT 31h function 0000h; that runs are sought from index 64 on is own.
use Rattle.std.specs.Prelude.{ℕ, zero, suc, ◌+◌, ◌-◌, Bool, true, ◌&&◌, List, None, is_none, nat_eq, nat_le, if◌then◌else◌}
use Rattle.std.specs.declared.option.Option.{Option}
use Rattle.client_world.specs.{declared.host_frames.TheConstants.{DESCRIPTORS, FIRST_FREE_DESCRIPTOR}, Selector.{Row, row_at_index}}
use Rattle.service_rows.specs.FirstIndex.{first_index}

-- the n rows from an index on are free
unfoldable pub are_free : List Row → ℕ → ℕ → Bool
are_free rows first zero = true
are_free rows first (suc n) = is_none (row_at_index rows first) && are_free rows (first + 1) n

-- and the table has them
abbrev pub is_free_run : List Row → ℕ → ℕ → Bool
is_free_run rows first n = nat_le (first + n) DESCRIPTORS && are_free rows first n

-- the first of the indices, from 64 on, at which n free rows in a row begin
unfoldable pub first_free_run : List Row → ℕ → Option ℕ
first_free_run rows n =
    if nat_eq n 0 then None
    else first_index (λ first. is_free_run rows first n) FIRST_FREE_DESCRIPTOR (DESCRIPTORS - FIRST_FREE_DESCRIPTOR)
