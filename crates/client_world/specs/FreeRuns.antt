-- Runs of free indices of the client's table. Source: DPMI 0.9, INT 31h function 0000h; that runs are sought from index 64 on is own.
use Rattle.std.specs.Prelude.{◌≡◌, ℕ, ◌+◌, ◌<◌, ◌≤◌, List, None}
use Rattle.client_world.specs.{declared.host_frames.TheConstants.{DESCRIPTORS, FIRST_FREE_DESCRIPTOR}, Selector.{Row, row_at_index}}

-- the n indices from one on are there and free
pub record IsFreeRunOf (rows : List Row) (first n : ℕ) : Type 0 where
  pub within : first + n ≤ DESCRIPTORS
  pub free : (index : ℕ) → first ≤ index → index < first + n → row_at_index rows index ≡ None

-- and no such run begins below that index, from 64 on
pub record IsFirstFreeRunOf (rows : List Row) (first n : ℕ) : Type 0 where
  pub from : FIRST_FREE_DESCRIPTOR ≤ first
  pub run : IsFreeRunOf rows first n
  pub least : (below : ℕ) → FIRST_FREE_DESCRIPTOR ≤ below → below < first → ¬ IsFreeRunOf rows below n
