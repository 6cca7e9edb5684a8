-- The frames of the page budget, which follow the host's. Source: own.
use Rattle.std.specs.Prelude.{◌≡◌, ◌≢◌, ℕ, ◌+◌, ◌-◌, ◌*◌, ◌<◌, ◌≤◌, ◌^◌, List, length, slice_index}
use Rattle.client_world.specs.declared.host_frames.TheConstants.{PAGE_SIZE, PAGE_DIRECTORY, TAKEN_FRAMES, BUDGET_FRAMES}
use Rattle.client_world.specs.declared.limits.TheConstants.{MAX_PAGES}
use Rattle.page_tables.specs.{Walk.{IsFrame, frame_of, table_entry}, Mapping.{IsMapped}}

-- the memory has the frames of the host, and after them a budget that its taken bytes have room for
pub record HasBudget (bytes : List ℕ) : Type 0 where
  pub host : PAGE_SIZE * BUDGET_FRAMES ≤ length bytes
  pub most : length bytes ≤ PAGE_SIZE * (BUDGET_FRAMES + MAX_PAGES)

-- the frame is one of the budget
pub record IsBudgetFrame (bytes : List ℕ) (frame : ℕ) : Type 0 where
  pub from : BUDGET_FRAMES ≤ frame
  pub inside : IsFrame bytes frame

-- the address of its taken byte
abbrev pub taken_place : ℕ → ℕ
taken_place frame = PAGE_SIZE * TAKEN_FRAMES + (frame - BUDGET_FRAMES)

-- its taken byte is 0
abbrev pub IsFree : List ℕ → ℕ → Type 0
IsFree bytes frame = slice_index bytes (taken_place frame) ≡ 0

-- its taken byte isn't 0
abbrev pub IsTaken : List ℕ → ℕ → Type 0
IsTaken bytes frame = slice_index bytes (taken_place frame) ≢ 0

-- each frame of the budget is taken
abbrev pub AllTaken : List ℕ → Type 0
AllTaken bytes = (frame : ℕ) → IsBudgetFrame bytes frame → IsTaken bytes frame

-- each frame of the budget is free
abbrev pub AllFree : List ℕ → Type 0
AllFree bytes = (frame : ℕ) → IsBudgetFrame bytes frame → IsFree bytes frame

-- no page lies in the frame
abbrev pub IsNamedNowhere : List ℕ → ℕ → Type 0
IsNamedNowhere bytes frame = (lin : ℕ) → lin < 2 ^ 32 → IsMapped bytes lin →
    frame_of (table_entry bytes PAGE_DIRECTORY lin) ≢ frame
