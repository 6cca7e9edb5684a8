-- The search for a run of free rows.
use Rattle.std.proofs.Common.{arith, ◌≡◌, ◌≤◌, ◌<◌, ◌+◌, inl, inr, ℕ, true, false, Some, None, List, refl, sym, ◌∙◌, ap}
use Rattle.std.proofs.lemmas.Bool.{cases_lt, true≢false}
use Rattle.std.specs.Option.{is_some}
use Rattle.client_world.specs.{declared.host_frames.TheConstants.{DESCRIPTORS, FIRST_FREE_DESCRIPTOR}, Selector.{Row}}
use Rattle.desc_table.specs.Rows.{row_at, row_address, IsFreeRun}

-- no run of n begins below an index, from 64 on
abbrev pub NoneBelow : List ℕ → ℕ → ℕ → Type 0
NoneBelow bytes n start = (below : ℕ) → FIRST_FREE_DESCRIPTOR ≤ below → below < start → ¬ IsFreeRun bytes below n

-- the rows from an index up to another are free
abbrev pub FreeBetween : List ℕ → ℕ → ℕ → Type 0
FreeBetween bytes from to = (index : ℕ) → from ≤ index → index < to → row_at bytes (row_address index) ≡ None

-- a row that is free
pub none_of : (row : Row) → is_some row ≡ false → row ≡ None
none_of None free = refl
none_of (Some row) free = cc

-- one more free row
pub free_more : (bytes : List ℕ) (start index : ℕ) → FreeBetween bytes start index →
    is_some (row_at bytes (row_address index)) ≡ false → FreeBetween bytes start (index + 1)
free_more bytes start index free next k from to = elim (cases_lt k index) [
  | inl below ↦ free k from below
  | inr above ↦ (let e : k ≡ index = omega arith in
      ap (λ (i : ℕ). row_at bytes (row_address i)) e ∙ none_of (row_at bytes (row_address index)) next)
]

-- a row that is taken lies in each run that begins from `start` up to it
pub none_below_taken : (bytes : List ℕ) (n start index : ℕ) → NoneBelow bytes n start → index < start + n →
    is_some (row_at bytes (row_address index)) ≡ true → NoneBelow bytes n (index + 1)
none_below_taken bytes n start index least short taken below from to run = elim (cases_lt below start) [
  | inl under ↦ least below from under run
  | inr above ↦ true≢false (sym taken ∙ ap is_some (run.free index (omega arith) (omega arith)))
]

-- the rows from `start` to the last are fewer than n
pub none_at_all : (bytes : List ℕ) (n start : ℕ) → NoneBelow bytes n start → DESCRIPTORS < start + n →
    (first : ℕ) → FIRST_FREE_DESCRIPTOR ≤ first → ¬ IsFreeRun bytes first n
none_at_all bytes n start least short first from run = elim (cases_lt first start) [
  | inl below ↦ least first from below run
  | inr above ↦ (let within = run.within in omega arith)
]
