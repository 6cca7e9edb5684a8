-- What the calls on descriptors answer, from what the table's rows say: a row that leaves the world sound fits, and a free run of the
-- memory's rows is one of the world's.
use Rattle.std.proofs.Common.{◌≡◌, ℕ, ◌<◌, ◌≤◌, ◌⊎◌, inl, inr, Bool, List, slice_set, subst, arith, sym, Option, None, Some, IfSome}
use Rattle.std.proofs.{Common.{get_or-set_same, length-set}, lemmas.List.{get_or_past}}
use Rattle.client_world.specs.{declared.host_frames.TheConstants.{DESCRIPTORS, FIRST_FREE_DESCRIPTOR}, declared.registers.Mode.{Mode}}
use Rattle.client_world.specs.{declared.registers.Regs.{Regs}, declared.registers.Width.{Width}, FreeRuns.{IsFreeRunOf, IsFirstFreeRunOf}}
use Rattle.client_world.specs.{Selector.{Row, FitsRow, row_at_index}, Soundness.{IsSound, SoundDescriptors}, World.{World}}
use Rattle.desc_table.specs.Rows.{IsFreeRun, IsFirstFreeRun}
use Rattle.host_memory.specs.Layout.{world_of}
use Rattle.host_memory.proofs.RowWrites.{first_run_in_world, no_run_in_world, no_run_in_memory}

pub fits_of_sound : (rows : List Row) (index : ℕ) (row : Row) → SoundDescriptors (slice_set rows index row) → index < DESCRIPTORS →
    FitsRow row
fits_of_sound rows index row sound small =
    let size = sound.indices in
    let same = length-set rows index row in
    subst FitsRow (get_or-set_same rows index row None (omega arith)) (sound.fits index)

-- from the table's end on there is none
pub none_beyond : (w : World) (index : ℕ) → IsSound w → DESCRIPTORS ≤ index → None ≡ row_at_index w.descriptors index
none_beyond w index sound beyond = let size = sound.descriptors.indices in sym (get_or_past w.descriptors index None (omega arith))

pub first_run : (b : List ℕ) (budget : ℕ) (mode : Mode) (regs : Regs) (vif : Bool) (width : Option Width) (n : ℕ) (answer : Option ℕ) →
    IfSome answer (λ first. IsFirstFreeRun b first n) →
    IfSome answer (λ first. IsFirstFreeRunOf (world_of b budget mode regs vif width).descriptors first n)
first_run b budget mode regs vif width n None h = h
first_run b budget mode regs vif width n (Some first) h = first_run_in_world b budget mode regs vif width first n h

-- no run is asked for, or none begins from index 64 on
abbrev pub NoRun : List ℕ → ℕ → Type 0
NoRun b n = (n ≡ 0) ⊎ ((first : ℕ) → FIRST_FREE_DESCRIPTOR ≤ first → ¬ IsFreeRun b first n)

abbrev pub NoRunOf : List Row → ℕ → Type 0
NoRunOf rows n = (n ≡ 0) ⊎ ((first : ℕ) → FIRST_FREE_DESCRIPTOR ≤ first → ¬ IsFreeRunOf rows first n)

pub none_in_world : (b : List ℕ) (budget : ℕ) (mode : Mode) (regs : Regs) (vif : Bool) (width : Option Width) (n : ℕ) → NoRun b n →
    NoRunOf (world_of b budget mode regs vif width).descriptors n
none_in_world b budget mode regs vif width n h = elim h [
  | inl zero ↦ inl zero
  | inr none ↦ inr (no_run_in_world b budget mode regs vif width n none)
]

pub none_in_memory : (b : List ℕ) (budget : ℕ) (mode : Mode) (regs : Regs) (vif : Bool) (width : Option Width) (n : ℕ) →
    NoRunOf (world_of b budget mode regs vif width).descriptors n → NoRun b n
none_in_memory b budget mode regs vif width n h = elim h [
  | inl zero ↦ inl zero
  | inr none ↦ inr (no_run_in_memory b budget mode regs vif width n none)
]
