-- The blocks that a memory holds, and a change of them alone. Source: own.
use Rattle.std.specs.{Prelude.{◌≡◌, ◌≢◌, ◌<◌, ℕ, suc, Bool, List, None, slice_index_or, slice_set}, declared.option.Option.{Option}}
use Rattle.client_world.specs.{declared.place.Place.{Place}, declared.registers.Mode.{Mode}, declared.registers.Regs.{Regs}}
use Rattle.client_world.specs.{declared.registers.Width.{Width}, Access.{IsHeldIn}, Soundness.{SoundBlocks, HoldBytes}}
use Rattle.client_world.specs.{declared.limits.TheConstants.{MAX_BLOCKS}, World.{MemoryBlock}}
use Rattle.host_memory.specs.{Holds.{Holds}, Layout.{world_of, address_of, rows_part, handles_part, tables_part, locks_part, budget_part}}
use Rattle.host_memory.specs.Layout.{blocks_in}
use Rattle.block_memory.specs.BlockSizes.{CanHold, CanMove, CanSize, HasPages}

-- the blocks that a memory holds, for a page budget
abbrev pub blocks_held : List ℕ → ℕ → List (Option MemoryBlock)
blocks_held b budget = blocks_in (handles_part b) (tables_part b) (locks_part b) (budget_part b budget)

-- the memory holds sound blocks
pub record HoldsSoundBlocks (b : List ℕ) (budget : ℕ) : Type 0 where
  pub holds : Holds b budget
  pub sound : SoundBlocks (blocks_held b budget) budget
  pub fits : HoldBytes (blocks_held b budget)

-- the memory holds these blocks in place of its former ones, and they are sound; the rest of its world and the descriptor rows stay, and
-- each place that is held before and after keeps its address
pub record ReplacesBlocks (b c : List ℕ) (budget : ℕ) (blocks : List (Option MemoryBlock)) : Type 0 where
  pub after : HoldsSoundBlocks c budget
  pub are : blocks_held c budget ≡ blocks
  pub world : (mode : Mode) (regs : Regs) (vif : Bool) (width : Option Width) →
      world_of c budget mode regs vif width ≡ record (world_of b budget mode regs vif width) { blocks = blocks }
  pub rows : rows_part c ≡ rows_part b
  pub addresses : (p : Place) → IsHeldIn (blocks_held b budget) p → IsHeldIn blocks p → address_of c p ≡ address_of b p

-- the blocks with another one, or none, at an index
abbrev pub with_at : List (Option MemoryBlock) → ℕ → (Option MemoryBlock → Option MemoryBlock) → List (Option MemoryBlock)
with_at blocks place change = slice_set blocks place (change (slice_index_or blocks place None))

-- for the page budget of the memory, the block at an index changes and all else stays
abbrev pub ReplacesBlock : List ℕ → List ℕ → ℕ → (Option MemoryBlock → Option MemoryBlock) → Type 0
ReplacesBlock b c place change =
    (budget : ℕ) → Holds b budget → ReplacesBlocks b c budget (with_at (blocks_held b budget) place change)

-- in the memory the block at an index may grow from a number of pages to another
pub record CanHoldIn (b : List ℕ) (place base from to : ℕ) : Type 0 where
  pub budget : ℕ
  pub holds : HoldsSoundBlocks b budget
  pub can : CanHold (blocks_held b budget) budget place base from to

-- in the memory there is a block of that many pages at an index
pub record HasPagesIn (b : List ℕ) (place base pages : ℕ) : Type 0 where
  pub budget : ℕ
  pub holds : HoldsSoundBlocks b budget
  pub has : HasPages (blocks_held b budget) place base pages

-- in the memory that block may move to another linear address
pub record CanMoveIn (b : List ℕ) (place from base pages : ℕ) : Type 0 where
  pub budget : ℕ
  pub holds : HoldsSoundBlocks b budget
  pub has : HasPages (blocks_held b budget) place from pages
  pub can : CanMove (blocks_held b budget) place base pages

-- in the memory there is a block at an index
pub record HasBlockIn (b : List ℕ) (place : ℕ) : Type 0 where
  pub budget : ℕ
  pub holds : HoldsSoundBlocks b budget
  pub within : place < MAX_BLOCKS
  pub held : slice_index_or (blocks_held b budget) place None ≢ None

-- in the memory the block at an index may get that linear address and that many pages
pub record CanSizeIn (b : List ℕ) (place base pages : ℕ) : Type 0 where
  pub budget : ℕ
  pub holds : HoldsSoundBlocks b budget
  pub within : place < MAX_BLOCKS
  pub can : CanSize (blocks_held b budget) budget (suc place) base pages
