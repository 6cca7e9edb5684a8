-- The block of DOS memory that a selector names. Source: DPMI 0.9, INT 31h functions 0100h to 0102h; that it is the first of the block's
-- selectors is own.
use Rattle.std.specs.Prelude.{◌≡◌, ◌<◌, ℕ, true, None, length}
use Rattle.client_world.specs.{declared.descriptors.Origin.TheVariants.{Dos}, DosMemory.{block_segment, is_dpmi}, Selector.{index_of}}
use Rattle.client_world.specs.{Selector.{is_local, row_at_index}, Services.{ax, dx}, Soundness.{HasOrigin, IsRunOf, descriptors_for}}
use Rattle.client_world.specs.World.{World}
use Rattle.dos_blocks.specs.Blocks.{entry_of_place}

-- the block at a place is one of function 0100h, and its descriptors lie in a row from the selector's on
pub record NamesBlock (w : World) (sel place : ℕ) : Type 0 where
  pub local : is_local sel ≡ true
  pub within : place < length w.arena
  pub made : is_dpmi (entry_of_place w.arena place).state ≡ true
  pub run : IsRunOf w.descriptors (Dos (block_segment (entry_of_place w.arena place))) (index_of sel)
      (descriptors_for (entry_of_place w.arena place).paras)

-- a block of that many paragraphs is at the segment in AX, and the selector in DX names it
pub record HasNewBlock (w : World) (paras : ℕ) : Type 0 where
  pub place : ℕ
  pub named : NamesBlock w (dx w) place
  pub segment : block_segment (entry_of_place w.arena place) ≡ ax w
  pub size : (entry_of_place w.arena place).paras ≡ paras

-- the descriptors of the block at a segment are free, and all others stay
pub record LosesDescriptors (w v : World) (segment : ℕ) : Type 0 where
  pub gone : (index : ℕ) → HasOrigin (row_at_index w.descriptors index) (Dos segment) → row_at_index v.descriptors index ≡ None
  pub rest : (index : ℕ) → ¬ HasOrigin (row_at_index w.descriptors index) (Dos segment) →
      row_at_index v.descriptors index ≡ row_at_index w.descriptors index
