-- What is free: the table of function 0500h. Source: DPMI 0.9, INT 31h function 0500h; the numbers are own.
use Rattle.std.specs.Prelude.{◌≡◌, ◌≢◌, ◌≤◌, ◌<◌, ℕ, zero, suc, ◌+◌, ◌-◌, ◌*◌, ◌%◌, is_some, if◌then◌else◌, List, [], ◌∷◌, None}
use Rattle.std.specs.declared.option.Option.{Option}
use Rattle.client_world.specs.{declared.host_frames.TheConstants.{PAGE_SIZE}, declared.memory_map.TheConstants.{BLOCK_REGION_PAGES}}
use Rattle.client_world.specs.{Soundness.{pages_of_blocks}, World.{World, MemoryBlock}}
use Rattle.guest_ram.specs.{Bytes.{dword_bytes, put}, Listed.{copies}}
use Rattle.block_memory.specs.BlockSizes.{locked_pages}
use Rattle.block_services.specs.Gaps.{first_gap}

-- the greatest number of pages, up to a limit, for which a new block would find a free run
unfoldable pub largest_new_block : List (Option MemoryBlock) → ℕ → ℕ
largest_new_block blocks zero = 0
largest_new_block blocks (suc n) = if is_some (first_gap blocks (suc n)) then suc n else largest_new_block blocks n

-- a number of pages is the greatest up to n for which a new block would find a free run
pub record IsLargest (blocks : List (Option MemoryBlock)) (n most : ℕ) : Type 0 where
  pub within : most ≤ n
  pub free : 0 < most → first_gap blocks most ≢ None
  pub others : (pages : ℕ) → most < pages → pages ≤ n → first_gap blocks pages ≡ None

-- bytes with doublewords written from a place, each modulo 2^32
abbrev pub with_dwords : List ℕ → ℕ → List ℕ → List ℕ
with_dwords bytes at [] = bytes
with_dwords bytes at (v ∷ vs) = with_dwords (put bytes at (dword_bytes (v % 0x100000000))) (at + 4) vs

-- the numbers of the table: the largest block in bytes, twice in pages, the pages of the block region, the budget's pages that aren't
-- locked, those that are free, the budget, the region's pages that are free, and no paging file
abbrev pub free_numbers : World → ℕ → List ℕ
free_numbers w most =
    (PAGE_SIZE * most) ∷
    most ∷
    most ∷
    BLOCK_REGION_PAGES ∷
    (w.budget - locked_pages w.blocks) ∷
    (w.budget - pages_of_blocks w.blocks) ∷
    w.budget ∷
    (BLOCK_REGION_PAGES - pages_of_blocks w.blocks) ∷
    0 ∷ []

-- the table of 30h bytes; those after the numbers are FFh
unfoldable pub free_table : World → ℕ → List ℕ
free_table w most = with_dwords (copies 0x30 0xFF) 0 (free_numbers w most)
