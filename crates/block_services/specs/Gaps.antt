-- Pages of the block region that no memory block has, and handles that none has. Source: own.
use Rattle.std.specs.Prelude.{ℕ, ◌+◌, ◌*◌, Bool, false, ◌&&◌, not, nat_eq, nat_lt, nat_le, is_none, List, None, Some}
use Rattle.std.specs.declared.option.Option.{Option}
use Rattle.client_world.specs.{declared.blocks.BlockRow.{BlockRow}, declared.host_frames.TheConstants.{PAGE_SIZE}}
use Rattle.client_world.specs.{declared.limits.TheConstants.{MAX_BLOCKS}, declared.memory_map.TheConstants.{BLOCK_REGION, BLOCK_REGION_END}}
use Rattle.client_world.specs.{declared.memory_map.TheConstants.{BLOCK_REGION_PAGES}, World.{MemoryBlock, block_at}}
use Rattle.block_memory.specs.BlockSizes.{row_seen}
use Rattle.service_rows.specs.FirstIndex.{first_index}

-- the linear address of a page of the block region
abbrev pub page_address : ℕ → ℕ
page_address page = BLOCK_REGION + PAGE_SIZE * page

-- a block, given by its address and its number of pages, overlaps a run of pages from an address
abbrev pub overlaps : Option BlockRow → ℕ → ℕ → Bool
overlaps None base pages = false
overlaps (Some row) base pages = nat_lt row.base (base + PAGE_SIZE * pages) && nat_lt base (row.base + PAGE_SIZE * row.pages)

-- the block of a handle other than `own` overlaps a run of pages
abbrev pub is_in_way : List (Option MemoryBlock) → ℕ → ℕ → ℕ → ℕ → Bool
is_in_way blocks own base pages handle = not (nat_eq handle own) && overlaps (row_seen (block_at blocks handle)) base pages

-- the lowest handle of such a block
unfoldable pub block_in_way : List (Option MemoryBlock) → ℕ → ℕ → ℕ → Option ℕ
block_in_way blocks own base pages = first_index (is_in_way blocks own base pages) 1 MAX_BLOCKS

-- a run of pages ends in the block region, and no block but that of handle `own` overlaps it
unfoldable pub is_gap : List (Option MemoryBlock) → ℕ → ℕ → ℕ → Bool
is_gap blocks own base pages = nat_le (base + PAGE_SIZE * pages) BLOCK_REGION_END && is_none (block_in_way blocks own base pages)

-- the first page of the block region from which that many pages belong to no block
unfoldable pub first_gap : List (Option MemoryBlock) → ℕ → Option ℕ
first_gap blocks pages = first_index (λ page. is_gap blocks 0 (page_address page) pages) 0 BLOCK_REGION_PAGES

-- the lowest handle that isn't held
unfoldable pub lowest_handle : List (Option MemoryBlock) → Option ℕ
lowest_handle blocks = first_index (λ handle. is_none (block_at blocks handle)) 1 MAX_BLOCKS
