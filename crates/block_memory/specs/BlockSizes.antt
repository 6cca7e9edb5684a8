-- Memory blocks made, and blocks with more pages or fewer. Source: DPMI 0.9, INT 31h functions 0501h to 0503h; own.
use Rattle.std.specs.Prelude.{◌≡◌, ◌≢◌, ◌⊎◌, ℕ, ◌+◌, ◌-◌, ◌*◌, ◌/◌, ◌%◌, ⊤, ◌<◌, ◌≤◌, min, nat_eq, nat_lt, if◌then◌else◌, List, [], ◌∷◌}
use Rattle.std.specs.{Prelude.{◌++◌, None, Some, take, length, slice_index, slice_index_or, slice_set}, List.{range_with_len}}
use Rattle.std.specs.declared.option.Option.{Option}
use Rattle.client_world.specs.{declared.blocks.BlockRow.{BlockRow}, declared.host_frames.TheConstants.{PAGE_SIZE}}
use Rattle.client_world.specs.{declared.limits.TheConstants.{MAX_BLOCKS}, declared.memory_map.TheConstants.{BLOCK_REGION, BLOCK_REGION_END}}
use Rattle.client_world.specs.{declared.place.Place.{Place}, declared.place.Place.TheVariants.{Dos, Block, Host, Nothing}}
use Rattle.client_world.specs.{Access.{bytes_of_block}, Soundness.{pages_of_block, pages_of_blocks}, World.{MemoryBlock, base_of_block}}
use Rattle.client_world.specs.World.{block_at, with_block_at}
use Rattle.guest_ram.specs.{Count.{used, total}, Listed.{zeros, copies, listed}, Bytes.{put, region}}
use Rattle.host_memory.specs.Layout.{pages_of, first_page_of, lock_of}

-- the lock counts of a block, if there is one
abbrev pub locks_of_block : Option MemoryBlock → List ℕ
locks_of_block None = []
locks_of_block (Some block) = block.locks

-- a block of zero bytes, none of its pages locked
abbrev pub fresh_block : ℕ → ℕ → MemoryBlock
fresh_block base pages = record { base = base; bytes = zeros (PAGE_SIZE * pages); locks = zeros pages }

-- a block, or none, with zero pages after its own, none of those locked
abbrev pub longer : ℕ → Option MemoryBlock → ℕ → MemoryBlock
longer base block more = record {
  base = base;
  bytes = bytes_of_block block ++ zeros (PAGE_SIZE * more);
  locks = locks_of_block block ++ zeros more;
}

-- the first pages of a block
abbrev pub shorter : Option MemoryBlock → ℕ → Option MemoryBlock
shorter None pages = None
shorter (Some block) pages =
    if nat_eq pages 0 then None
    else Some (record { base = block.base; bytes = take (PAGE_SIZE * pages) block.bytes; locks = take pages block.locks })

-- at index `place`, the handle less 1, there is a block of `from` pages at a linear address, or none and `from` is 0; with `to` pages there
-- the blocks would be sound
pub record CanHold (blocks : List (Option MemoryBlock)) (budget place base from to : ℕ) : Type 0 where
  pub handles : length blocks ≡ MAX_BLOCKS
  pub within : place < MAX_BLOCKS
  pub pages : pages_of_block (slice_index_or blocks place None) ≡ from
  pub based : from ≢ 0 → base_of_block (slice_index_or blocks place None) ≡ base
  pub whole : base % PAGE_SIZE ≡ 0
  pub above : BLOCK_REGION ≤ base
  pub below : base + PAGE_SIZE * to ≤ BLOCK_REGION_END
  pub apart : (other : ℕ) (block : MemoryBlock) → other ≢ place → slice_index_or blocks other None ≡ Some block →
      (base + PAGE_SIZE * to ≤ block.base) ⊎ (block.base + length block.bytes ≤ base)
  pub room : pages_of_blocks blocks + to ≤ budget + from

-- at index `place`, the handle less 1, there is a block of that many pages at a linear address of the block region, or none and the number
-- is 0
pub record HasPages (blocks : List (Option MemoryBlock)) (place base pages : ℕ) : Type 0 where
  pub handles : length blocks ≡ MAX_BLOCKS
  pub within : place < MAX_BLOCKS
  pub count : pages_of_block (slice_index_or blocks place None) ≡ pages
  pub based : pages ≢ 0 → base_of_block (slice_index_or blocks place None) ≡ base
  pub above : BLOCK_REGION ≤ base
  pub below : base + PAGE_SIZE * pages ≤ BLOCK_REGION_END

-- a block, or none, with that many zero pages after its own
unfoldable pub block_with_zero_pages : ℕ → Option MemoryBlock → ℕ → Option MemoryBlock
block_with_zero_pages base block more = if nat_eq more 0 then block else Some (longer base block more)

-- a block of that many pages may be made at a linear address
pub record CanMake (blocks : List (Option MemoryBlock)) (budget base pages : ℕ) : Type 0 where
  pub some : 0 < pages
  pub whole : base % PAGE_SIZE ≡ 0
  pub above : BLOCK_REGION ≤ base
  pub below : base + PAGE_SIZE * pages ≤ BLOCK_REGION_END
  pub apart : (handle : ℕ) (block : MemoryBlock) → block_at blocks handle ≡ Some block →
      (base + PAGE_SIZE * pages ≤ block.base) ⊎ (block.base + length block.bytes ≤ base)
  pub room : pages_of_blocks blocks + pages ≤ budget

-- a block at another linear address
abbrev pub at_base : ℕ → Option MemoryBlock → Option MemoryBlock
at_base base None = None
at_base base (Some block) = Some (record { base = base; bytes = block.bytes; locks = block.locks })

-- a block at that address with that many pages: its own first ones with their lock counts, and then zero pages that aren't locked
unfoldable pub sized_block : ℕ → ℕ → Option MemoryBlock → Option MemoryBlock
sized_block base pages None = None
sized_block base pages (Some block) = Some (record {
  base = base;
  bytes = take (PAGE_SIZE * pages) block.bytes ++ zeros (PAGE_SIZE * (pages - length block.locks));
  locks = take pages block.locks ++ zeros (pages - length block.locks);
})

-- a run of n bytes moves from one place to another; what it left is 0

-- how many bytes it left, and from where on
abbrev pub vacant_count : ℕ → ℕ → ℕ → ℕ
vacant_count from to n = min (if nat_lt from to then to - from else from - to) n

abbrev pub vacant_start : ℕ → ℕ → ℕ → ℕ
vacant_start from to n = if nat_lt from to then from else from + (n - vacant_count from to n)

unfoldable pub after_slide : List ℕ → ℕ → ℕ → ℕ → List ℕ
after_slide bytes from to n = put (put bytes to (region bytes from n)) (vacant_start from to n) (copies (vacant_count from to n) 0)

-- at index `place`, the handle less 1, there is a block of that many pages; with it at that linear address the blocks would be sound
pub record CanMove (blocks : List (Option MemoryBlock)) (place base pages : ℕ) : Type 0 where
  pub handles : length blocks ≡ MAX_BLOCKS
  pub within : place < MAX_BLOCKS
  pub some : pages ≢ 0
  pub count : pages_of_block (slice_index_or blocks place None) ≡ pages
  pub whole : base % PAGE_SIZE ≡ 0
  pub above : BLOCK_REGION ≤ base
  pub below : base + PAGE_SIZE * pages ≤ BLOCK_REGION_END
  pub apart : (other : ℕ) (block : MemoryBlock) → other ≢ place → slice_index_or blocks other None ≡ Some block →
      (base + PAGE_SIZE * pages ≤ block.base) ⊎ (block.base + length block.bytes ≤ base)

-- the block of a handle may get that linear address and that many pages
pub record CanSize (blocks : List (Option MemoryBlock)) (budget handle base pages : ℕ) : Type 0 where
  pub held : block_at blocks handle ≢ None
  pub some : 0 < pages
  pub whole : base % PAGE_SIZE ≡ 0
  pub above : BLOCK_REGION ≤ base
  pub below : base + PAGE_SIZE * pages ≤ BLOCK_REGION_END
  pub apart : (other : ℕ) (block : MemoryBlock) → other ≢ handle → block_at blocks other ≡ Some block →
      (base + PAGE_SIZE * pages ≤ block.base) ⊎ (block.base + length block.bytes ≤ base)
  pub room : pages_of_blocks blocks + pages ≤ budget + pages_of_block (block_at blocks handle)

-- a block has the place
abbrev pub IsBlocks : Place → Type 0
IsBlocks (Dos at) = ⊥
IsBlocks (Block number at) = ⊤
IsBlocks Host = ⊥
IsBlocks Nothing = ⊥

-- the lock count of the page of a place, 0 where it is no block's
abbrev pub lock_in : List (Option MemoryBlock) → Place → ℕ
lock_in blocks (Dos at) = 0
lock_in blocks (Block number at) = slice_index (locks_of_block (block_at blocks number)) (at / PAGE_SIZE)
lock_in blocks Host = 0
lock_in blocks Nothing = 0

-- a block with another lock count of a page
abbrev pub with_page_lock : Option MemoryBlock → ℕ → ℕ → Option MemoryBlock
with_page_lock None page n = None
with_page_lock (Some block) page n = Some (record { base = block.base; bytes = block.bytes; locks = slice_set block.locks page n })

-- the blocks with another lock count of the page of a place
abbrev pub with_lock : List (Option MemoryBlock) → Place → ℕ → List (Option MemoryBlock)
with_lock blocks (Dos at) n = blocks
with_lock blocks (Block number at) n = with_block_at blocks number (with_page_lock (block_at blocks number) (at / PAGE_SIZE) n)
with_lock blocks Host n = blocks
with_lock blocks Nothing n = blocks

-- a block with zeros in one of its pages
abbrev pub with_zero_page : Option MemoryBlock → ℕ → Option MemoryBlock
with_zero_page None page = None
with_zero_page (Some block) page =
    Some (record { base = block.base; bytes = put block.bytes (PAGE_SIZE * page) (copies PAGE_SIZE 0); locks = block.locks })

-- the blocks with zeros in the page of a place
abbrev pub blocks_with_zero_page : List (Option MemoryBlock) → Place → List (Option MemoryBlock)
blocks_with_zero_page blocks (Dos at) = blocks
blocks_with_zero_page blocks (Block number at) = with_block_at blocks number (with_zero_page (block_at blocks number) (at / PAGE_SIZE))
blocks_with_zero_page blocks Host = blocks
blocks_with_zero_page blocks Nothing = blocks

-- the pages of all blocks that are locked
abbrev pub locked_pages : List (Option MemoryBlock) → ℕ
locked_pages [] = 0
locked_pages (block ∷ blocks) = used (locks_of_block block) + locked_pages blocks

-- how many of n pages of the block region are locked
unfoldable pub locked_run : List ℕ → ℕ → ℕ → ℕ
locked_run locks first n = used (listed n (λ page. lock_of locks (first + page)))

-- the pages of a row that are locked
abbrev pub locked_of : List ℕ → List ℕ → ℕ → ℕ
locked_of handles locks place = locked_run locks (first_page_of handles place) (pages_of handles place)

-- and those of all rows. It stays closed, since the rows are many
unfoldable pub all_locked : List ℕ → List ℕ → ℕ
all_locked handles locks = total (locked_of handles locks) (range_with_len 0 MAX_BLOCKS)

-- the linear address and the pages of a block, if there is one
abbrev pub row_seen : Option MemoryBlock → Option BlockRow
row_seen None = None
row_seen (Some block) = Some (record { base = block.base; pages = length block.locks })
