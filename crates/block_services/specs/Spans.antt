-- The pages of the memory blocks, counted from the start of the block region. Source: own.
use Rattle.std.specs.{Prelude.{ℕ, zero, suc, ◌+◌, ◌-◌, ◌/◌, List, [], ◌∷◌, ◌++◌, None, Some}, declared.option.Option.{Option}}
use Rattle.client_world.specs.{declared.blocks.BlockRow.{BlockRow}, declared.host_frames.TheConstants.{PAGE_SIZE}}
use Rattle.client_world.specs.{declared.memory_map.TheConstants.{BLOCK_REGION}, World.{MemoryBlock, block_at}}
use Rattle.block_memory.specs.BlockSizes.{row_seen}
use Rattle.block_services.specs.declared.spans.Span.{Span}

-- the pages of a block
abbrev pub span_of : BlockRow → Span
span_of row = record { first = (row.base - BLOCK_REGION) / PAGE_SIZE; after = (row.base - BLOCK_REGION) / PAGE_SIZE + row.pages }

-- those of a handle's block, if there is one
abbrev pub spans_of_row : Option BlockRow → List Span
spans_of_row None = []
spans_of_row (Some row) = span_of row ∷ []

-- those of the blocks of handles 1 to n, in this order
unfoldable pub held_spans : List (Option MemoryBlock) → ℕ → List Span
held_spans blocks zero = []
held_spans blocks (suc n) = held_spans blocks n ++ spans_of_row (row_seen (block_at blocks (suc n)))
