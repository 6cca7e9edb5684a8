-- What is true of every world that is reached. Each part of the world has its own conditions. Source: own.
use Rattle.std.specs.Prelude.{◌≡◌, ◌≢◌, ⊤, ℕ, ◌+◌, ◌-◌, ◌*◌, ◌/◌, ◌%◌, ◌<◌, ◌≤◌, ◌⊎◌, Bool, true, false, List, [], ◌∷◌, length, None, Some}
use Rattle.std.specs.{Prelude.{slice_index, slice_index_or, slice_get}, declared.option.Option.{Option}}
use Rattle.client_world.specs.{declared.registers.Mode.TheVariants.{Real}, declared.registers.Regs.{Regs}, declared.registers.Width.{Width}}
use Rattle.client_world.specs.{declared.registers.Width.TheVariants.{Sixteen, ThirtyTwo}, declared.descriptors.Desc.{Desc}}
use Rattle.client_world.specs.{declared.descriptors.Kind.TheVariants.{Data, Code}, declared.descriptors.Origin.{Origin}}
use Rattle.client_world.specs.declared.descriptors.Origin.TheVariants.{Own, Low, Entry, Psp, Segment, Dos, Host}
use Rattle.client_world.specs.{declared.dos_memory.DosEntry.{DosEntry}, declared.host_frames.TheConstants.{PAGE_SIZE, DESCRIPTORS}}
use Rattle.client_world.specs.{declared.host_frames.TheConstants.{FIRST_FREE_DESCRIPTOR}, declared.limits.TheConstants.{MAX_BLOCKS}}
use Rattle.client_world.specs.declared.limits.TheConstants.{GREATEST_LOCK_COUNT, GREATEST_DEPTH, CALLBACKS, INTERRUPT_VECTORS}
use Rattle.client_world.specs.{declared.limits.TheConstants.{EXCEPTION_VECTORS}, declared.memory_map.TheConstants.{DOS_SIZE}}
use Rattle.client_world.specs.declared.memory_map.TheConstants.{DOS_VIEW_PAGES, ROM_START, ROM_BYTE, BLOCK_REGION, BLOCK_REGION_END}
use Rattle.client_world.specs.declared.memory_map.TheConstants.{PROTECTED_STACKS, PROTECTED_STACK_SIZE}
use Rattle.client_world.specs.{declared.selectors.TheConstants.{HOST_CODE, HOST_STACKS, CALLBACK_STACKS}, Descriptor.{plain}}
use Rattle.client_world.specs.{DosMemory.{IsArena, is_dpmi, block_segment}, Selector.{Row, FitsRow, row_at_index}, World.{World, HostWorld}}
use Rattle.client_world.specs.World.{MemoryBlock, block_at}

-- each segment register holds a word
pub record HasSegments (r : Regs) : Type 0 where
  pub es : r.es < 0x10000
  pub cs : r.cs < 0x10000
  pub ss : r.ss < 0x10000
  pub ds : r.ds < 0x10000
  pub fs : r.fs < 0x10000
  pub gs : r.gs < 0x10000

-- the megabyte is whole and made of bytes, and its read-only part is all HLT
pub record SoundMegabyte (dos : List ℕ) : Type 0 where
  pub size : length dos ≡ DOS_SIZE
  pub bytes : (at : ℕ) → slice_index dos at < 0x100
  pub rom : (at : ℕ) → ROM_START ≤ at → at < DOS_SIZE → slice_index dos at ≡ ROM_BYTE

-- a block is whole pages in the block region, at least one, with a lock count for each
pub record IsBlock (block : MemoryBlock) : Type 0 where
  pub some : 0 < length block.bytes
  pub pages : length block.bytes ≡ PAGE_SIZE * length block.locks
  pub whole : block.base % PAGE_SIZE ≡ 0
  pub from : BLOCK_REGION ≤ block.base
  pub to : block.base + length block.bytes ≤ BLOCK_REGION_END
  pub locks : (page : ℕ) → slice_index block.locks page ≤ GREATEST_LOCK_COUNT

-- two blocks don't meet
abbrev pub AreApart : MemoryBlock → MemoryBlock → Type 0
AreApart one other =
    (one.base + length one.bytes ≤ other.base) ⊎ (other.base + length other.bytes ≤ one.base)

-- the pages of all blocks together
abbrev pub pages_of_block : Option MemoryBlock → ℕ
pages_of_block None = 0
pages_of_block (Some block) = length block.locks

abbrev pub pages_of_blocks : List (Option MemoryBlock) → ℕ
pages_of_blocks [] = 0
pages_of_blocks (block ∷ blocks) = pages_of_block block + pages_of_blocks blocks

-- handles are 1 to `MAX_BLOCKS`; the blocks don't meet, and fit the budget
pub record SoundBlocks (blocks : List (Option MemoryBlock)) (budget : ℕ) : Type 0 where
  pub handles : length blocks ≡ MAX_BLOCKS
  pub each : (handle : ℕ) (block : MemoryBlock) → block_at blocks handle ≡ Some block → IsBlock block
  pub apart : (one other : ℕ) (first second : MemoryBlock) → one ≢ other → block_at blocks one ≡ Some first →
      block_at blocks other ≡ Some second → AreApart first second
  pub within : pages_of_blocks blocks ≤ budget

-- what the blocks hold are bytes
abbrev pub HoldBytes : List (Option MemoryBlock) → Type 0
HoldBytes blocks = (handle : ℕ) (block : MemoryBlock) → block_at blocks handle ≡ Some block → (at : ℕ) → slice_index block.bytes at < 0x100

-- the row has that origin
abbrev pub HasOrigin : Row → Origin → Type 0
HasOrigin None origin = ⊥
HasOrigin (Some row) origin = row.1 ≡ origin

-- it belongs to a block of DOS memory
abbrev pub IsDosOrigin : Origin → Type 0
IsDosOrigin Own = ⊥
IsDosOrigin Low = ⊥
IsDosOrigin Entry = ⊥
IsDosOrigin Psp = ⊥
IsDosOrigin (Segment segment) = ⊥
IsDosOrigin (Dos segment) = ⊤
IsDosOrigin Host = ⊥

abbrev pub IsOfDosBlock : Row → Type 0
IsOfDosBlock None = ⊥
IsOfDosBlock (Some row) = IsDosOrigin row.1

-- it belongs to neither a real segment, nor a block of DOS memory, nor the host
abbrev pub IsPlainOrigin : Origin → Type 0
IsPlainOrigin Own = ⊤
IsPlainOrigin Low = ⊤
IsPlainOrigin Entry = ⊤
IsPlainOrigin Psp = ⊤
IsPlainOrigin (Segment segment) = ⊥
IsPlainOrigin (Dos segment) = ⊥
IsPlainOrigin Host = ⊥

abbrev pub IsPlainRow : Row → Type 0
IsPlainRow None = ⊤
IsPlainRow (Some row) = IsPlainOrigin row.1

-- indices are below 8192, bases have 32 bits and limits 20, and a real segment has one descriptor at most
pub record SoundDescriptors (rows : List Row) : Type 0 where
  pub indices : length rows ≡ DESCRIPTORS
  pub fits : (index : ℕ) → FitsRow (row_at_index rows index)
  pub segments : (one other segment : ℕ) → HasOrigin (row_at_index rows one) (Segment segment) →
      HasOrigin (row_at_index rows other) (Segment segment) → one ≡ other

-- the descriptors of a DOS block of n paragraphs: one for each 64 KB
abbrev pub descriptors_for : ℕ → ℕ
descriptors_for paragraphs = (paragraphs + 0xFFF) / 0x1000

-- the rows with that origin are exactly the n from an index on
pub record IsRunOf (rows : List Row) (origin : Origin) (first n : ℕ) : Type 0 where
  pub have : (index : ℕ) → first ≤ index → index < first + n → HasOrigin (row_at_index rows index) origin
  pub from : (index : ℕ) → HasOrigin (row_at_index rows index) origin → first ≤ index
  pub to : (index : ℕ) → HasOrigin (row_at_index rows index) origin → index < first + n

-- an entry of DOS memory for which INT 31h function 0100h made descriptors, and where they are
pub record HasRun (rows : List Row) (entry : DosEntry) : Type 0 where
  pub some : 0 < entry.paras
  pub first : ℕ
  pub free : FIRST_FREE_DESCRIPTOR ≤ first
  pub run : IsRunOf rows (Dos (block_segment entry)) first (descriptors_for entry.paras)

-- the entry of DOS memory to which a descriptor belongs
pub record HasEntry (arena : List DosEntry) (segment : ℕ) : Type 0 where
  pub place : ℕ
  pub entry : DosEntry
  pub there : slice_get arena place ≡ Some entry
  pub made : is_dpmi entry.state ≡ true
  pub starts : block_segment entry ≡ segment

-- the descriptors of DOS blocks: one run for each block that function 0100h made, and no others
pub record SoundRuns (rows : List Row) (arena : List DosEntry) : Type 0 where
  pub runs : (place : ℕ) (entry : DosEntry) → slice_get arena place ≡ Some entry → is_dpmi entry.state ≡ true → HasRun rows entry
  pub entries : (index segment : ℕ) → HasOrigin (row_at_index rows index) (Dos segment) → HasEntry arena segment

-- the client is one of 32 bits
abbrev pub is_wide : Width → Bool
is_wide Sixteen = false
is_wide ThirtyTwo = true

-- the host's code: 16-bit, from F0000h, limit FFFFh
abbrev pub host_code : Row
host_code = Some (plain Code ROM_START 0xFFFF false, Host)

-- the segment of the host's protected-mode stacks, of the client's width
abbrev pub host_stacks : Width → Row
host_stacks width = Some (
  plain (Data true false) PROTECTED_STACKS (GREATEST_DEPTH * PROTECTED_STACK_SIZE - 1) (is_wide width),
  Host,
)

-- the index is one of the descriptors that callbacks get for the real stack
abbrev pub IsCallbackStack : ℕ → Type 0
IsCallbackStack index = (CALLBACK_STACKS ≤ index) × (index < CALLBACK_STACKS + GREATEST_DEPTH)

-- the index is none of those at which the host's own descriptors are
pub record IsClientsIndex (index : ℕ) : Type 0 where
  pub code : index ≢ HOST_CODE
  pub stacks : index ≢ HOST_STACKS
  pub callbacks : ¬ IsCallbackStack index

-- the host's own descriptors, once there is a width
pub record HostRows (rows : List Row) (width : Width) : Type 0 where
  pub code : row_at_index rows HOST_CODE ≡ host_code
  pub stacks : row_at_index rows HOST_STACKS ≡ host_stacks width
  pub others : (index : ℕ) → HasOrigin (row_at_index rows index) Host → index ≢ HOST_CODE → index ≢ HOST_STACKS → IsCallbackStack index
  pub callbacks : (index : ℕ) (row : Desc × Origin) → IsCallbackStack index → row_at_index rows index ≡ Some row → row.1 ≡ Host

-- before the entry the mode is real, and there are no descriptors, blocks, callbacks and calls
pub record BeforeEntry (w : World) : Type 0 where
  pub mode : w.mode ≡ Real
  pub descriptors : (index : ℕ) → row_at_index w.descriptors index ≡ None
  pub blocks : (handle : ℕ) → block_at w.blocks handle ≡ None
  pub callbacks : (slot : ℕ) → slice_index_or w.callbacks slot None ≡ None
  pub calls : length w.calls ≡ 0

-- what the width decides
abbrev pub SoundWidth : Option Width → World → Type 0
SoundWidth None w = BeforeEntry w
SoundWidth (Some width) w = HostRows w.descriptors width

-- a world that can be reached
pub record IsSound (w : World) : Type 0 where
  pub segments : HasSegments w.regs
  pub megabyte : SoundMegabyte w.dos
  pub arena : IsArena w.arena
  pub blocks : SoundBlocks w.blocks w.budget
  pub block_bytes : HoldBytes w.blocks
  pub pageable : length w.pageable ≡ DOS_VIEW_PAGES
  pub descriptors : SoundDescriptors w.descriptors
  pub runs : SoundRuns w.descriptors w.arena
  pub interrupt_vectors : length w.interrupt_vectors ≡ INTERRUPT_VECTORS
  pub exception_vectors : length w.exception_vectors ≡ EXCEPTION_VECTORS
  pub callbacks : length w.callbacks ≡ CALLBACKS
  pub depth : length w.calls ≤ GREATEST_DEPTH
  pub width : SoundWidth w.width w

-- and of a host: each turn notes two lines at most
pub record IsSoundHost (w : HostWorld) : Type 0 where
  pub machine : IsSound w.machine
  pub lines : w.lines ≤ 2 * w.steps
