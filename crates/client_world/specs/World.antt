-- The state of a run, as the definitions see it. Source: own.
use Rattle.std.specs.{Prelude.{ℕ, zero, suc, List, Bool, length, slice_index_or, slice_set, None, Some}, declared.option.Option.{Option}}
use Rattle.client_world.specs.{declared.registers.Mode.{Mode}, declared.registers.Regs.{Regs}, declared.registers.Width.{Width}}
use Rattle.client_world.specs.{declared.segments.FarPtr.{FarPtr}, declared.dos_memory.DosEntry.{DosEntry}, declared.calls.Record.{Record}}
use Rattle.client_world.specs.{declared.trace.TraceLine.{TraceLine}, declared.outcome.Exit.{Exit}, Selector.{Row}}

-- a memory block: its linear address, its bytes, and a lock count for each of its pages
pub record MemoryBlock : Type 0 where
  pub base : ℕ
  pub bytes : List ℕ
  pub locks : List ℕ

-- a callback that is held: its procedure and its call structure
abbrev pub Callback : Type 0
Callback = FarPtr × FarPtr

-- the machine: the processor, the memory that the client sees, and what the services keep. A finite map is a list of options whose
-- length is the number of its places
pub record World : Type 0 where
  pub mode : Mode
  pub regs : Regs
  -- the virtual interrupt flag
  pub vif : Bool
  -- the client's width, which is absent before its entry to protected mode
  pub width : Option Width
  -- the bytes of the DOS megabyte
  pub dos : List ℕ
  -- the entries of DOS memory in their order
  pub arena : List DosEntry
  -- the memory blocks, the one of handle h at place h - 1
  pub blocks : List (Option MemoryBlock)
  -- the pages that they may have together
  pub budget : ℕ
  -- for each page that shows the DOS megabyte whether it may be paged out
  pub pageable : List Bool
  -- the descriptors of the client's table
  pub descriptors : List Row
  -- the protected-mode interrupt vectors
  pub interrupt_vectors : List FarPtr
  -- the protected-mode exception vectors
  pub exception_vectors : List FarPtr
  pub callbacks : List (Option Callback)
  -- the records of the calls that haven't returned, the outermost one first
  pub calls : List Record

-- the host: the machine, the client's keystrokes and console, the trace, and how the run goes
pub record HostWorld : Type 0 where
  pub machine : World
  -- the keystrokes that are left
  pub keys : List ℕ
  -- what the client wrote
  pub console : List ℕ
  -- how many lines of the trace are kept at most, the first ones
  pub keep : ℕ
  pub kept : List TraceLine
  -- how many lines there were
  pub lines : ℕ
  -- how many turns were made
  pub steps : ℕ
  pub exit : Option Exit

-- the number of records
abbrev pub depth : World → ℕ
depth w = length w.calls

-- the memory block of a handle; no block has handle 0
abbrev pub block_at : List (Option MemoryBlock) → ℕ → Option MemoryBlock
block_at blocks zero = None
block_at blocks (suc place) = slice_index_or blocks place None

-- the linear address of a block, 0 where there is none
abbrev pub base_of_block : Option MemoryBlock → ℕ
base_of_block None = 0
base_of_block (Some block) = block.base

-- the blocks with another one, or none, at a handle
abbrev pub with_block_at : List (Option MemoryBlock) → ℕ → Option MemoryBlock → List (Option MemoryBlock)
with_block_at blocks zero block = blocks
with_block_at blocks (suc place) block = slice_set blocks place block
